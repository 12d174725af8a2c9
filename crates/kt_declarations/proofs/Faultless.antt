-- What is right of the fields of a struct whose judgment finds no fault.
use Rattle.std.proofs.Common.{◌≡◌, ℕ, zero, suc, ◌+◌, ◌≤◌, Bool, true, false, not, ◌&&◌, ◌||◌, nat_le, List, [], ◌∷◌, map, slice_get, Option, None, Some, refl, sym, ap, ◌∙◌, subst, arith, true≢false}
use Rattle.std.specs.List.{list_all}
use Rattle.std.specs.Str.{bytes_eq}
use Rattle.std.proofs.lemmas.Bool.Decides.{nat_tests}
use Rattle.std.proofs.lemmas.Option.{none-some}
use Rattle.kt_grammar.specs.declared.tree.Name.{Name}
use Rattle.kt_syntax.specs.declared.tree.Fields.{Fields}
use Rattle.kt_typing.specs.declared.fault.Fault.{Fault}
use Rattle.kt_typing.specs.declared.fault.Kind.TheVariants as kind
use Rattle.kt_typing.specs.Environment.{Environment}
use Rattle.kt_typing.specs.Faults.{fault_at}
use Rattle.kt_typing.specs.First.{earlier}
use Rattle.kt_program.specs.Declarators.{where_not, extent_of}
use Rattle.kt_program.specs.FileTable.{are_distinct}
use Rattle.kt_program.specs.Judgments.{first_wrong, first_among}
use Rattle.kt_program.specs.Scopes.{contains}
use Rattle.kt_program.specs.Structs.{is_array_count, inner_extent_fault, field, field_cells, fields_judged, bases_judged, struct}
use Rattle.kt_program.specs.Views.{Field, all_fields}
use Rattle.kt_declarations.specs.Fields.{all_cells}
use Rattle.kt_declarations.proofs.Earlier.{three-first}
use Rattle.kt_declarations.proofs.Mapped.{same, itself}
use Rattle.kt_declarations.proofs.Right.{first-none, later-none, holds, and-first, and-second}
use Rattle.kt_declarations.proofs.Spelled.{and-both}

at-most : (n : ℕ) → nat_le n 65536 ≡ true → n ≤ 65536
at-most n e = grind (arith, nat_tests)

not-true : (b : Bool) → not b ≡ true → b ≡ false
not-true true e = absurd (true≢false (sym e))
not-true false e = refl

or-true : (b : Bool) → (b || true) ≡ true
or-true true = refl
or-true false = refl

abbrev name_of : Field → List ℕ
name_of x = x.declarator.name.word

-- what is right of a field
record IsRight (env : Environment) (fields : List Field) (names : List (List ℕ)) (cells : ℕ) (x : Field) : Type 0 where
  extent : inner_extent_fault env fields (extent_of x.declarator.pointer) ≡ None
  new : contains names (name_of x) ≡ false
  count : is_array_count x.declarator.count ≡ true
  fits : cells + field_cells env x ≤ 65536

field-right : (env : Environment) (fields : List Field) (names : List (List ℕ)) (cells : ℕ) (x : Field) → first_wrong (field env fields names cells x) ≡ None → IsRight env fields names cells x
field-right env fields names cells x e =
    let a = inner_extent_fault env fields (extent_of x.declarator.pointer) in
    let one = not (contains names (name_of x)) in
    let small = is_array_count x.declarator.count && nat_le (cells + field_cells env x) 65536 in
    let b = where_not one (fault_at kind.Twice x.declarator.name.at) in
    let c = where_not small (fault_at kind.TooBig x.declarator.name.at) in
    let all = sym (three-first a b c) ∙ e in
    let two = later-none a (earlier b c) all in
    let sized = holds small (fault_at kind.TooBig x.declarator.name.at) (later-none b c two) in
    record {
      extent = first-none a (earlier b c) all;
      new = not-true (contains names (name_of x)) (holds one (fault_at kind.Twice x.declarator.name.at) (first-none b c two));
      count = and-first (is_array_count x.declarator.count) (nat_le (cells + field_cells env x) 65536) sized;
      fits = at-most (cells + field_cells env x) (and-second (is_array_count x.declarator.count) (nat_le (cells + field_cells env x) 65536) sized);
    }

module _ (env : Environment) (fields : List Field) where
  abbrev AreRight : List (List ℕ) → ℕ → List Field → Type 0
  AreRight names cells xs = first_among (fields_judged env fields names cells xs) ≡ None

  abbrev rest_of : List (List ℕ) → ℕ → Field → List Field → Option Fault
  rest_of names cells x xs = first_among (fields_judged env fields (name_of x ∷ names) (cells + field_cells env x) xs)

  here : (names : List (List ℕ)) (cells : ℕ) (x : Field) (xs : List Field) → AreRight names cells (x ∷ xs) → IsRight env fields names cells x
  here names cells x xs e = field-right env fields names cells x (first-none (first_wrong (field env fields names cells x)) (rest_of names cells x xs) e)

  there : (names : List (List ℕ)) (cells : ℕ) (x : Field) (xs : List Field) → AreRight names cells (x ∷ xs) → AreRight (name_of x ∷ names) (cells + field_cells env x) xs
  there names cells x xs e = later-none (first_wrong (field env fields names cells x)) (rest_of names cells x xs) e

  free : (names : List (List ℕ)) (cells : ℕ) (xs : List Field) → AreRight names cells xs → (q : List ℕ) → contains names q ≡ true → contains (map name_of xs) q ≡ false
  free names cells [] e q h = refl
  free names cells (x ∷ xs) e q h =
      by (bytes_eq (name_of x) q) refl (free (name_of x ∷ names) (cells + field_cells env x) xs (there names cells x xs e) q (ap (λ b. bytes_eq (name_of x) q || b) h ∙ or-true (bytes_eq (name_of x) q)))
    where
      by : (b : Bool) → bytes_eq (name_of x) q ≡ b → contains (map name_of xs) q ≡ false → contains (map name_of (x ∷ xs)) q ≡ false
      by true t later = absurd (true≢false (sym h ∙ ap (contains names) (sym (same (name_of x) q t)) ∙ (here names cells x xs e).new))
      by false t later = rw t later

  pub distinct : (names : List (List ℕ)) (cells : ℕ) (xs : List Field) → AreRight names cells xs → are_distinct (map name_of xs) ≡ true
  distinct names cells [] e = refl
  distinct names cells (x ∷ xs) e =
      let later = there names cells x xs e in
      and-both (not (contains (map name_of xs) (name_of x))) (are_distinct (map name_of xs))
      (ap not (free (name_of x ∷ names) (cells + field_cells env x) xs later (name_of x) (ap (λ b. b || contains names (name_of x)) (itself (name_of x)))))
      (distinct (name_of x ∷ names) (cells + field_cells env x) xs later)

  pub counted : (names : List (List ℕ)) (cells : ℕ) (xs : List Field) → AreRight names cells xs → list_all (λ (x : Field). is_array_count x.declarator.count) xs ≡ true
  counted names cells [] e = refl
  counted names cells (x ∷ xs) e =
      and-both (is_array_count x.declarator.count) (list_all (λ (x : Field). is_array_count x.declarator.count) xs) (here names cells x xs e).count
      (counted (name_of x ∷ names) (cells + field_cells env x) xs (there names cells x xs e))

  pub few : (names : List (List ℕ)) (cells : ℕ) (xs : List Field) → cells ≤ 65536 → AreRight names cells xs → cells + all_cells env xs ≤ 65536
  few names cells [] h e = omega arith
  few names cells (x ∷ xs) h e =
      let more = few (name_of x ∷ names) (cells + field_cells env x) xs (here names cells x xs e).fits (there names cells x xs e) in
      omega arith

  pub extended : (names : List (List ℕ)) (cells : ℕ) (xs : List Field) (i : ℕ) (x : Field) → AreRight names cells xs → slice_get xs i ≡ Some x → inner_extent_fault env fields (extent_of x.declarator.pointer) ≡ None
  extended names cells [] i x e at = absurd (none-some x at)
  extended names cells (y ∷ xs) zero x e at =
      let is : y ≡ x = cc in
      subst (λ z. inner_extent_fault env fields (extent_of z.declarator.pointer) ≡ None) is (here names cells y xs e).extent
  extended names cells (y ∷ xs) (suc i) x e at = extended (name_of y ∷ names) (cells + field_cells env y) xs i x (there names cells y xs e) at

module _ (env : Environment) (defined : List (List ℕ)) (n : Name) (fs : List Fields) (right : first_wrong (struct env defined n fs) ≡ None) where
  abbrev parts : Option Fault
  parts = earlier (first_among (bases_judged env fs)) (earlier (first_among (fields_judged env (all_fields fs) [] 0 (all_fields fs))) None)

  pub new-right : contains defined n.word ≡ false
  new-right =
      not-true (contains defined n.word)
      (holds (not (contains defined n.word)) (fault_at kind.Twice n.at) (first-none (where_not (not (contains defined n.word)) (fault_at kind.Twice n.at)) parts right))

  pub fields-right : first_among (fields_judged env (all_fields fs) [] 0 (all_fields fs)) ≡ None
  fields-right =
      first-none (first_among (fields_judged env (all_fields fs) [] 0 (all_fields fs))) None
      (later-none (first_among (bases_judged env fs)) (earlier (first_among (fields_judged env (all_fields fs) [] 0 (all_fields fs))) None)
      (later-none (where_not (not (contains defined n.word)) (fault_at kind.Twice n.at)) parts right))
