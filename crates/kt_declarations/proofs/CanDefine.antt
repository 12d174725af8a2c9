-- Structs that can be defined.
use Rattle.std.proofs.Common.{◌≡◌, ◌≢◌, ℕ, zero, suc, ◌+◌, ◌<◌, ◌≤◌, Bool, true, false, not, ◌&&◌, ◌||◌, nat_le, List, [], ◌∷◌, ◌++◌, length, length-append, map, slice_get, Option, None, Some, is_some, refl, sym, ap, ◌∙◌, subst, arith, true≢false}
use Rattle.std.specs.Option.{option_map, option_and_then}
use Rattle.std.specs.Str.{bytes_eq}
use Rattle.std.proofs.lemmas.Bool.Decides.{nat_tests}
use Rattle.std.proofs.lemmas.Option.{none-some}
use Rattle.kt_grammar.specs.declared.tree.Name.{Name}
use Rattle.kt_syntax.specs.declared.tree.Fields.{Fields}
use Rattle.kt_types.specs.declared.kinds.FieldDecl.{FieldDecl}
use Rattle.kt_types.specs.declared.kinds.Ty.{Ty}
use Rattle.kt_types.specs.Layout.{joined, layout, CanDefine}
use Rattle.kt_types.specs.Table.{Table, fields_of, HasDistinctNames}
use Rattle.kt_typing.specs.Environment.{Environment}
use Rattle.kt_program.specs.FileTable.{are_distinct, are_few, can_define}
use Rattle.kt_program.specs.Judgments.{first_wrong}
use Rattle.kt_program.specs.Scopes.{contains}
use Rattle.kt_program.specs.Structs.{field_cells, struct}
use Rattle.kt_program.specs.Views.{Field, all_fields}
use Rattle.kt_declarations.specs.Fields.{all_cells, AreLaid}
use Rattle.kt_declarations.proofs.Faultless.{fields-right, distinct, few}
use Rattle.kt_declarations.proofs.Mapped.{itself}
use Rattle.kt_declarations.proofs.Right.{and-first, and-second}
use Rattle.kt_declarations.proofs.Spelled.{and-both}

not-true : (b : Bool) → not b ≡ true → b ≡ false
not-true true e = absurd (true≢false (sym e))
not-true false e = refl

no-value : {A : Type 0} (o : Option A) → is_some o ≡ false → o ≡ None
no-value None e = refl
no-value (Some x) e = absurd (true≢false e)

or-true : (b : Bool) → (b || true) ≡ true
or-true true = refl
or-true false = refl

-- ---- names

stands : (ds : List FieldDecl) (j : ℕ) (g : FieldDecl) → slice_get ds j ≡ Some g → contains (map (λ (f : FieldDecl). f.name) ds) g.name ≡ true
stands [] j g e = absurd (none-some g e)
stands (d ∷ ds) zero g e =
    let is : d ≡ g = cc in
    ap (λ (f : FieldDecl). bytes_eq f.name g.name || contains (map (λ (f : FieldDecl). f.name) ds) g.name) is ∙ ap (λ b. b || contains (map (λ (f : FieldDecl). f.name) ds) g.name) (itself g.name)
stands (d ∷ ds) (suc j) g e = ap (λ b. bytes_eq d.name g.name || b) (stands ds j g e) ∙ or-true (bytes_eq d.name g.name)

names-apart : (ds : List FieldDecl) → are_distinct (map (λ (f : FieldDecl). f.name) ds) ≡ true → HasDistinctNames ds
names-apart [] e i j f g lt a b = absurd (none-some f a)
names-apart (d ∷ ds) e zero zero f g lt a b = absurd (omega arith)
names-apart (d ∷ ds) e zero (suc j) f g lt a b = λ same.
    let is : d ≡ f = cc in
    let free = not-true (contains (map (λ (f : FieldDecl). f.name) ds) d.name) (and-first (not (contains (map (λ (f : FieldDecl). f.name) ds) d.name)) (are_distinct (map (λ (f : FieldDecl). f.name) ds)) e) in
    true≢false (sym (stands ds j g b) ∙ ap (contains (map (λ (f : FieldDecl). f.name) ds)) (sym same ∙ ap (λ (h : FieldDecl). h.name) (sym is)) ∙ free)
names-apart (d ∷ ds) e (suc i) zero f g lt a b = absurd (omega arith)
names-apart (d ∷ ds) e (suc i) (suc j) f g lt a b =
    names-apart ds (and-second (not (contains (map (λ (f : FieldDecl). f.name) ds) d.name)) (are_distinct (map (λ (f : FieldDecl). f.name) ds)) e) i j f g (omega arith) a b

-- ---- what the test says

at-most : (n : ℕ) → nat_le n 65536 ≡ true → n ≤ 65536
at-most n e = grind (arith, nat_tests)

least : (n : ℕ) → n ≤ 65536 → nat_le n 65536 ≡ true
least n e = grind (arith, nat_tests)

few-cells : (o : Option (List Ty)) → are_few o ≡ true → (cs : List Ty) × (o ≡ Some cs) × (length cs ≤ 65536)
few-cells None e = absurd (true≢false (sym e))
few-cells (Some cs) e = (cs, refl, at-most (length cs) e)

pub can-be : (t : Table) (s : ℕ) (ds : List FieldDecl) → can_define t s ds ≡ true → CanDefine t s ds
can-be t s ds e =
    let both = and-first (not (is_some (fields_of t s)) && are_distinct (map (λ (f : FieldDecl). f.name) ds)) (are_few (joined (layout t) ds)) e in
    let size = and-second (not (is_some (fields_of t s)) && are_distinct (map (λ (f : FieldDecl). f.name) ds)) (are_few (joined (layout t) ds)) e in
    let new = no-value (fields_of t s) (not-true (is_some (fields_of t s)) (and-first (not (is_some (fields_of t s))) (are_distinct (map (λ (f : FieldDecl). f.name) ds)) both)) in
    let (cs, joins, few) = few-cells (joined (layout t) ds) size in
    ((new, names-apart ds (and-second (not (is_some (fields_of t s))) (are_distinct (map (λ (f : FieldDecl). f.name) ds)) both)), cs, joins, few)

-- ---- fields of a struct with which nothing is wrong

laid : (env : Environment) (xs : List Field) (ds : List FieldDecl) → AreLaid env xs ds → (cs : List Ty) × (joined (layout env.scope.types) ds ≡ Some cs) × (length cs ≡ all_cells env xs)
laid env [] [] h = ([], refl, refl)
laid env (x ∷ xs) (d ∷ ds) (named, (cs, has, len), more) =
    let (rest, joins, others) = laid env xs ds more in
    (cs ++ rest, rw (has, joins) refl, omega (arith, length-append cs rest, len, others))
laid env [] (d ∷ ds) h = absurd h
laid env (x ∷ xs) [] h = absurd h

same-names : (env : Environment) (xs : List Field) (ds : List FieldDecl) → AreLaid env xs ds → map (λ (x : Field). x.declarator.name.word) xs ≡ map (λ (f : FieldDecl). f.name) ds
same-names env [] [] h = refl
same-names env (x ∷ xs) (d ∷ ds) (named, has, more) = λ i. sym named i ∷ same-names env xs ds more i
same-names env [] (d ∷ ds) h = absurd h
same-names env (x ∷ xs) [] h = absurd h

pub can-define : (env : Environment) (defined : List (List ℕ)) (n : Name) (fs : List Fields) (s : ℕ) (ds : List FieldDecl) → first_wrong (struct env defined n fs) ≡ None → fields_of env.scope.types s ≡ None
    → AreLaid env (all_fields fs) ds → can_define env.scope.types s ds ≡ true
can-define env defined n fs s ds right new are =
    let (cs, joins, len) = laid env (all_fields fs) ds are in
    let all = few env (all_fields fs) [] 0 (all_fields fs) (omega arith) (fields-right env defined n fs right) in
    let names = ap are_distinct (sym (same-names env (all_fields fs) ds are)) ∙ distinct env (all_fields fs) [] 0 (all_fields fs) (fields-right env defined n fs right) in
    and-both (not (is_some (fields_of env.scope.types s)) && are_distinct (map (λ (f : FieldDecl). f.name) ds)) (are_few (joined (layout env.scope.types) ds))
    (and-both (not (is_some (fields_of env.scope.types s))) (are_distinct (map (λ (f : FieldDecl). f.name) ds)) (ap (λ (o : Option (List FieldDecl)). not (is_some o)) new) names)
    (ap are_few joins ∙ least (length cs) (omega arith))
