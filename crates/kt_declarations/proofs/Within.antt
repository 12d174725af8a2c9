-- Fields of a struct one behind another.
use Rattle.std.proofs.Common.{if◌then◌else◌, ◌≡◌, ℕ, zero, suc, ◌+◌, ◌==◌, Bool, true, false, not, ◌||◌, List, [], ◌∷◌, ◌++◌, take, drop, map, length, slice_get, Option, None, Some, is_some, ◌≤◌, refl, sym, ap, ◌∙◌, subst, arith}
use Rattle.std.specs.List.{list_any, position_from}
use Rattle.std.specs.Str.{bytes_eq}
use Rattle.std.proofs.lemmas.Bool.{eq-eqb}
use Rattle.std.proofs.lemmas.Bool.Decides.{Decides-eqb}
use Rattle.std.proofs.lemmas.Option.{none-some}
use Rattle.kt_syntax.specs.declared.tree.Extent.{Extent}
use Rattle.kt_syntax.specs.declared.tree.Extent.TheVariants as extent
use Rattle.kt_syntax.specs.declared.tree.Fields.{Fields}
use Rattle.kt_typing.specs.declared.fault.Fault.{Fault}
use Rattle.kt_typing.specs.Environment.{Environment}
use Rattle.kt_typing.specs.First.{earlier}
use Rattle.kt_program.specs.Declarators.{base_fault, extent_fault}
use Rattle.kt_program.specs.Judgments.{first_wrong, first_among}
use Rattle.kt_program.specs.Mentioned.{stars_of}
use Rattle.kt_program.specs.Scopes.{contains}
use Rattle.kt_program.specs.Structs.{field, field_cells, fields_judged, bases_judged, inner_extent_fault}
use Rattle.kt_grammar.specs.declared.tree.Base.{Base}
use Rattle.kt_grammar.specs.declared.tree.Name.{Name}
use Rattle.kt_types.specs.declared.kinds.View.{View}
use Rattle.kt_types.specs.declared.kinds.View.TheVariants as view
use Rattle.kt_program.specs.Gathered.{OuterGlobal}
use Rattle.kt_declarations.specs.declared.field.FieldNames.{FieldNames}
use Rattle.kt_program.specs.Views.{Field, is_count_field, named_view, field_view_by, view_by}
use Rattle.kt_declarations.specs.Fields.{is_named, is_at, named_by, counts_named, place_by, AreKnown, AreBefore}
use Rattle.kt_declarations.specs.Met.{capped}
use Rattle.kt_declarations.proofs.Earlier.{earlier-assoc, earlier-none, last-first}
use Rattle.kt_declarations.proofs.Places.{take-next}

abbrev pub Reached : Environment → List Field → ℕ → Option Fault → ℕ → Type 0
Reached env fields place fault cells =
    (names : List (List ℕ)) × (n : ℕ) × AreBefore names fields place × (capped n ≡ cells)
    × (earlier fault (first_among (fields_judged env fields names n (drop place fields))) ≡ first_among (fields_judged env fields [] 0 fields))

pub any-push : {A : Type 0} (test : A → Bool) (xs : List A) (x : A) → list_any test (xs ++ x ∷ []) ≡ (test x || list_any test xs)
any-push test [] x = refl
any-push test (y ∷ xs) x = ap (λ b. test y || b) (any-push test xs x) ∙ swap (test y) (test x) (list_any test xs)
  where
    swap : (a b c : Bool) → (a || (b || c)) ≡ (b || (a || c))
    swap true true c = refl
    swap true false c = refl
    swap false b c = refl

pub front-of : {A : Type 0} (xs : List A) (i : ℕ) (x : A) → slice_get xs i ≡ Some x → drop i xs ≡ x ∷ drop (suc i) xs
front-of [] i x e = absurd (none-some x e)
front-of (y ∷ xs) zero x e = let is : y ≡ x = cc in ap (λ z. z ∷ xs) is
front-of (y ∷ xs) (suc i) x e = front-of xs i x e

behind-all : {A : Type 0} (xs : List A) (i : ℕ) → length xs ≤ i → drop i xs ≡ []
behind-all [] zero h = refl
behind-all [] (suc i) h = refl
behind-all (x ∷ xs) zero h = absurd (omega arith)
behind-all (x ∷ xs) (suc i) h = behind-all xs i (omega arith)

module _ (env : Environment) (fields : List Field) where
  pub begins : Reached env fields 0 None 0
  begins = ([], 0, λ n. refl, refl, refl)

  pub goes-on : (place : ℕ) (fault broken both : Option Fault) (cells after : ℕ) (x : Field) → slice_get fields place ≡ Some x → both ≡ earlier fault broken
      → ((names : List (List ℕ)) (n : ℕ) → AreBefore names fields place → capped n ≡ cells → broken ≡ first_wrong (field env fields names n x))
      → ((n : ℕ) → capped n ≡ cells → capped (n + field_cells env x) ≡ after)
      → Reached env fields place fault cells → Reached env fields (place + 1) both after
  goes-on place fault broken both cells after x at told faulty grows (names, n, are, count, first) =
      let rest = drop (suc place) fields in
      let later = first_among (fields_judged env fields (x.declarator.name.word ∷ names) (n + field_cells env x) rest) in
      let next : suc place ≡ place + 1 = omega arith in
      subst (λ p. Reached env fields p both after) next (
        x.declarator.name.word ∷ names,
        n + field_cells env x,
        λ q. ap (λ b. bytes_eq x.declarator.name.word q || b) (are q) ∙ sym (ap (list_any (is_named q)) (take-next fields place x at) ∙ any-push (is_named q) (take place fields) x),
        grows n count,
        ap (λ o. earlier o later) told ∙ sym (earlier-assoc fault broken later) ∙ ap (λ o. earlier fault (earlier o later)) (faulty names n are count)
            ∙ ap (λ xs. earlier fault (first_among (fields_judged env fields names n xs))) (sym (front-of fields place x at)) ∙ first,
      )

  pub ends : (place : ℕ) (fault : Option Fault) (cells : ℕ) → length fields ≤ place → Reached env fields place fault cells → fault ≡ first_among (fields_judged env fields [] 0 fields)
  ends place fault cells all (names, n, are, count, first) =
      sym (earlier-none fault) ∙ ap (λ xs. earlier fault (first_among (fields_judged env fields names n xs))) (sym (behind-all fields place all)) ∙ first

-- ---- a field

not-same : (j i : ℕ) → (j == (j + suc i)) ≡ false
not-same j i = by (j == (j + suc i)) refl
  where
    by : (b : Bool) → (j == (j + suc i)) ≡ b → (j == (j + suc i)) ≡ false
    by false e = e
    by true e = let is = (Decides-eqb j (j + suc i)).0 e in absurd (omega arith)

first-at : {A : Type 0} (test : A → Bool) (j : ℕ) (xs : List A) (i : ℕ) (x : A) → slice_get xs i ≡ Some x → test x ≡ true
    → is_at (position_from test j xs) (j + i) ≡ not (list_any test (take i xs))
first-at test j [] i x e t = absurd (none-some x e)
first-at test j (y ∷ xs) zero x e t =
    let is : y ≡ x = cc in
    ap (λ (b : Bool). is_at (if b then Some j else position_from test (j + 1) xs) (j + 0)) (ap test is ∙ t) ∙ eq-eqb j (j + 0) (omega arith)
first-at test j (y ∷ xs) (suc i) x e t = by (test y) (first-at test (j + 1) xs i x e t)
  where
    by : (b : Bool) → is_at (position_from test (j + 1) xs) (j + 1 + i) ≡ not (list_any test (take i xs))
        → is_at (if b then Some j else position_from test (j + 1) xs) (j + suc i) ≡ not (b || list_any test (take i xs))
    by true later = not-same j i
    by false later = ap (is_at (position_from test (j + 1) xs)) (omega arith) ∙ later

pub new-at : (fields : List Field) (place : ℕ) (x : Field) (names : List (List ℕ)) → slice_get fields place ≡ Some x → AreBefore names fields place → bytes_eq x.declarator.name.word x.declarator.name.word ≡ true
    → is_at (position_from (is_named x.declarator.name.word) 0 fields) place ≡ not (contains names x.declarator.name.word)
new-at fields place x names at are t =
    ap (is_at (position_from (is_named x.declarator.name.word) 0 fields)) (omega arith)
    ∙ first-at (is_named x.declarator.name.word) 0 fields place x at t ∙ ap not (sym (are x.declarator.name.word))

pub inner-is : (env : Environment) (fields : List Field) (e : Option Extent) → inner_extent_fault env fields e ≡ (if counts_named fields (named_by e) then None else extent_fault env e)
inner-is env fields None = refl
inner-is env fields (Some (extent.Number at n)) = refl
inner-is env fields (Some (extent.Name n)) = by (list_any (is_count_field n.word) fields)
  where
    by : (b : Bool) → (elim b as (λ _. Option Fault) [ true ↦ None | false ↦ extent_fault env (Some (extent.Name n)) ]) ≡ (if b then None else extent_fault env (Some (extent.Name n)))
    by true = refl
    by false = refl

pub found-any : {A : Type 0} (test : A → Bool) (i : ℕ) (xs : List A) → is_some (position_from test i xs) ≡ list_any test xs
found-any test i [] = refl
found-any test i (x ∷ xs) = by (test x) (found-any test (i + 1) xs)
  where
    by : (b : Bool) → is_some (position_from test (i + 1) xs) ≡ list_any test xs → is_some (if b then Some i else position_from test (i + 1) xs) ≡ (b || list_any test xs)
    by true later = refl
    by false later = later

-- ---- bases

pub base-next : (env : Environment) (fault both broken total : Option Fault) (x : Fields) (rest : List Fields) → both ≡ earlier fault broken → broken ≡ base_fault env x.base (map (λ d. stars_of d.pointer) x.declarators)
    → earlier fault (first_among (bases_judged env (x ∷ rest))) ≡ total → earlier both (first_among (bases_judged env rest)) ≡ total
base-next env fault both broken total x rest told is h =
    ap (λ o. earlier o (first_among (bases_judged env rest))) told ∙ sym (earlier-assoc fault broken (first_among (bases_judged env rest)))
    ∙ ap (λ o. earlier fault (earlier o (first_among (bases_judged env rest)))) (is ∙ sym (last-first (base_fault env x.base (map (λ d. stars_of d.pointer) x.declarators)))) ∙ h

pub at-map : {A B : Type 0} (f : A → B) (xs : List A) (i : ℕ) (x : A) → slice_get xs i ≡ Some x → slice_get (map f xs) i ≡ Some (f x)
at-map f [] i x e = absurd (none-some x e)
at-map f (y ∷ xs) zero x e = let is : y ≡ x = cc in ap (λ z. Some (f z)) is
at-map f (y ∷ xs) (suc i) x e = at-map f xs i x e

-- ---- views

-- the place of the field of a name, among these
abbrev pub place_among : List Field → Option Name → Option ℕ
place_among fields None = None
place_among fields (Some n) = position_from (is_count_field n.word) 0 fields

abbrev pub view_at : View → Option ℕ → View
view_at outer None = outer
view_at outer (Some k) = view.Field k

pub view-is : (gs : List OuterGlobal) (fields : List Field) (b : Base) (stars : ℕ) (e : Option Extent) → field_view_by gs fields b stars e ≡ view_at (view_by gs b stars e) (place_among fields (named_by e))
view-is gs fields b stars None = refl
view-is gs fields b stars (Some (extent.Number at n)) = refl
view-is gs fields b stars (Some (extent.Name n)) = by (position_from (is_count_field n.word) 0 fields)
  where
    by : (o : Option ℕ) → named_view gs n.word o ≡ view_at (view_by gs b stars (Some (extent.Name n))) o
    by None = refl
    by (Some k) = refl

none-counts : (fields : List Field) (o : Option Name) → place_among fields o ≡ None → counts_named fields o ≡ false
none-counts fields None e = refl
none-counts fields (Some n) e = sym (found-any (is_count_field n.word) 0 fields) ∙ ap is_some e

pub outer-extent : (env : Environment) (fields : List Field) (e : Option Extent) → place_among fields (named_by e) ≡ None → inner_extent_fault env fields e ≡ None → extent_fault env e ≡ None
outer-extent env fields e none right =
    sym (ap (λ (b : Bool). if b then None else extent_fault env e) (none-counts fields (named_by e) none)) ∙ sym (inner-is env fields e) ∙ right

pub places-among : (a : FieldNames) (fields : List Field) → AreKnown a fields → (o : Option Name) → place_by a o ≡ place_among fields o
places-among a fields are None = refl
places-among a fields are (Some n) = ap (λ (p : Option ℕ × Option ℕ). p.1) (are n.word)
