-- What the typing of a struct gives: its fields in the version are those of typing, and have as many cells.
use Rattle.std.proofs.Common.{◌≡◌, ℕ, zero, suc, ◌+◌, ◌*◌, ◌<◌, ◌==◌, ◌&&◌, ◌||◌, not, nat_le, Bool, true, false, List, [], ◌∷◌, ◌++◌, length, map, slice_get, Option, Some, None, Ok, Err, refl, sym, ap, ◌∙◌, arith, true≢false, length-append}
use Rattle.std.specs.Option.{option_map}
use Rattle.std.specs.List.{AllByRecursion, list_any}
use Rattle.std.proofs.lemmas.Bool.{and_parts}
use Rattle.std.proofs.lemmas.Option.{none-some, same_Some, slice_get-map}
use Rattle.std.proofs.lemmas.Bool.Decides.{nat_tests}
use Rattle.kt_types.specs.declared.kinds.Ty.{Ty}
use Rattle.kt_types.specs.declared.kinds.Ty.TheVariants as ty
use Rattle.kt_types.specs.declared.kinds.FieldDecl.{FieldDecl}
use Rattle.kt_types.specs.Layout.{repeated, joined, place_cells, struct_cells}
use Rattle.kt_types.proofs.Cells.{length-repeated}
use Rattle.kt_tree.specs.Kinds.{field_pointee_of}
use Rattle.kt_lex.specs.declared.number.Number.{Number}
use Rattle.kt_grammar.specs.declared.tree.Base.{Base}
use Rattle.kt_syntax.specs.declared.tree.Declarator.{Declarator}
use Rattle.kt_syntax.specs.declared.tree.Fields.{Fields}
use Rattle.kt_names.specs.declared.fault.CheckFault.{CheckFault}
use Rattle.kt_names.specs.declared.ctype.Root.{Root}
use Rattle.kt_names.specs.declared.ctype.Root.TheVariants as root
use Rattle.kt_names.specs.Checked.{Checked, Faults, and_then, both, holds, with_faults}
use Rattle.kt_names.specs.Environment.{Environment, is_complete}
use Rattle.kt_names.specs.Types.{root_of, starred_place, place_of_type}
use Rattle.kt_names.specs.Uses.{stars_of}
use Rattle.kt_names.specs.Tables.{declared_type}
use Rattle.kt_names.specs.Statements.{base_for}
use Rattle.kt_check.specs.Files.{Frame, Sofar, OneField, Within, outside, is_array_count, count_of, fields_in, field_cells, field, fields_with, fields_of_base, fields_from, field_info, field_decl, pointer_inside}
use Rattle.kt_terms.proofs.Agrees.{HasStars}
use Rattle.kt_check.proofs.ExternalTypes.{CountHas, FieldHas, FieldsHave, array-has}
use Rattle.kt_check.proofs.StructCells.{AreLike, HasCells, AreSame, starred_cells, cells-at, array-cells-at, complete-cells, of, starless}

-- ---- parts of what is typed

pub not-ok : {A : Type 0} (f : Faults) (x : A) → ◌≡◌ {A = Checked A} (Err f) (Ok x) → ⊥
not-ok f x e = absurd (true≢false (sym (ap (λ c. elim c as (λ _. Bool) [ (Ok y) ↦ true | (Err g) ↦ false ]) e)))

pub same-ok : {A : Type 0} (x y : A) → ◌≡◌ {A = Checked A} (Ok x) (Ok y) → x ≡ y
same-ok x y e = ap (λ c. elim c as (λ _. _) [ (Ok z) ↦ z | (Err g) ↦ x ]) e

pub then-parts : {A B : Type 0} (s : Checked A) (k : A → Checked B) (y : B) → and_then s k ≡ Ok y → (x : A) × (s ≡ Ok x) × (k x ≡ Ok y)
then-parts (Ok x) k y e = (x, refl, e)
then-parts {A} {B} (Err f) k y e = absurd (not-ok f y e)

pub both-parts : {A B : Type 0} (a : Checked A) (b : Checked B) (y : A × B) → both a b ≡ Ok y → (a ≡ Ok y.0) × (b ≡ Ok y.1)
unfolding both
both-parts {A} {B} (Ok x) (Ok z) y e = let p = same-ok (x, z) y e in (ap (λ (q : A × B). Ok q.0) p, ap (λ (q : A × B). Ok q.1) p)
both-parts (Ok x) (Err g) y e = absurd (not-ok g y e)
both-parts (Err f) (Ok z) y e = absurd (not-ok f y e)
both-parts (Err f) (Err g) y e = absurd (not-ok (with_faults f g) y e)

pub holds-true : (b : Bool) (f : CheckFault) (u : Unit {0}) → holds b f ≡ Ok u → b ≡ true
holds-true true f u e = refl
holds-true false f u e = absurd (not-ok _ u e)

-- ---- fields

-- what typing has found of a field
pub record IsTyped (f : Frame) (s : Sofar) (all : List OneField) (x : OneField) : Type 0 where
  pub complete : is_complete (outside f s) (declared_type f.names x.base x.declarator.pointer) ≡ true
  pub inside : pointer_inside (outside f s) all x.declarator.pointer ≡ Ok tt
  pub count : is_array_count x.declarator.count ≡ true

-- the cells of all these fields
abbrev pub cells_sum : Frame → Sofar → List OneField → ℕ
cells_sum f s [] = 0
cells_sum f s (x ∷ xs) = field_cells f s x + cells_sum f s xs

abbrev pub AreTyped : Frame → Sofar → List OneField → Within → Within → List OneField → Type 0
AreTyped f s all w v xs = AllByRecursion (IsTyped f s all) xs × (v.cells ≡ w.cells + cells_sum f s xs)

-- a base whose struct is complete makes each of its declarators so
pub base-complete : (env : Environment) (b : Base) (stars : List ℕ) (u : Unit {0}) → base_for env b stars ≡ Ok u → (i n : ℕ) → slice_get stars i ≡ Some n
    → is_complete env (of (root_of env.names b) n) ≡ true
base-complete env b stars u e i (suc n) at = rw (starless n) refl
base-complete env b stars u e i zero at = by (list_any (λ n. n == 0) stars) refl (holds-true _ _ u e)
  where
    named : (xs : List ℕ) (k : ℕ) → slice_get xs k ≡ Some 0 → list_any (λ n. n == 0) xs ≡ true
    named [] k h = absurd (none-some 0 h)
    named (x ∷ xs) zero h = rw (same_Some x 0 h) refl
    named (x ∷ xs) (suc k) h = rw (named xs k h) (grind (arith, nat_tests))

    by : (t : Bool) → list_any (λ n. n == 0) stars ≡ t → (not (list_any (λ n. n == 0) stars) || is_complete env (of (root_of env.names b) 0)) ≡ true
        → is_complete env (of (root_of env.names b) 0) ≡ true
    by true t h = rw t at h
    by false t h = absurd (true≢false (sym (named stars i at) ∙ t))

module _ (f : Frame) (s : Sofar) (all : List OneField) where
  field-typed : (w v : Within) (x : OneField) → is_complete (outside f s) (declared_type f.names x.base x.declarator.pointer) ≡ true
      → field f s all w x ≡ Ok v → IsTyped f s all x × (v.cells ≡ w.cells + field_cells f s x)
  field-typed w v x complete e =
      let (y, parts, is) = then-parts _ _ v e in
      let (inside, rest) = both-parts (pointer_inside (outside f s) all x.declarator.pointer) _ y parts in
      let (new, fits) = both-parts _ (holds (is_array_count x.declarator.count && nat_le (w.cells + field_cells f s x) 65536) _) y.1 rest in
      let sizes = and_parts (is_array_count x.declarator.count) (nat_le (w.cells + field_cells f s x) 65536) (holds-true _ _ y.1.1 fits) in
      (record { complete = complete; inside = inside; count = sizes.0 }, sym (ap (λ (r : Within). r.cells) (same-ok _ v is)))

  typed-more : (w v u : Within) (xs ys : List OneField) → AreTyped f s all w v xs → AreTyped f s all v u ys → AreTyped f s all w u (xs ++ ys)
  typed-more w v u [] ys h k = (k.0, k.1 ∙ ap (λ n. n + cells_sum f s ys) h.1 ∙ (omega arith))
  typed-more w v u (x ∷ xs) ys h k =
      let middle : Within = record v { cells = w.cells + field_cells f s x } in
      let rest = typed-more middle v u xs ys (h.0.1, h.1 ∙ (omega arith)) k in
      ((h.0.0, rest.0), rest.1 ∙ (omega arith))

  with-typed : (b : Base) (ds : List Declarator) (w v : Within)
      → ((i : ℕ) (d : Declarator) → slice_get ds i ≡ Some d → is_complete (outside f s) (declared_type f.names b d.pointer) ≡ true)
      → fields_with f s all b w ds ≡ Ok v → AreTyped f s all w v (map (λ d. record { base = b; declarator = d }) ds)
  with-typed b [] w v complete e = (tt, sym (ap (λ (r : Within). r.cells) (same-ok w v e)) ∙ (omega arith))
  with-typed b (d ∷ ds) w v complete e =
      let (u, first, rest) = then-parts (field f s all w (record { base = b; declarator = d })) _ v e in
      let one = field-typed w u (record { base = b; declarator = d }) (complete 0 d refl) first in
      let more = with-typed b ds u v (λ i c at. complete (suc i) c at) rest in
      ((one.0, more.0), more.1 ∙ ap (λ n. n + cells_sum f s (map (λ c. record { base = b; declarator = c }) ds)) one.1 ∙ (omega arith))

  base-typed : (x : Fields) (w v : Within) → fields_of_base f s all w x ≡ Ok v → AreTyped f s all w v (map (λ d. record { base = x.base; declarator = d }) x.declarators)
  base-typed x w v e =
      let (u, based, rest) = then-parts (base_for (outside f s) x.base (map (λ d. stars_of d.pointer) x.declarators)) _ v e in
      with-typed x.base x.declarators w v
      (λ i d at. base-complete (outside f s) x.base (map (λ c. stars_of c.pointer) x.declarators) u based i (stars_of d.pointer) (slice_get-map (λ c. stars_of c.pointer) x.declarators i ∙ ap (option_map (λ c. stars_of c.pointer)) at))
      rest

  pub from-typed : (fs : List Fields) (w v : Within) → fields_from f s all w fs ≡ Ok v → AreTyped f s all w v (fields_in fs)
  from-typed [] w v e = (tt, sym (ap (λ (r : Within). r.cells) (same-ok w v e)) ∙ (omega arith))
  from-typed (x ∷ fs) w v e =
      let (u, first, rest) = then-parts (fields_of_base f s all w x) _ v e in
      typed-more w u v (map (λ d. record { base = x.base; declarator = d }) x.declarators) (fields_in fs) (base-typed x w u first) (from-typed fs u v rest)

-- ---- places of fields

-- the place of a type with so many stars, or of an array of it
abbrev pub counted_place : List Ty → Root → ℕ → Option Number → ℕ
counted_place types r n c = elim c as (λ _. ℕ) [ None ↦ starred_place types r n | (Some k) ↦ place_of_type types (ty.Array (starred_place types r n) k.value) ]

counted-cells : (types : List Ty) (by : ℕ → Option (List Ty)) (r : Root) (n : ℕ) (c : Option Number) (m : ℕ) (cs : List Ty) → 1 < m → HasStars types r n → CountHas types r n c → is_array_count c ≡ true
    → starred_cells by types r n ≡ Some cs → (ds : List Ty) × (place_cells by types m (counted_place types r n c) ≡ Some ds) × (length ds ≡ count_of c * length cs)
counted-cells types by r n None m cs up has is few e = (cs, cells-at by types m r n (omega arith) has ∙ e, omega arith)
counted-cells types by r n (Some c) m cs up has is few e =
    (repeated c.value cs, array-cells-at by types m r n c.value up has (array-has types r n c is few) ∙ ap (option_map (repeated c.value)) e, length-repeated c.value cs)

starred-pointee : (types : List Ty) (r : Root) (n p : ℕ) → HasStars types r n → field_pointee_of (slice_get types (starred_place types r n)) p ≡ p
starred-pointee types root.Char zero p has = rw has refl
starred-pointee types root.Int zero p has = rw has refl
starred-pointee types root.Long zero p has = rw has refl
starred-pointee types root.Mutex zero p has = rw has refl
starred-pointee types (root.Struct s) zero p has = rw has refl
starred-pointee types r (suc n) p has = rw has.0 refl

counted-pointee : (types : List Ty) (r : Root) (n : ℕ) (c : Option Number) → HasStars types r n → CountHas types r n c → is_array_count c ≡ true
    → field_pointee_of (slice_get types (counted_place types r n c)) (counted_place types r n c) ≡ starred_place types r n
counted-pointee types r n None has is few = starred-pointee types r n (starred_place types r n) has
counted-pointee types r n (Some c) has is few = let at = array-has types r n c is few in rw at refl

-- ---- the fields of the version

abbrev pub OneHas : Frame → OneField → Type 0
OneHas f x = FieldHas f.names x.base x.declarator f.types

pub all-both : {A : Type 0} (P : A → Type 0) (xs ys : List A) → AllByRecursion P xs → AllByRecursion P ys → AllByRecursion P (xs ++ ys)
all-both P [] ys h k = k
all-both P (x ∷ xs) ys h k = (h.0, all-both P xs ys h.1 k)

fields-one : (f : Frame) (b : Base) (ds : List Declarator) → AllByRecursion (λ d. FieldHas f.names b d f.types) ds → AllByRecursion (OneHas f) (map (λ d. record { base = b; declarator = d }) ds)
fields-one f b [] h = tt
fields-one f b (d ∷ ds) h = (h.0, fields-one f b ds h.1)

pub fields-have : (f : Frame) (fs : List Fields) → AllByRecursion (λ x. FieldsHave f.names x f.types) fs → AllByRecursion (OneHas f) (fields_in fs)
fields-have f [] h = tt
fields-have f (x ∷ fs) h = all-both (OneHas f) _ (fields_in fs) (fields-one f x.base x.declarators h.0) (fields-have f fs h.1)

module _ (f : Frame) (s : Sofar) (all : List OneField) (same : AreSame f.types s.structs s.defined) (long : 1 < length f.types) where
  pub fields-cells : (xs : List OneField) → AllByRecursion (OneHas f) xs → AllByRecursion (IsTyped f s all) xs
      → HasCells f.types s.defined (map (field_decl f all) xs) (cells_sum f s xs)
  fields-cells [] has typed = ([], refl, refl)
  fields-cells (x ∷ xs) has typed =
      let r = root_of f.names x.base in
      let n = stars_of x.declarator.pointer in
      let by = struct_cells f.types s.defined in
      let (cs, at, count) = complete-cells f.types (outside f s) s.defined same r n typed.0.complete in
      let (ds, here, total) = counted-cells f.types by r n x.declarator.count (length f.types) cs long has.0.0.1 has.0.1 typed.0.count at in
      let (es, rest, more) = fields-cells xs has.1 typed.1 in (
        ds ++ es,
        joins (place_cells by f.types (length f.types)) (field_decl f all x) (map (field_decl f all) xs) ds es here rest,
        length-append ds es ∙ (rw (total, count, more) refl),
      )
    where
      joins : (at : ℕ → Option (List Ty)) (d : FieldDecl) (rest : List FieldDecl) (ds es : List Ty) → at d.ty ≡ Some ds → joined at rest ≡ Some es → joined at (d ∷ rest) ≡ Some (ds ++ es)
      joins at d rest ds es p q = rw (p, q) refl

pub fields-like : (f : Frame) (s : Sofar) (all xs : List OneField) → AllByRecursion (OneHas f) xs → AllByRecursion (IsTyped f s all) xs → AreLike f.types (map (field_info f) xs) (map (field_decl f all) xs)
fields-like f s all [] has typed = tt
fields-like f s all (x ∷ xs) has typed =
    ((counted-pointee f.types (root_of f.names x.base) (stars_of x.declarator.pointer) x.declarator.count has.0.0.1 has.0.1 typed.0.count, has.0.0), fields-like f s all xs has.1 typed.1)
