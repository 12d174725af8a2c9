-- A struct that is typed may be defined in the version's table: it is new, its fields' names differ, and it has no more cells than the limit.
use Rattle.std.proofs.Common.{◌≡◌, ◌≢◌, ℕ, zero, suc, ◌+◌, ◌*◌, ◌<◌, ◌≤◌, ◌==◌, ◌&&◌, not, nat_le, Bool, true, false, List, [], ◌∷◌, ◌++◌, length, map, slice_get, Some, None, Ok, refl, sym, ap, ◌∙◌, subst, arith, true≢false}
use Rattle.std.specs.Option.{is_some}
use Rattle.std.specs.List.{AllByRecursion}
use Rattle.std.specs.Str.{bytes_eq}
use Rattle.std.proofs.lemmas.Bool.{and_parts, or_parts, leb-true}
use Rattle.std.proofs.lemmas.Option.{none-some, same_Some}
use Rattle.std.proofs.lemmas.Slice.Eq.{bytes_eq-Decides}
use Rattle.kt_types.specs.declared.kinds.Ty.{Ty}
use Rattle.kt_types.specs.declared.kinds.Ty.TheVariants as ty
use Rattle.std.specs.Prelude.{unwrap_or}
use Rattle.kt_lex.specs.declared.number.Number.{Number}
use Rattle.kt_types.specs.declared.kinds.FieldDecl.{FieldDecl}
use Rattle.kt_types.specs.Table.{Definition, fields_by}
use Rattle.kt_types.specs.Layout.{CanDefine, IsFitting, layout, struct_cells}
use Rattle.kt_grammar.specs.declared.tree.Base.{Base}
use Rattle.kt_grammar.specs.declared.tree.Name.{Name}
use Rattle.kt_syntax.specs.declared.tree.Declarator.{Declarator}
use Rattle.kt_syntax.specs.declared.tree.Fields.{Fields}
use Rattle.kt_names.specs.declared.fault.CheckFault.TheVariants.{Twice, TooBig}
use Rattle.kt_names.specs.Checked.{holds}
use Rattle.kt_names.specs.Environment.{Struct, struct_numbered, is_complete, cells_of}
use Rattle.kt_names.specs.Types.{number_of_struct, root_of, starred_place}
use Rattle.kt_names.specs.Uses.{stars_of}
use Rattle.kt_names.specs.Statements.{base_for, contains}
use Rattle.kt_check.specs.Files.{Frame, Sofar, OneField, Within, no_field, outside, is_array_count, count_of, fields_in, field_cells, field, fields_with, fields_of_base, fields_from, field_decl, pointer_inside, struct}
use Rattle.kt_check.proofs.StructCells.{AreSame, cells-at, complete-cells}
use Rattle.kt_terms.proofs.Agrees.{HasStars}
use Rattle.kt_names.specs.Tables.{declared_type}
use Rattle.kt_check.proofs.FieldCells.{then-parts, both-parts, holds-true, same-ok, from-typed, fields-have, fields-cells}
use Rattle.kt_check.proofs.ExternalTypes.{FieldsHave}
use Rattle.kt_check.proofs.Made.{struct-made}
use Rattle.kt_check.proofs.ListFacts.{is-false}

-- what typing has not defined is not defined in the version
pub same-none : (types : List Ty) (structs : List Struct) (defs : List Definition) → AreSame types structs defs → (n : ℕ) → struct_numbered structs n ≡ None → fields_by defs n ≡ None
same-none types [] [] same n e = refl
same-none types [] (d ∷ defs) same n e = absurd same
same-none types (s ∷ structs) [] same n e = absurd same
same-none types (s ∷ structs) (d ∷ defs) same n e = by (s.number == n) refl (same-none types structs defs same.1 n)
  where
    by : (b : Bool) → (s.number == n) ≡ b → (struct_numbered structs n ≡ None → fields_by defs n ≡ None) → fields_by (d ∷ defs) n ≡ None
    by true t later = absurd (none-some s (sym e ∙ (rw t refl)))
    by false t later =
        let number : (d.number == n) ≡ false = ap (λ k. k == n) (sym same.0.0) ∙ t in
        rw number (later (rw t at e))

-- ---- names of fields

-- none of the fields has one of these names, nor the name of another
abbrev AreNew : List (List ℕ) → List OneField → Type 0
AreNew names [] = Unit {0}
AreNew names (x ∷ xs) = (contains names x.declarator.name.word ≡ false) × AreNew (x.declarator.name.word ∷ names) xs

-- the names behind the fields, the latest first
abbrev names_behind : List (List ℕ) → List OneField → List (List ℕ)
names_behind names [] = names
names_behind names (x ∷ xs) = names_behind (x.declarator.name.word ∷ names) xs

new-both : (names : List (List ℕ)) (xs ys : List OneField) → AreNew names xs → AreNew (names_behind names xs) ys → AreNew names (xs ++ ys)
new-both names [] ys h k = k
new-both names (x ∷ xs) ys h k = (h.0, new-both (x.declarator.name.word ∷ names) xs ys h.1 k)

behind-both : (names : List (List ℕ)) (xs ys : List OneField) → names_behind names (xs ++ ys) ≡ names_behind (names_behind names xs) ys
behind-both names [] ys = refl
behind-both names (x ∷ xs) ys = behind-both (x.declarator.name.word ∷ names) xs ys

contains-more : (names : List (List ℕ)) (m n : List ℕ) → contains (m ∷ names) n ≡ false → (contains names n ≡ false) × (m ≢ n)
contains-more names m n e =
    let parts = or_parts (bytes_eq m n) (contains names n) e in
    (parts.1, λ same. true≢false (sym ((bytes_eq-Decides m n).1 same) ∙ parts.0))

new-apart : (names : List (List ℕ)) (xs : List OneField) → AreNew names xs → (i : ℕ) (x : OneField) → slice_get xs i ≡ Some x → contains names x.declarator.name.word ≡ false
new-apart names [] h i x at = absurd (none-some x at)
new-apart names (y ∷ xs) h zero x at = ap (λ (z : OneField). contains names z.declarator.name.word) (sym (same_Some y x at)) ∙ h.0
new-apart names (y ∷ xs) h (suc i) x at = (contains-more names y.declarator.name.word x.declarator.name.word (new-apart (y.declarator.name.word ∷ names) xs h.1 i x at)).0

new-distinct : (names : List (List ℕ)) (xs : List OneField) → AreNew names xs → (i j : ℕ) (x y : OneField) → i < j → slice_get xs i ≡ Some x → slice_get xs j ≡ Some y → x.declarator.name.word ≢ y.declarator.name.word
new-distinct names [] h i j x y lt first second = absurd (none-some x first)
new-distinct names (z ∷ xs) h zero zero x y lt first second = absurd (omega arith)
new-distinct names (z ∷ xs) h zero (suc j) x y lt first second = λ same.
    (contains-more names z.declarator.name.word y.declarator.name.word (new-apart (z.declarator.name.word ∷ names) xs h.1 j y second)).1
    (ap (λ (w : OneField). w.declarator.name.word) (same_Some z x first) ∙ same)
new-distinct names (z ∷ xs) h (suc i) zero x y lt first second = absurd (omega arith)
new-distinct names (z ∷ xs) h (suc i) (suc j) x y lt first second = new-distinct (z.declarator.name.word ∷ names) xs h.1 i j x y (omega arith) first second

-- ---- what the run through the fields checks

module _ (f : Frame) (s : Sofar) (all : List OneField) where
  -- the names behind these fields, and no more cells than the limit
  abbrev Checks : Within → Within → List OneField → Type 0
  Checks w v xs = AreNew w.names xs × (v.names ≡ names_behind w.names xs) × (w.cells ≤ 65536 → v.cells ≤ 65536)

  field-checks : (w v : Within) (x : OneField) → field f s all w x ≡ Ok v → Checks w v (x ∷ [])
  field-checks w v x e =
      let (y, parts, is) = then-parts _ _ v e in
      let (inside, rest) = both-parts (pointer_inside (outside f s) all x.declarator.pointer) _ y parts in
      let (new, fits) = both-parts (holds (not (contains w.names x.declarator.name.word)) (Twice x.declarator.name.at)) (holds (is_array_count x.declarator.count && nat_le (w.cells + field_cells f s x) 65536) (TooBig x.declarator.name.at)) y.1 rest in
      let sizes = and_parts (is_array_count x.declarator.count) (nat_le (w.cells + field_cells f s x) 65536) (holds-true _ _ y.1.1 fits) in
      let made = same-ok _ v is in
      ((is-false _ (holds-true _ _ y.1.0 new), tt), ap (λ (r : Within). r.names) (sym made), λ le. subst (λ (r : Within). r.cells ≤ 65536) made (leb-true (w.cells + field_cells f s x) 65536 sizes.1))

  checks-both : (w v u : Within) (xs ys : List OneField) → Checks w v xs → Checks v u ys → Checks w u (xs ++ ys)
  checks-both w v u xs ys h k = (
    new-both w.names xs ys h.0 (subst (λ l. AreNew l ys) h.1 k.0),
    k.1 ∙ ap (λ l. names_behind l ys) h.1 ∙ sym (behind-both w.names xs ys),
    λ le. k.2 (h.2 le),
  )

  with-checks : (b : Base) (ds : List Declarator) (w v : Within) → fields_with f s all b w ds ≡ Ok v → Checks w v (map (λ d. record { base = b; declarator = d }) ds)
  with-checks b [] w v e = let is = same-ok w v e in (tt, ap (λ (r : Within). r.names) (sym is), λ le. subst (λ (r : Within). r.cells ≤ 65536) is le)
  with-checks b (d ∷ ds) w v e =
      let (u, first, rest) = then-parts (field f s all w (record { base = b; declarator = d })) _ v e in
      checks-both w u v (record { base = b; declarator = d } ∷ []) (map (λ c. record { base = b; declarator = c }) ds) (field-checks w u (record { base = b; declarator = d }) first) (with-checks b ds u v rest)

  from-checks : (fs : List Fields) (w v : Within) → fields_from f s all w fs ≡ Ok v → Checks w v (fields_in fs)
  from-checks [] w v e = let is = same-ok w v e in (tt, ap (λ (r : Within). r.names) (sym is), λ le. subst (λ (r : Within). r.cells ≤ 65536) is le)
  from-checks (x ∷ fs) w v e =
      let (u, first, rest) = then-parts (fields_of_base f s all w x) _ v e in
      let (t, based, more) = then-parts (base_for (outside f s) x.base (map (λ d. stars_of d.pointer) x.declarators)) _ u first in
      checks-both w u v (map (λ d. record { base = x.base; declarator = d }) x.declarators) (fields_in fs) (with-checks x.base x.declarators w u more) (from-checks fs u v rest)

  decl-at : (xs : List OneField) (i : ℕ) (d : FieldDecl) → slice_get (map (field_decl f all) xs) i ≡ Some d → (x : OneField) × (slice_get xs i ≡ Some x) × (x.declarator.name.word ≡ d.name)
  decl-at [] i d at = absurd (none-some d at)
  decl-at (x ∷ xs) zero d at = (x, refl, ap (λ (c : FieldDecl). c.name) (same_Some (field_decl f all x) d at))
  decl-at (x ∷ xs) (suc i) d at = decl-at xs i d at

-- a typed struct may be defined, in the table of the file's types and of the structs before it
pub struct-defines : (f : Frame) (s t : Sofar) (n : Name) (fs : List Fields) → struct f s n fs ≡ Ok t → AreSame f.types s.structs s.defined → 1 < length f.types → AllByRecursion (λ x. FieldsHave f.names x f.types) fs
    → CanDefine (record { types = f.types; structs = f.names; defined = s.defined }) (number_of_struct f.names n.word) (map (field_decl f (fields_in fs)) (fields_in fs))
unfolding layout
struct-defines f s t n fs e same long have =
    let (w, new, made, is) = struct-made f s t n fs e in
    let all = fields_in fs in
    let typed = from-typed f s all fs no_field w made in
    let (fresh, names, limit) = from-checks f s all fs no_field w made in
    let (cs, joins, count) = fields-cells f s all same long all (fields-have f fs have) typed.0 in
    let total : length cs ≡ w.cells = count ∙ sym (typed.1 ∙ (omega arith)) in (
      (
        same-none f.types s.structs s.defined same (number_of_struct f.names n.word) new,
        λ i j c d lt first second. λ same'.
            let (x, at, one) = decl-at f s all all i c first in
            let (y, at', two) = decl-at f s all all j d second in
            new-distinct [] all fresh i j x y lt at at' (one ∙ same' ∙ sym two),
      ),
      cs,
      joins,
      subst (λ k. k ≤ 65536) (sym total) (limit (omega arith)),
    )

-- ---- arrays

array-one : (c : Number) → is_array_count (Some c) ≡ true → 1 ≤ c.value
array-one c e = let parts = and_parts (nat_le 1 c.value) (nat_le c.value 65536) e in leb-true 1 c.value parts.0

-- an array that is a typed field has one element or more, and no more cells than the limit
pub array-fits : (f : Frame) (s : Sofar) (all : List OneField) (w v : Within) (b : Base) (d : Declarator) (c : Number) → AreSame f.types s.structs s.defined → 1 < length f.types
    → HasStars f.types (root_of f.names b) (stars_of d.pointer) → is_complete (outside f s) (declared_type f.names b d.pointer) ≡ true → d.count ≡ Some c
    → field f s all w (record { base = b; declarator = d }) ≡ Ok v
    → IsFitting (record { types = f.types; structs = f.names; defined = s.defined }) (ty.Array (starred_place f.types (root_of f.names b) (stars_of d.pointer)) c.value)
unfolding layout
array-fits f s all w v b d c same long has complete is e =
    let (y, parts, made) = then-parts _ _ v e in
    let (inside, rest) = both-parts (pointer_inside (outside f s) all d.pointer) _ y parts in
    let size = field_cells f s (record { base = b; declarator = d }) in
    let (new, fits) = both-parts (holds (not (contains w.names d.name.word)) (Twice d.name.at)) (holds (is_array_count d.count && nat_le (w.cells + size) 65536) (TooBig d.name.at)) y.1 rest in
    let sizes = and_parts (is_array_count d.count) (nat_le (w.cells + size) 65536) (holds-true _ _ y.1.1 fits) in
    let within : size ≤ 65536 = omega (arith, leb-true (w.cells + size) 65536 sizes.1) in
    let (cs, at, len) = complete-cells f.types (outside f s) s.defined same (root_of f.names b) (stars_of d.pointer) complete in
    let here = cells-at (struct_cells f.types s.defined) f.types (length f.types) (root_of f.names b) (stars_of d.pointer) (omega (arith, long)) has ∙ at in
    let count : size ≡ c.value * length cs = ap (λ o. count_of o * cells_of (outside f s) (declared_type f.names b d.pointer)) is ∙ ap (λ k. c.value * k) (sym len) in (
      ap is_some here,
      array-one c (ap is_array_count (sym is) ∙ sizes.0),
      subst (λ k. c.value * k ≤ 65536) (ap (λ o. length (unwrap_or o [])) (sym here)) (subst (λ k. k ≤ 65536) count within),
    )
