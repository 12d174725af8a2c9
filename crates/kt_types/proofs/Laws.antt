-- What the layout of a type is, by its kind.
use Rattle.std.proofs.Common.{◌≡◌, ℕ, zero, suc, ◌<◌, ◌≤◌, List, [], ◌∷◌, ◌++◌, length, length-append, ◌==◌, Option, Some, refl, subst, arith, slice_get, inl, inr}
use Rattle.std.specs.Option.{option_and_then}
use Rattle.std.proofs.lemmas.Bool.{cases_Bool}
use Rattle.std.proofs.lemmas.Option.{none-some, slice_get_within}
use Rattle.kt_types.proofs.Growth.{Grows, front-push, joined-grows, option_map_some, place-grows, struct-grows-types, struct-grows-defs, type-grows}
use Rattle.kt_types.specs.Kept.{IsDefinedOnce}
use Rattle.kt_types.specs.Layout.{repeated, joined, type_cells, place_cells, struct_cells, layout}
use Rattle.kt_types.specs.Rank.{layout_by}
use Rattle.kt_types.specs.Table.{Table, Definition, fields_by, with_type}
use Rattle.kt_types.specs.declared.kinds.FieldDecl.{FieldDecl}
use Rattle.kt_types.specs.declared.kinds.Ty.{Ty}
use Rattle.kt_types.specs.declared.kinds.Ty.TheVariants.{Array}

-- a table's layouts are those by all its definitions
pub layout-layout_by : (t : Table) (p : ℕ) → layout t p ≡ layout_by t.types t.defined p
unfolding layout
layout-layout_by t p = refl

-- the cells of a complete type, by those of all types
pub place-cells : (by : ℕ → Option (List Ty)) (types : List Ty) (n : ℕ) (p : ℕ) (ty : Ty) (cs : List Ty) → n ≤ length types → slice_get types p ≡ Some ty
    → place_cells by types n p ≡ Some cs → type_cells by (place_cells by types (length types)) ty ≡ Some cs
unfolding place_cells
place-cells by types zero p ty cs le is e = absurd (none-some cs e)
place-cells by types (suc n) p ty cs le is e =
    let here : option_and_then (type_cells by (place_cells by types n)) (Some ty) ≡ Some cs = subst (λ o. option_and_then (type_cells by (place_cells by types n)) o ≡ Some cs) is e in
    type-grows by by _ _ (λ q ds h. h) (place-grows by by types types (λ q ds h. h) (λ q x h. h) n (length types) (omega arith)) ty cs here

-- the cells of a type that needs no other type
pub place-alone : (by : ℕ → Option (List Ty)) (types : List Ty) (n p : ℕ) (ty : Ty) (r : Option (List Ty)) → 0 < n → slice_get types p ≡ Some ty
    → ((at : ℕ → Option (List Ty)) → type_cells by at ty ≡ r) → place_cells by types n p ≡ r
unfolding place_cells
place-alone by types zero p ty r positive is alone = absurd (omega arith)
place-alone by types (suc n) p ty r positive is alone = rw is (alone (place_cells by types n))

pub layout-alone : (t : Table) (p : ℕ) (ty : Ty) (r : Option (List Ty)) → slice_get t.types p ≡ Some ty
    → ((at : ℕ → Option (List Ty)) → type_cells (struct_cells t.types t.defined) at ty ≡ r) → layout t p ≡ r
unfolding layout
layout-alone t p ty r is alone =
    let within = slice_get_within t.types p ty is in
    place-alone _ t.types (length t.types) p ty r (omega arith) is alone

pub layout-array : (t : Table) (p e n : ℕ) (cs : List Ty) → slice_get t.types p ≡ Some (Array e n) → layout t p ≡ Some cs
    → (es : List Ty) × (layout t e ≡ Some es) × (repeated n es ≡ cs)
unfolding layout
layout-array t p e n cs is has = option_map_some (repeated n) _ cs (place-cells _ t.types (length t.types) p (Array e n) cs (omega arith) is has)

at_end : (types : List Ty) (ty : Ty) → slice_get (types ++ ty ∷ []) (length types) ≡ Some ty
at_end [] ty = refl
at_end (x ∷ xs) ty = at_end xs ty

place-array : (by : ℕ → Option (List Ty)) (types : List Ty) (m p e n : ℕ) (es : List Ty) → slice_get types p ≡ Some (Array e n)
    → place_cells by types m e ≡ Some es → place_cells by types (suc m) p ≡ Some (repeated n es)
unfolding place_cells
place-array by types m p e n es is has = rw is (rw has refl)

-- a new array has its element's cells, repeated
pub layout-new_array : (t : Table) (e n : ℕ) (es : List Ty) → layout t e ≡ Some es → layout (with_type t (Array e n)) (length t.types) ≡ Some (repeated n es)
unfolding layout
layout-new_array t e n es has =
    let more = t.types ++ Array e n ∷ [] in
    let front = front-push t.types (Array e n) in
    let longer : length more ≡ suc (length t.types) = rw length-append (omega arith) in
    let le : length t.types ≤ length more = omega arith in
    let element = place-grows _ _ t.types more (struct-grows-types t.types more front le t.defined) front (length t.types) (length t.types) (omega arith) e es has in
    rw longer (place-array (struct_cells more t.defined) more (length t.types) (length t.types) e n es (at_end t.types (Array e n)) element)

-- a defined struct joins the cells of its fields
pub struct-joined : (types : List Ty) (defs : List Definition) → IsDefinedOnce defs → (s : ℕ) (cs : List Ty) → struct_cells types defs s ≡ Some cs
    → (fields : List FieldDecl) × (fields_by defs s ≡ Some fields) × (joined (layout_by types defs) fields ≡ Some cs)
unfolding struct_cells
struct-joined types [] once s cs e = absurd (none-some cs e)
struct-joined types (d ∷ earlier) once s cs e =
    let grows : Grows (layout_by types earlier) (layout_by types (d ∷ earlier)) =
    place-grows _ _ types types (struct-grows-defs types d earlier once.0) (λ p ty h. h) (length types) (length types) (omega arith) in
    elim (cases_Bool (d.number == s)) [
      | inl same ↦ (d.fields, rw same refl, joined-grows _ _ grows d.fields cs (rw same at e))
      | inr other ↦
          let (fields, known, has) = struct-joined types earlier once.1 s cs (rw other at e) in
          (fields, rw other known, joined-grows _ _ grows fields cs has)
    ]
