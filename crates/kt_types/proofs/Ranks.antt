-- How many definitions a complete type stands on at most, so that the walk to a cell ends.
use Rattle.std.proofs.Common.{◌≡◌, ℕ, suc, ◌<◌, ◌≤◌, true, false, List, [], ◌∷◌, length, if◌then◌else◌, ◌==◌, Option, None, Some, is_some, refl, sym, ap, ◌∙◌, arith, slice_get, inl, inr}
use Rattle.std.proofs.lemmas.Bool.{eqb-true, cases_Bool, false_from_ne_true}
use Rattle.std.proofs.lemmas.Option.{none-some, same_Some, slice_get_within}
use Rattle.kt_types.proofs.Cells.{joined-complete}
use Rattle.kt_types.proofs.Growth.{option_map_some}
use Rattle.kt_types.proofs.Laws.{place-cells, place-alone, struct-joined}
use Rattle.kt_types.specs.Kept.{IsDefinedOnce}
use Rattle.kt_types.specs.Layout.{repeated, joined, struct_cells}
use Rattle.kt_types.specs.Rank.{layout_by, rank}
use Rattle.kt_types.specs.Table.{Definition, fields_by}
use Rattle.kt_types.specs.declared.kinds.FieldDecl.{FieldDecl}
use Rattle.kt_types.specs.declared.kinds.Ty.{Ty}
use Rattle.kt_types.specs.declared.kinds.Ty.TheVariants.{Struct, Array}

-- no more definitions than there are
pub rank-le : (types : List Ty) (defs : List Definition) (p : ℕ) → rank types defs p ≤ length defs
rank-le types [] p = omega arith
rank-le types (d ∷ earlier) p =
    elim (is_some (layout_by types earlier p)) as (λ b. (if b then rank types earlier p else suc (length earlier)) ≤ suc (length earlier))
    [ true ↦ omega (arith, rank-le types earlier p) | false ↦ omega arith ]

-- a type that is complete by the earlier definitions has the rank that it had
rank-earlier : (types : List Ty) (d : Definition) (earlier : List Definition) (p : ℕ) (cs : List Ty) → layout_by types earlier p ≡ Some cs
    → rank types (d ∷ earlier) p ≡ rank types earlier p
rank-earlier types d earlier p cs has = rw has refl

-- an array's element is complete by as few definitions
pub rank-array : (types : List Ty) (defs : List Definition) (p e n : ℕ) → slice_get types p ≡ Some (Array e n) → rank types defs e ≤ rank types defs p
rank-array types [] p e n is = omega arith
rank-array types (d ∷ earlier) p e n is = cases (layout_by types earlier p) refl (rank-array types earlier p e n is)
  where
    cases : (o : Option (List Ty)) → layout_by types earlier p ≡ o → rank types earlier e ≤ rank types earlier p → rank types (d ∷ earlier) e ≤ rank types (d ∷ earlier) p
    cases None has _ = rw has (rank-le types (d ∷ earlier) e)
    cases (Some cs) has less =
        let (es, element, same) = option_map_some (repeated n) _ cs (place-cells _ types (length types) p (Array e n) cs (omega arith) is has) in
        rw (has, element) less

-- the place of a struct has the struct's cells
struct_is : (types : List Ty) (defs : List Definition) (p s : ℕ) → slice_get types p ≡ Some (Struct s) → layout_by types defs p ≡ struct_cells types defs s
struct_is types defs p s is =
    let within = slice_get_within types p (Struct s) is in
    place-alone _ types (length types) p (Struct s) _ (omega arith) is (λ _. refl)

-- a struct that the earlier definitions define isn't the one that the next defines
defined_apart : (d : Definition) (earlier : List Definition) (s : ℕ) (fs : List FieldDecl) → fields_by earlier d.number ≡ None → fields_by earlier s ≡ Some fs
    → (d.number == s) ≡ false
defined_apart d earlier s fs new known =
    false_from_ne_true _ (λ same. none-some fs (sym new ∙ ap (fields_by earlier) (eqb-true d.number s same) ∙ known))

-- a struct that the last definition makes complete is the one that it defines
joined_here : (types : List Ty) (d : Definition) (earlier : List Definition) (p s : ℕ) (cs : List Ty) → slice_get types p ≡ Some (Struct s)
    → layout_by types earlier p ≡ None → layout_by types (d ∷ earlier) p ≡ Some cs
    → ((d.number == s) ≡ true) × (joined (layout_by types earlier) d.fields ≡ Some cs)
unfolding struct_cells
joined_here types d earlier p s cs is none complete =
    let now : struct_cells types (d ∷ earlier) s ≡ Some cs = sym (struct_is types (d ∷ earlier) p s is) ∙ complete in
    let before : struct_cells types earlier s ≡ None = sym (struct_is types earlier p s is) ∙ none in
    elim (cases_Bool (d.number == s)) [
      | inl same ↦ (same, rw same at now)
      | inr other ↦ absurd (none-some cs (sym before ∙ (rw other at now)))
    ]

-- a field of a complete struct is complete by fewer definitions
pub rank-field : (types : List Ty) (defs : List Definition) → IsDefinedOnce defs → (p s : ℕ) → slice_get types p ≡ Some (Struct s)
    → (fields : List FieldDecl) → fields_by defs s ≡ Some fields → (cs : List Ty) → layout_by types defs p ≡ Some cs
    → (n : ℕ) (f : FieldDecl) → slice_get fields n ≡ Some f → rank types defs f.ty < rank types defs p
rank-field types [] once p s is fields known cs complete n f at = absurd (none-some fields known)
rank-field types (d ∷ earlier) once p s is fields known cs complete n f at =
    cases (layout_by types earlier p) refl (λ before ds has. rank-field types earlier once.1 p s is fields before ds has n f at)
  where
    cases : (o : Option (List Ty)) → layout_by types earlier p ≡ o
        → (fields_by earlier s ≡ Some fields → (ds : List Ty) → layout_by types earlier p ≡ Some ds → rank types earlier f.ty < rank types earlier p)
        → rank types (d ∷ earlier) f.ty < rank types (d ∷ earlier) p
    cases None has less =
        let joins = joined_here types d earlier p s cs is has complete in
        let its : d.fields ≡ fields = same_Some _ _ (rw joins.0 at known) in
        let (x, field) = joined-complete _ d.fields cs joins.1 n f (rw its at) in
        rw (has, field) (omega (arith, rank-le types earlier f.ty))
    cases (Some ds) has less =
        let before = sym (struct_is types earlier p s is) ∙ has in
        let (fs, known_before, joins) = struct-joined types earlier once.1 s ds before in
        let other = defined_apart d earlier s fs once.0 known_before in
        let same_known : fields_by earlier s ≡ Some fields = rw other at known in
        let its : fs ≡ fields = same_Some _ _ (sym known_before ∙ same_known) in
        let (x, field) = joined-complete _ fs ds joins n f (rw its at) in
        rw (has, field) (less same_known ds has)
