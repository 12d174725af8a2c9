-- The first types of a table give the same cells as the whole table, where each type names places before its own.
use Rattle.std.proofs.Common.{◌≡◌, ℕ, zero, suc, ◌*◌, ◌<◌, ◌≤◌, ◌==◌, true, false, List, [], ◌∷◌, ◌++◌, length, take, slice_get, Option, None, Some, if◌then◌else◌, true≢false, refl, sym, ap, ◌∙◌, subst, arith, length-take}
use Rattle.std.specs.Prelude.{unwrap_or}
use Rattle.std.specs.Option.{is_some}
use Rattle.std.specs.List.{AllByRecursion}
use Rattle.std.proofs.lemmas.Option.{option_and_then_some, none-some}
use Rattle.kt_types.specs.declared.kinds.FieldDecl.{FieldDecl}
use Rattle.kt_types.specs.declared.kinds.Ty.{Ty}
use Rattle.kt_types.specs.declared.kinds.Ty.TheVariants as ty
use Rattle.kt_types.specs.Layout.{repeated, joined, type_cells, place_cells, struct_cells, layout, IsFitting, CanDefine}
use Rattle.kt_types.specs.Table.{Definition}
use Rattle.kt_types.proofs.Growth.{Grows, option_map_some}
use Rattle.kt_check.specs.Built.{stage}
use Rattle.kt_check.proofs.TypeOrder.{IsBelow}

pub taken : {A : Type 0} (xs : List A) (p e : ℕ) → e < p → slice_get (take p xs) e ≡ slice_get xs e
taken [] zero e lt = absurd (omega arith)
taken [] (suc p) e lt = refl
taken (x ∷ xs) zero e lt = absurd (omega arith)
taken (x ∷ xs) (suc p) zero lt = refl
taken (x ∷ xs) (suc p) (suc e) lt = taken xs p e (omega arith)

-- the types of all these fields stand before the place
abbrev pub AreBefore : ℕ → List FieldDecl → Type 0
AreBefore p fields = AllByRecursion (λ f. f.ty < p) fields

abbrev pub AllBefore : ℕ → List Definition → Type 0
AllBefore p defs = AllByRecursion (λ d. AreBefore p d.fields) defs

module _ (names : List (List ℕ)) (types : List Ty) (below : (i : ℕ) (t : Ty) → slice_get types i ≡ Some t → IsBelow names i t) (p : ℕ) (within : p ≤ length types) where
  long : length (take p types) ≡ p
  long = simp length-take (omega arith)

  module _ (by small : ℕ → Option (List Ty)) (grows : Grows by small) where
    type-shrinks : (at at' : ℕ → Option (List Ty)) (e : ℕ) → ((q : ℕ) (cs : List Ty) → q < e → at q ≡ Some cs → at' q ≡ Some cs) → (t : Ty) (cs : List Ty) → IsBelow names e t
        → type_cells by at t ≡ Some cs → type_cells small at' t ≡ Some cs
    type-shrinks at at' e before ty.Char cs low h = h
    type-shrinks at at' e before ty.Int cs low h = h
    type-shrinks at at' e before ty.Long cs low h = h
    type-shrinks at at' e before ty.Mutex cs low h = h
    type-shrinks at at' e before (ty.Ptr q) cs low h = h
    type-shrinks at at' e before (ty.Struct s) cs low h = grows s cs h
    type-shrinks at at' e before (ty.Array q n) cs low h =
        let (x, is, same) = option_map_some (repeated n) (at q) cs h in
        rw (before q x low is) (ap Some same)

    place-shrinks : (n m e : ℕ) (cs : List Ty) → e < p → e < m → place_cells by types n e ≡ Some cs → place_cells small (take p types) m e ≡ Some cs
    unfolding place_cells
    place-shrinks zero m e cs lt up h = absurd (none-some cs h)
    place-shrinks (suc n) zero e cs lt up h = absurd (omega arith)
    place-shrinks (suc n) (suc m) e cs lt up h =
        option_and_then_some _ (slice_get types e) cs h (λ t is has.
        rw (taken types p e lt, is)
        (type-shrinks (place_cells by types n) (place_cells small (take p types) m) e (λ q ds less there. place-shrinks n m q ds (omega arith) (omega arith) there) t cs (below e t is) has))

    joined-shrinks : (fields : List FieldDecl) (cs : List Ty) → AreBefore p fields → joined (place_cells by types (length types)) fields ≡ Some cs
        → joined (place_cells small (take p types) (length (take p types))) fields ≡ Some cs
    joined-shrinks [] cs before h = h
    joined-shrinks (f ∷ fs) cs before h =
        option_and_then_some _ (place_cells by types (length types) f.ty) cs h (λ x is rest.
        let (y, more, same) = option_map_some (λ r. x ++ r) (joined (place_cells by types (length types)) fs) cs rest in
        let here : place_cells small (take p types) (length (take p types)) f.ty ≡ Some x = place-shrinks (length types) (length (take p types)) f.ty x before.0 (omega (arith, long, before.0)) is in
        rw (here, joined-shrinks fs y before.1 more) (ap Some same))

  structs-shrink : (defs : List Definition) → AllBefore p defs → Grows (struct_cells types defs) (struct_cells (take p types) defs)
  unfolding struct_cells
  structs-shrink [] before s cs h = absurd (none-some cs h)
  structs-shrink (d ∷ earlier) before s cs h =
      elim (d.number == s) as (λ b. (if b then joined (place_cells (struct_cells types earlier) types (length types)) d.fields else struct_cells types earlier s) ≡ Some cs
      → (if b then joined (place_cells (struct_cells (take p types) earlier) (take p types) (length (take p types))) d.fields else struct_cells (take p types) earlier s) ≡ Some cs) [
        | true ↦ λ k. joined-shrinks (struct_cells types earlier) (struct_cells (take p types) earlier) (structs-shrink earlier before.1) d.fields cs before.0 k
        | false ↦ λ k. structs-shrink earlier before.1 s cs k
      ] h

  module _ (defs : List Definition) (before : AllBefore p defs) where
    layout-shrinks : (e : ℕ) (cs : List Ty) → e < p → layout (record { types = types; structs = names; defined = defs }) e ≡ Some cs → layout (stage types names p defs) e ≡ Some cs
    unfolding layout
    layout-shrinks e cs lt h = place-shrinks (struct_cells types defs) (struct_cells (take p types) defs) (structs-shrink defs before) (length types) (length (take p types)) e cs lt (omega (arith, long)) h

    some-layout : (o : Option (List Ty)) → is_some o ≡ true → (cs : List Ty) × (o ≡ Some cs)
    some-layout None e = absurd (true≢false (sym e))
    some-layout (Some cs) e = (cs, refl)

    -- a type that fits in the whole table fits at its place
    pub fitting-shrinks : (t : Ty) → IsBelow names p t → IsFitting (record { types = types; structs = names; defined = defs }) t → IsFitting (stage types names p defs) t
    fitting-shrinks ty.Char low h = tt
    fitting-shrinks ty.Int low h = tt
    fitting-shrinks ty.Long low h = tt
    fitting-shrinks ty.Mutex low h = tt
    fitting-shrinks (ty.Ptr q) low h = tt
    fitting-shrinks (ty.Struct s) low h = tt
    fitting-shrinks (ty.Array e n) low h =
        let (cs, whole) = some-layout (layout (record { types = types; structs = names; defined = defs }) e) h.0 in
        let part = layout-shrinks e cs low whole in
        let same : layout (record { types = types; structs = names; defined = defs }) e ≡ layout (stage types names p defs) e = whole ∙ sym part in
        (ap is_some part, h.1, subst (λ o. n * length (unwrap_or o []) ≤ 65536) same h.2)

    layouts-shrink : (fields : List FieldDecl) (cs : List Ty) → AreBefore p fields → joined (layout (record { types = types; structs = names; defined = defs })) fields ≡ Some cs → joined (layout (stage types names p defs)) fields ≡ Some cs
    unfolding layout
    layouts-shrink fields cs all h = joined-shrinks (struct_cells types defs) (struct_cells (take p types) defs) (structs-shrink defs before) fields cs all h

    -- a struct that may be defined in the whole table may be where its fields' types are there
    pub definition-shrinks : (s : ℕ) (fields : List FieldDecl) → AreBefore p fields → CanDefine (record { types = types; structs = names; defined = defs }) s fields → CanDefine (stage types names p defs) s fields
    definition-shrinks s fields all h = (h.0, h.1, layouts-shrink fields h.1 all h.2, h.3)
