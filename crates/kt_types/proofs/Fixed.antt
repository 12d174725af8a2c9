-- The layout of a type is that of its kind, by the layouts of the types that it names.
use Rattle.std.proofs.Common.{◌≡◌, ℕ, zero, suc, ◌<◌, List, [], ◌∷◌, length, Option, None, Some, refl, sym, ap, ◌∙◌, subst, arith, slice_get}
use Rattle.std.specs.Prelude.{MatchOption}
use Rattle.std.specs.Global.{Vec}
use Rattle.std.proofs.lemmas.List.{length-map}
use Rattle.std.proofs.lemmas.Map.Entries.{length-keys_of}
use Rattle.indexmap.specs.IndexMap.{keys}
use Rattle.kt_types.proofs.Complete.{layout-nowhere, struct-layout, struct-undefined}
use Rattle.kt_types.proofs.Laws.{layout-alone}
use Rattle.kt_types.proofs.Views.{type-at, no-type, struct-at, layout-at}
use Rattle.kt_types.specs.Inside.{table_of, KeepsTable}
use Rattle.kt_types.specs.Kept.{IsCounted, IsLaidOut, IsNumbered}
use Rattle.kt_types.specs.Layout.{IsFixed, layout, struct_layout, type_cells}
use Rattle.kt_types.specs.Table.{Table, fields_of}
use Rattle.kt_types.specs.declared.kinds.Ty.{Ty}
use Rattle.kt_types.specs.declared.kinds.Ty.TheVariants.{Char, Int, Long, Mutex, Struct, Array, Ptr}
use Rattle.kt_types.specs.declared.table.StructLayout.{StructLayout}
use Rattle.kt_types.specs.declared.table.TypeTable.TheInside.{Inside}

fixed-struct : (t : Table) (p s : ℕ) (defined : List StructLayout) (i : Option ℕ) → slice_get t.types p ≡ Some (Struct s) → IsNumbered t defined s i
    → ((j : ℕ) (d : StructLayout) → slice_get defined j ≡ Some d → IsLaidOut t d) → layout t p ≡ struct_layout t s
fixed-struct t p s defined None at h laid = struct-undefined t p s at h ∙ (rw h refl)
fixed-struct t p s defined (Some j) at h laid =
    let its = laid j h.0 h.1 in
    let (cs, has, joins, _) = struct-layout t p s h.0 at its h.2 in
    let known : fields_of t s ≡ Some h.0.fields.items = subst (λ q. fields_of t q ≡ Some h.0.fields.items) h.2 its.known in
    has ∙ (rw (known, joins) refl)

entry-at : (es : List (Vec ℕ × Option ℕ)) (s : ℕ) → s < length es → (name : Vec ℕ) × (i : Option ℕ) × (Some (name, i) ≡ slice_get es s)
entry-at [] s lt = absurd (omega arith)
entry-at (e ∷ es) zero lt = (e.0, e.1, refl)
entry-at (e ∷ es) (suc s) lt = entry-at es s (omega arith)

module _ (a : Inside) (t : Table) (view : table_of a ≡ t) (kept : KeepsTable a) where
  number-at : (s : ℕ) → s < length t.structs → (name : Vec ℕ) × (i : Option ℕ) × (Some (name, i) ≡ slice_get a.structs.entries s)
  number-at s lt =
      let same : length t.structs ≡ length a.structs.entries =
      ap (λ (u : Table). length u.structs) (sym view) ∙ length-map (keys a.structs) (λ k. k.items) ∙ length-keys_of a.structs.entries in
      entry-at a.structs.entries s (omega arith)

  kind-fixed : (p : ℕ) (ty : Ty) (n : ℕ) → slice_get t.types p ≡ Some ty → IsCounted t p ty n → layout t p ≡ type_cells (struct_layout t) (layout t) ty
  kind-fixed p Char n at h = layout-alone t p Char _ at (λ _. refl)
  kind-fixed p Int n at h = layout-alone t p Int _ at (λ _. refl)
  kind-fixed p Long n at h = layout-alone t p Long _ at (λ _. refl)
  kind-fixed p Mutex n at h = layout-alone t p Mutex _ at (λ _. refl)
  kind-fixed p (Ptr q) n at h = layout-alone t p (Ptr q) _ at (λ _. refl)
  kind-fixed p (Array e k) n at h = h.3 ∙ (rw h.2 refl)
  kind-fixed p (Struct s) n at h =
      let (name, i, found) = number-at s h in
      fixed-struct t p s a.defined.items i at (struct-at a t view kept s name i found) (λ j d here. layout-at a t view kept j d here)

  pub is_fixed : (p : ℕ) → IsFixed t p
  is_fixed p = by (slice_get a.types.entries p) refl
    where
      by : (o : Option (Ty × ℕ)) → o ≡ slice_get a.types.entries p → IsFixed t p
      by None e =
          let nowhere = no-type a t view kept p e in
          subst (λ o. MatchOption o (layout t p ≡ None) (λ ty. layout t p ≡ type_cells (struct_layout t) (layout t) ty)) (sym nowhere) (layout-nowhere t p nowhere)
      by (Some c) e =
          let found = type-at a t view kept p c.0 c.1 e in
          subst (λ o. MatchOption o (layout t p ≡ None) (λ ty. layout t p ≡ type_cells (struct_layout t) (layout t) ty)) (sym found.0) (kind-fixed p c.0 c.1 found.0 found.1)
