-- What the fields of a table say of the table that they stand for.
use Rattle.std.proofs.Common.{◌≡◌, ℕ, ◌≤◌, length, Option, None, Some, sym, ap, ◌∙◌, subst, slice_get}
use Rattle.std.specs.Option.{option_map}
use Rattle.std.specs.Global.{Vec}
use Rattle.std.proofs.lemmas.Option.{slice_get-map}
use Rattle.indexmap.specs.IndexMap.{keys, values}
use Rattle.kt_types.specs.Inside.{table_of, KeepsTable}
use Rattle.kt_types.specs.Kept.{IsCounted, IsDefinedOnce, IsLaidOut, IsNumbered}
use Rattle.kt_types.specs.Table.{Table, fields_of}
use Rattle.kt_types.specs.declared.kinds.Ty.{Ty}
use Rattle.kt_types.specs.declared.table.StructLayout.{StructLayout}
use Rattle.kt_types.specs.declared.table.TypeTable.TheInside.{Inside}

module _ (a : Inside) (t : Table) (view : table_of a ≡ t) (kept : KeepsTable a) where
  pub type-at : (p : ℕ) (ty : Ty) (n : ℕ) → Some (ty, n) ≡ slice_get a.types.entries p → (slice_get t.types p ≡ Some ty) × IsCounted t p ty n
  type-at p ty n e =
      let here = sym e in
      let there : slice_get (keys a.types) p ≡ Some ty = slice_get-map (λ c. c.0) a.types.entries p ∙ ap (option_map (λ c. c.0)) here in
      (ap (λ u. slice_get u.types p) (sym view) ∙ there, subst (λ u. IsCounted u p ty n) view (kept.counted p (ty, n) here))

  pub no-type : (p : ℕ) → None ≡ slice_get a.types.entries p → slice_get t.types p ≡ None
  no-type p e =
      ap (λ u. slice_get u.types p) (sym view) ∙ slice_get-map (λ c. c.0) a.types.entries p ∙ ap (option_map (λ c. c.0)) (sym e)

  pub struct-at : (s : ℕ) (name : Vec ℕ) (i : Option ℕ) → Some (name, i) ≡ slice_get a.structs.entries s → IsNumbered t a.defined.items s i
  struct-at s name i e =
      let there : slice_get (values a.structs) s ≡ Some i = slice_get-map (λ c. c.1) a.structs.entries s ∙ ap (option_map (λ c. c.1)) (sym e) in
      subst (λ u. IsNumbered u a.defined.items s i) view (kept.numbered s i there)

  pub layout-at : (i : ℕ) (d : StructLayout) → slice_get a.defined.items i ≡ Some d → IsLaidOut t d
  layout-at i d e = subst (λ u. IsLaidOut u d) view (kept.laid_out i d e)

  pub defined-once : IsDefinedOnce t.defined
  defined-once = subst (λ u. IsDefinedOnce u.defined) view kept.once

  pub undeclared : (s : ℕ) → length t.structs ≤ s → fields_of t s ≡ None
  undeclared s le = subst (λ u. fields_of u s ≡ None) view (kept.declared s (subst (λ u. length u.structs ≤ s) (sym view) le))

  pub name-at : (s : ℕ) (name : Vec ℕ) (i : Option ℕ) → Some (name, i) ≡ slice_get a.structs.entries s → slice_get t.structs s ≡ Some name.items
  name-at s name i e =
      ap (λ u. slice_get u.structs s) (sym view) ∙ slice_get-map (λ k. k.items) (keys a.structs) s
      ∙ ap (option_map (λ k. k.items)) (slice_get-map (λ c. c.0) a.structs.entries s ∙ ap (option_map (λ c. c.0)) (sym e))

  pub no-name : (s : ℕ) → None ≡ slice_get a.structs.entries s → slice_get t.structs s ≡ None
  no-name s e =
      ap (λ u. slice_get u.structs s) (sym view) ∙ slice_get-map (λ k. k.items) (keys a.structs) s
      ∙ ap (option_map (λ k. k.items)) (slice_get-map (λ c. c.0) a.structs.entries s ∙ ap (option_map (λ c. c.0)) (sym e))
