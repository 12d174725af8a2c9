-- One step down to a cell.
use Rattle.std.specs.Prelude.{IsSome, IfSome, option_and_then}
use Rattle.std.specs.Option.{option_map}
use Rattle.std.proofs.Common.{◌≡◌, ℕ, zero, suc, ◌*◌, ◌≤◌, Bool, true, false, cond, List, [], ◌∷◌, length, slice_get, Option, None, Some, refl, sym, ap, subst, ◌∙◌, arith}
use Rattle.std.proofs.lemmas.Bool.{false≢true}
use Rattle.kt_types.specs.declared.kinds.FieldDecl.{FieldDecl}
use Rattle.kt_types.specs.declared.kinds.Ty.{Ty}
use Rattle.kt_types.specs.declared.kinds.Ty.TheVariants.{Struct, Array}
use Rattle.kt_types.specs.Table.{fields_of}
use Rattle.kt_types.specs.Layout.{layout, joined, repeated, IsComplete}
use Rattle.kt_types.proofs.Cells.{length-repeated}
use Rattle.kt_types.proofs.Complete.{value-of}
use Rattle.xf_plan.specs.Plan.{Plan, is_pair, rules_of}
use Rattle.xf_plan.specs.Correspondence.{scalar_converts}
use Rattle.xf_plan.specs.Sources.{Source, FromCell, moved_by, width, of_fields, of_longer, of_types, sources_within}
use Rattle.xf_plan.specs.Whole.{IsWhole}
use Rattle.xf_eval.specs.Asked.{at_place}
use Rattle.xf_eval.specs.Parts.{AtMost, StaysWithin}
use Rattle.xf_eval.specs.declared.found.Found.{Found}
use Rattle.xf_eval.specs.declared.found.Found.TheVariants.{Cell, Zero, Body}
use Rattle.xf_eval.proofs.Sizes.{as-width, known-layout}

module _ (p : Plan) (n a b i : ℕ) where
  -- what stands at the types of both places
  abbrev step : Ty → Ty → Option (List Source)
  step t u = of_types p (sources_within p n) t u

  there : (t u : Ty) → slice_get p.old.types a ≡ Some t → slice_get p.new.types b ≡ Some u → sources_within p (suc n) a b ≡ step t u
  there t u is is' = rw (is, is') refl

  pub struct-step : (s r : ℕ) → slice_get p.old.types a ≡ Some (Struct s) → slice_get p.new.types b ≡ Some (Struct r) →
      IsSome (at_place (sources_within p (suc n) a b) i) →
      sources_within p (suc n) a b ≡ option_and_then (λ fields. of_fields p (sources_within p n) fields (rules_of p r)) (fields_of p.old s)
  struct-step s r is is' h =
      let same = there (Struct s) (Struct r) is is' in
      same ∙ by (is_pair p.structs s r) (subst (λ o. IsSome (at_place o i)) same h)
    where
      by : (q : Bool) → IsSome (at_place (cond q (option_and_then (λ fields. of_fields p (sources_within p n) fields (rules_of p r)) (fields_of p.old s)) None) i) →
          cond q (option_and_then (λ fields. of_fields p (sources_within p n) fields (rules_of p r)) (fields_of p.old s)) None
          ≡ option_and_then (λ fields. of_fields p (sources_within p n) fields (rules_of p r)) (fields_of p.old s)
      by true h = refl
      by false h = absurd (false≢true h)

  pub array-step : (c k d m : ℕ) → slice_get p.old.types a ≡ Some (Array c k) → slice_get p.new.types b ≡ Some (Array d m) →
      sources_within p (suc n) a b ≡ option_and_then (of_longer (width p.old c) k (width p.new d) m) (sources_within p n c d)
  array-step c k d m is is' = there (Array c k) (Array d m) is is'

  one-cell : (q : Bool) (j : ℕ) → IsSome (at_place (cond q (Some (FromCell 0 ∷ [])) None) j) → at_place (cond q (Some (FromCell 0 ∷ [])) None) j ≡ Some (FromCell 0)
  one-cell true zero h = refl
  one-cell true (suc j) h = absurd (false≢true h)
  one-cell false j h = absurd (false≢true h)

  kinds : (t u : Ty) → ((s r : ℕ) → t ≡ Struct s → u ≡ Struct r → ⊥) → ((c k d m : ℕ) → t ≡ Array c k → u ≡ Array d m → ⊥) →
      IsSome (at_place (step t u) i) → at_place (step t u) i ≡ Some (FromCell 0)
  kinds (Struct s) (Struct r) structs arrays h = absurd (structs s r refl refl)
  kinds (Array c k) (Array d m) structs arrays h = absurd (arrays c k d m refl refl)
  kinds t u structs arrays h = one-cell (scalar_converts p t u) i h

  pub other-step : (t u : Ty) → slice_get p.old.types a ≡ Some t → slice_get p.new.types b ≡ Some u →
      ((s r : ℕ) → t ≡ Struct s → u ≡ Struct r → ⊥) → ((c k d m : ℕ) → t ≡ Array c k → u ≡ Array d m → ⊥) →
      IsSome (at_place (sources_within p (suc n) a b) i) → at_place (sources_within p (suc n) a b) i ≡ Some (FromCell 0)
  other-step t u is is' structs arrays h =
      let same = there t u is is' in
      ap (λ o. at_place o i) same ∙ kinds t u structs arrays (subst (λ o. IsSome (at_place o i)) same h)

  pub no-old : slice_get p.old.types a ≡ None → IsSome (at_place (sources_within p (suc n) a b) i) → ⊥
  no-old is h = false≢true (rw is at h)

  pub no-new : (t : Ty) → slice_get p.old.types a ≡ Some t → slice_get p.new.types b ≡ None → IsSome (at_place (sources_within p (suc n) a b) i) → ⊥
  no-new t is is' h = false≢true (rw (is, is') at h)

-- the cells of a struct, and of an array
pub struct-cells : (p : Plan) → IsWhole p → (a s n : ℕ) → slice_get p.old.types a ≡ Some (Struct s) → width p.old a ≤ n →
    IfSome (fields_of p.old s) (λ fields. (cs : List Ty) → joined (layout p.old) fields ≡ Some cs → length cs ≤ n)
struct-cells p whole a s n is le = by (fields_of p.old s) refl
  where
    by : (o : Option (List FieldDecl)) → fields_of p.old s ≡ o → IfSome o (λ fields. (cs : List Ty) → joined (layout p.old) fields ≡ Some cs → length cs ≤ n)
    by None e = tt
    by (Some fields) e = λ cs has.
        let law = known-layout p.old a (Struct s) (whole.old_layouts a) is in
        let here : layout p.old a ≡ Some cs = law ∙ ap (option_and_then (joined (layout p.old))) e ∙ has in
        let wide = as-width p.old a cs here in
        omega (arith, wide, le)

pub array-cells : (p : Plan) → IsWhole p → (a c k : ℕ) → slice_get p.old.types a ≡ Some (Array c k) → IsComplete p.old c → k * width p.old c ≡ width p.old a
array-cells p whole a c k is complete =
    let (cs, has) = value-of (layout p.old c) complete in
    let law = known-layout p.old a (Array c k) (whole.old_layouts a) is in
    let here : layout p.old a ≡ Some (repeated k cs) = law ∙ ap (option_map (repeated k)) has in
    ap (λ z. k * z) (as-width p.old c cs has) ∙ sym (length-repeated k cs) ∙ sym (as-width p.old a (repeated k cs) here)

-- ---- what was found

pub inner-some : (k : ℕ) (o : Option Source) → IsSome (option_map (moved_by k) o) → IsSome o
inner-some k None h = absurd (false≢true h)
inner-some k (Some s) h = refl

at-most : (n m : ℕ) (o : Option ℕ) → n ≤ m → AtMost n o → AtMost m o
at-most n m None le h = tt
at-most n m (Some k) le h = omega (arith, le, h)

pub stays-wider : (n m : ℕ) (f : Found) → n ≤ m → StaysWithin n f → StaysWithin m f
stays-wider n m (Cell k) le h = omega (arith, le, h)
stays-wider n m Zero le h = tt
stays-wider n m (Body source base body) le h = (at-most n m source le h.0, at-most n m base le h.1)
