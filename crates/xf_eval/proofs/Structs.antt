-- Sources of the fields of a struct, one after another.
use Rattle.std.specs.Prelude.{filter, IsSome, option_and_then}
use Rattle.std.specs.Option.{option_map}
use Rattle.std.proofs.Common.{◌≡◌, ℕ, zero, suc, ◌+◌, ◌-◌, ◌<◌, ◌≤◌, nat_lt, Bool, true, false, cond, List, [], ◌∷◌, ◌++◌, length, map, replicate, slice_get, Option, None, Some, refl, sym, ap, subst, ◌∙◌, arith, inl, inr}
use Rattle.std.proofs.lemmas.List.{length-map, length-replicate}
use Rattle.std.proofs.lemmas.Option.{slice_get-map, none-some, option_and_then_some, slice_get_within}
use Rattle.std.proofs.lemmas.Bool.{cases_Bool, false≢true, leb-true, leb-false}
use Rattle.kt_types.specs.declared.kinds.FieldDecl.{FieldDecl}
use Rattle.kt_types.specs.Table.{Table}
use Rattle.kt_types.specs.declared.kinds.Ty.{Ty}
use Rattle.kt_types.specs.Layout.{cells_before, joined, layout}
use Rattle.kt_types.proofs.Cells.{slice_get-append_left, slice_get-append_right, before-le, before_more, joined-length}
use Rattle.kt_types.proofs.Complete.{value-of}
use Rattle.kt_types.proofs.Growth.{option_map_some}
use Rattle.xf_plan.specs.Bodies.{Actions}
use Rattle.xf_plan.specs.Plan.{Plan, FieldRule, FieldSource, OldField, ZeroField, FieldBody}
use Rattle.xf_plan.specs.Sources.{Source, Zero, FromBody, moved_by, width, old_field, of_field, of_fields}
use Rattle.xf_plan.specs.Whole.{FillsCell}
use Rattle.xf_eval.specs.Asked.{at_place}
use Rattle.xf_eval.specs.Parts.{find_rule, AreSized}
use Rattle.xf_eval.specs.Steps.{LeadsAsFar}

-- ---- each body fills a cell

abbrev pub AllFill : Plan → List FieldRule → Type 0
AllFill p [] = Unit {0}
AllFill p (f ∷ rest) = FillsCell p f.ty f.source × AllFill p rest

pub all-fill : (p : Plan) (rules : List FieldRule) → ((n : ℕ) (f : FieldRule) → slice_get rules n ≡ Some f → FillsCell p f.ty f.source) → AllFill p rules
all-fill p [] each = tt
all-fill p (f ∷ rest) each = (each 0 f refl, all-fill p rest (λ n g is. each (suc n) g is))

pub some-fill : (p : Plan) (test : FieldRule → Bool) (rules : List FieldRule) → AllFill p rules → AllFill p (filter test rules)
some-fill p test [] all = tt
some-fill p test (f ∷ rest) all = by (test f) (some-fill p test rest all.1)
  where
    by : (b : Bool) → AllFill p (filter test rest) → AllFill p (cond b (f ∷ filter test rest) (filter test rest))
    by true more = (all.0, more)
    by false more = more

module _ (p : Plan) (at : ℕ → ℕ → Option (List Source)) (sized : AreSized p.new at) (fields : List FieldDecl) where
  -- ---- the sources of a field are as many as it has cells

  from-old : (t c : ℕ) (o : Option ℕ) (ys : List Source) → option_and_then (λ a. option_map (map (moved_by c)) (at a t)) o ≡ Some ys → length ys ≡ width p.new t
  from-old t c None ys e = absurd (none-some ys e)
  from-old t c (Some a) ys e =
      let (xs, has, same) = option_map_some (map (moved_by c)) (at a t) ys e in
      ap length (sym same) ∙ length-map xs (moved_by c) ∙ sized a t xs has

  pub field-sized : (f : FieldRule) (s : FieldSource) (ys : List Source) → FillsCell p f.ty s → of_field p at fields f s ≡ Some ys → length ys ≡ width p.new f.ty
  field-sized f (OldField k) ys fills e = from-old f.ty (cells_before p.old fields k) (old_field p fields k) ys e
  field-sized f ZeroField ys fills e = let same : replicate (width p.new f.ty) Zero ≡ ys = cc in ap length (sym same) ∙ length-replicate (width p.new f.ty) Zero
  field-sized f (FieldBody source body) ys fills e =
      let same : FromBody (option_map (cells_before p.old fields) source) (Some 0) body ∷ [] ≡ ys = cc in
      let one : 1 ≡ length ys = ap length same in
      sym one ∙ sym fills

  -- ---- where a cell is

  abbrev pub via : Option (FieldRule × ℕ) → Option Source
  via None = None
  via (Some q) = at_place (of_field p at fields q.0 q.0.source) q.1

  pub field-at : (rules : List FieldRule) (xs : List Source) → AllFill p rules → of_fields p at fields rules ≡ Some xs → (i : ℕ) →
      slice_get xs i ≡ via (find_rule p.new rules i)
  field-at [] xs fill e i = let same : [] ≡ xs = cc in ap (λ l. slice_get l i) (sym same)
  field-at (f ∷ rest) xs fill e i =
      option_and_then_some _ (of_field p at fields f f.source) xs e (λ ys has more.
      let (zs, tail, same) = option_map_some (λ l. ys ++ l) (of_fields p at fields rest) xs more in
      let long : length ys ≡ width p.new f.ty = field-sized f f.source ys fill.0 has in
      elim (cases_Bool (nat_lt i (width p.new f.ty))) [
        | inl near ↦
            let lt : i < length ys = omega (arith, leb-true (suc i) (width p.new f.ty) near, long) in
            ap (λ l. slice_get l i) (sym same) ∙ slice_get-append_left ys zs i lt ∙ (rw (near, has) refl)
        | inr far ↦
            let le = leb-false (suc i) (width p.new f.ty) far in
            let split : i ≡ length ys + (i - width p.new f.ty) = omega (arith, le, long) in
            ap (λ l. slice_get l i) (sym same) ∙ ap (slice_get (ys ++ zs)) split ∙ slice_get-append_right ys zs (i - width p.new f.ty)
            ∙ field-at rest zs fill.1 tail (i - width p.new f.ty) ∙ (rw far refl)
      ])

  -- what the code knows of the sources of the whole
  pub way-in : (rules : List FieldRule) (i : ℕ) → AllFill p rules → IsSome (at_place (of_fields p at fields rules) i) →
      at_place (of_fields p at fields rules) i ≡ via (find_rule p.new rules i)
  way-in rules i fill h = by (of_fields p at fields rules) refl h
    where
      by : (o : Option (List Source)) → of_fields p at fields rules ≡ o → IsSome (at_place o i) → at_place o i ≡ via (find_rule p.new rules i)
      by None e h = absurd (false≢true h)
      by (Some xs) e h = field-at rules xs fill e i

  -- of a struct that has these fields
  pub in-field : (known : Option (List FieldDecl)) → known ≡ Some fields → (rules : List FieldRule) (i : ℕ) (q : FieldRule × ℕ) → AllFill p rules →
      find_rule p.new rules i ≡ Some q → IsSome (at_place (option_and_then (λ fs. of_fields p at fs rules) known) i) →
      at_place (option_and_then (λ fs. of_fields p at fs rules) known) i ≡ at_place (of_field p at fields q.0 q.0.source) q.1
  in-field known is rules i q fill found h =
      let same = ap (λ (o : Option (List FieldDecl)). at_place (option_and_then (λ fs. of_fields p at fs rules) o) i) is in
      same ∙ way-in rules i fill (subst (λ (o : Option Source). IsSome o) same h) ∙ ap via found

  pub in-none : (known : Option (List FieldDecl)) → known ≡ Some fields → (rules : List FieldRule) (i : ℕ) → AllFill p rules →
      find_rule p.new rules i ≡ None → IsSome (at_place (option_and_then (λ fs. of_fields p at fs rules) known) i) → ⊥
  in-none known is rules i fill found h =
      let same = ap (λ (o : Option (List FieldDecl)). at_place (option_and_then (λ fs. of_fields p at fs rules) o) i) is in
      let none = same ∙ way-in rules i fill (subst (λ (o : Option Source). IsSome o) same h) ∙ ap via found in
      false≢true (subst (λ (o : Option Source). IsSome o) none h)

  -- ---- the sources of one field

  pub old-field : (f : FieldRule) (k : ℕ) (d : FieldDecl) (j : ℕ) → slice_get fields k ≡ Some d →
      at_place (of_field p at fields f (OldField k)) j ≡ option_map (moved_by (cells_before p.old fields k)) (at_place (at d.ty f.ty) j)
  old-field f k d j is = rw is (by (at d.ty f.ty))
    where
      by : (o : Option (List Source)) → at_place (option_map (map (moved_by (cells_before p.old fields k))) o) j ≡ option_map (moved_by (cells_before p.old fields k)) (at_place o j)
      by None = refl
      by (Some xs) = slice_get-map (moved_by (cells_before p.old fields k)) xs j

  pub no-field : (f : FieldRule) (k j : ℕ) → slice_get fields k ≡ None → IsSome (at_place (of_field p at fields f (OldField k)) j) → ⊥
  no-field f k j is h = false≢true (rw is at h)

  pub body-field : (f : FieldRule) (source : Option ℕ) (body : Actions) (j : ℕ) → IsSome (at_place (of_field p at fields f (FieldBody source body)) j) →
      at_place (of_field p at fields f (FieldBody source body)) j ≡ Some (FromBody (option_map (cells_before p.old fields) source) (Some 0) body)
  body-field f source body zero h = refl
  body-field f source body (suc j) h = absurd (false≢true h)

-- ---- the places of fields

-- all cells stand before the end
pub before-end : (t : Table) (fields : List FieldDecl) (k : ℕ) → cells_before t fields k ≤ cells_before t fields (length fields)
before-end t [] zero = omega arith
before-end t [] (suc k) = omega arith
before-end t (f ∷ fields) zero = omega arith
before-end t (f ∷ fields) (suc k) = omega (arith, before-end t fields k)

pub field-within : (t : Table) (fields : List FieldDecl) (k : ℕ) (d : FieldDecl) → slice_get fields k ≡ Some d →
    cells_before t fields k + width t d.ty ≤ cells_before t fields (length fields)
field-within t fields k d is =
    let in_range = slice_get_within fields k d is in
    let more = before_more t fields k d is in
    let le = before-le t fields (k + 1) (length fields) (let up : k + 1 ≤ length fields = omega (arith, in_range) in up) in
    omega (arith, more, le)

-- a step that leads as far is exact within a struct
pub exact-step : (n k most : ℕ) → LeadsAsFar n k → n ≤ most → most ≤ 65536 → n ≡ k
exact-step n k most (inl e) low few = sym e
exact-step n k most (inr far) low few = let a = far.0 in absurd (omega (arith, a, low, few))

pub few-cells : (t : Table) (fields : List FieldDecl) (most : ℕ) → IsSome (joined (layout t) fields) →
    ((cs : List Ty) → joined (layout t) fields ≡ Some cs → length cs ≤ most) → cells_before t fields (length fields) ≤ most
few-cells t fields most complete bound =
    let (cs, has) = value-of (joined (layout t) fields) complete in
    let long = joined-length t fields cs has in
    let le = bound cs has in
    omega (arith, long, le)
