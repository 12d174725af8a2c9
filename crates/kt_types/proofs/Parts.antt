-- The part of a type that has a cell.
use Rattle.std.proofs.Common.{◌≡◌, ℕ, zero, suc, ◌<◌, ◌≤◌, ◌+◌, ◌-◌, ◌*◌, ◌%◌, List, [], ◌∷◌, length, Some, refl, sym, ap, ◌∙◌, subst, arith, slice_get, get_or, inl, inr}
use Rattle.std.specs.List.Sorted.{IsNonDecreasing}
use Rattle.std.proofs.Math.Nat.{mod-lt, mul-zero}
use Rattle.std.proofs.lemmas.Bool.{cases_lt}
use Rattle.std.proofs.lemmas.Option.{get_or_from_slice_get}
use Rattle.kt_types.proofs.Cells.{joined-complete, joined-length, joined-at, before_more, before-le, length-repeated, slice_get-repeated}
use Rattle.kt_types.proofs.Complete.{some-of, struct-layout}
use Rattle.kt_types.proofs.Laws.{layout-layout_by}
use Rattle.kt_types.proofs.Ranks.{rank-array, rank-field}
use Rattle.kt_types.specs.Kept.{AreStarts, IsCounted, IsDefinedOnce, IsLaidOut, IsPart}
use Rattle.kt_types.specs.Layout.{cells, cells_before, layout, repeated}
use Rattle.kt_types.specs.Table.{Table, fields_of}
use Rattle.kt_types.specs.declared.kinds.FieldDecl.{FieldDecl}
use Rattle.kt_types.specs.declared.kinds.Ty.{Ty}
use Rattle.kt_types.specs.declared.kinds.Ty.TheVariants.{Struct, Array}
use Rattle.kt_types.specs.declared.table.StructLayout.{StructLayout}

pub cells-is : (t : Table) (p : ℕ) (cs : List Ty) → layout t p ≡ Some cs → cells t p ≡ cs
cells-is t p cs has = rw has refl

-- an element of an array
pub part-array : (t : Table) (p e k n cell within : ℕ) → slice_get t.types p ≡ Some (Array e k) → IsCounted t p (Array e k) n
    → cell < length (cells t p) → within ≡ cell % length (cells t e) → IsPart t p cell e within
part-array t p e k n cell within at h lt is =
    let element : cells t e ≡ h.0 = cells-is t e h.0 h.2 in
    let whole : cells t p ≡ repeated k h.0 = cells-is t p _ h.3 in
    let below : cell < k * length h.0 = subst (λ m. cell < m) (length-repeated k h.0) (subst (λ l. cell < length l) whole lt) in
    let its : within ≡ cell % length h.0 = is ∙ ap (λ l. cell % length l) element in
    let some : 0 < length h.0 = positive (length h.0) h.4 in
    let small : within < length h.0 = subst (λ m. m < length h.0) (sym its) (mod-lt cell some) in
    record {
      complete = some-of _ h.0 h.2;
      within_it = subst (λ l. within < length l) (sym element) small;
      same = ap (λ l. slice_get l within) element ∙ ap (slice_get h.0) its ∙ sym (slice_get-repeated k h.0 cell below) ∙ ap (λ l. slice_get l cell) (sym whole);
      falls = inr (rank-array t.types t.defined p e k at, h.1);
    }
  where
    positive : (m : ℕ) → n ≡ k * m → 0 < m
    positive zero z = absurd (omega (arith, z, mul-zero k))
    positive (suc m) z = omega arith

-- the starts of fields do not fall
pub starts-sorted : (t : Table) (fields : List FieldDecl) (starts : List ℕ) → AreStarts t fields starts → IsNonDecreasing starts
starts-sorted t fields starts are i j d le lt =
    let here = get_or_from_slice_get starts i (cells_before t fields i) d (are.each i (omega (arith, are.len))) in
    let there = get_or_from_slice_get starts j (cells_before t fields j) d (are.each j (omega (arith, are.len))) in
    rw (here, there) (before-le t fields i j le)

-- the first field begins at the first cell
pub starts-first : (t : Table) (d : StructLayout) → IsLaidOut t d → (1 ≤ length d.starts.items) × (get_or d.starts.items 0 0 ≡ 0)
starts-first t d laid =
    let some : 1 ≤ length d.fields.items = positive d.fields.items (joined-length t d.fields.items laid.cells.0 laid.cells.2) in
    (omega (arith, laid.starts.len), get_or_from_slice_get d.starts.items 0 0 0 (laid.starts.each 0 some))
  where
    positive : (fields : List FieldDecl) → length laid.cells.0 ≡ cells_before t fields (length fields) → 1 ≤ length fields
    positive [] e = absurd (omega (arith, e, laid.cells.3, laid.some_cells))
    positive (f ∷ fs) e = omega arith

-- the field of a struct that begins last, not after the cell
pub part-field : (t : Table) → IsDefinedOnce t.defined → (p s : ℕ) (d : StructLayout) → slice_get t.types p ≡ Some (Struct s) → IsLaidOut t d → d.number ≡ s
    → (n cell : ℕ) → n < length d.starts.items → get_or d.starts.items n 0 ≤ cell → (n + 1 < length d.starts.items → cell < get_or d.starts.items (n + 1) 0)
    → cell < length (cells t p) → (f : FieldDecl) → slice_get d.fields.items n ≡ Some f → IsPart t p cell f.ty (cell - get_or d.starts.items n 0)
part-field t once p s d at laid is n cell lt from to below f field =
    let (cs, has, joins, count) = struct-layout t p s d at laid is in
    let whole : cells t p ≡ cs = cells-is t p cs has in
    let total = joined-length t d.fields.items cs joins in
    let start : get_or d.starts.items n 0 ≡ cells_before t d.fields.items n =
    get_or_from_slice_get d.starts.items n _ 0 (laid.starts.each n (omega (arith, laid.starts.len))) in
    let more = before_more t d.fields.items n f field in
    let short : cell < length cs = subst (λ l. cell < length l) whole below in
    let next : cell < cells_before t d.fields.items (n + 1) = elim (cases_lt (n + 1) (length d.starts.items)) [
      | inl inner ↦
          let there = get_or_from_slice_get d.starts.items (n + 1) _ 0 (laid.starts.each (n + 1) (omega (arith, laid.starts.len))) in
          subst (λ m. cell < m) there (to inner)
      | inr last ↦
          let end : n + 1 ≡ length d.fields.items = omega (arith, laid.starts.len) in
          subst (λ m. cell < m) (total ∙ ap (cells_before t d.fields.items) (sym end)) short
    ] in
    let inside : cell - cells_before t d.fields.items n < length (cells t f.ty) = omega (arith, more, next, from, start) in
    let back : cells_before t d.fields.items n + (cell - cells_before t d.fields.items n) ≡ cell = omega (arith, from, start) in
    let its = joined-at t d.fields.items cs joins n f field (cell - cells_before t d.fields.items n) inside in
    let (x, complete) = joined-complete (layout t) d.fields.items cs joins n f field in
    record {
      complete = some-of _ x complete;
      within_it = subst (λ m. cell - m < length (cells t f.ty)) (sym start) inside;
      same = ap (λ m. slice_get (cells t f.ty) (cell - m)) start ∙ sym its ∙ ap (slice_get cs) back ∙ ap (λ l. slice_get l cell) (sym whole);
      falls = inl (rank-field t.types t.defined once p s at d.fields.items (subst (λ q. fields_of t q ≡ Some d.fields.items) is laid.known) cs (sym (layout-layout_by t p) ∙ has) n f field);
    }
