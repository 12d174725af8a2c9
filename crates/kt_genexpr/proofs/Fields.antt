-- The cells before a field of a struct.
use native.Mathlib.Numerals.{unary_clauses}
use Rattle.std.proofs.Common.{◌≡◌, ℕ, zero, suc, ◌+◌, ◌<◌, List, [], ◌∷◌, length, take, get_or, refl, ap, ◌∙◌, arith, min}
use Rattle.kt_types.specs.Layout.{cells, cells_before}
use Rattle.kt_types.specs.Table.{Table}
use Rattle.kt_types.specs.declared.kinds.FieldDecl.{FieldDecl}

module _ (t : Table) where
  more-cells : (fs : List FieldDecl) (n : ℕ) (d : FieldDecl) → n < length fs → cells_before t fs (suc n) ≡ cells_before t fs n + length (cells t (get_or fs n d).ty)
  more-cells [] n d h = absurd (omega arith)
  more-cells (f ∷ fs) zero d h = omega arith
  more-cells (f ∷ fs) (suc n) d h = let e = more-cells fs n d (omega arith) in omega arith

  -- with one more field
  pub cells-more : (fs : List FieldDecl) (n : ℕ) (d : FieldDecl) → n < length fs → cells_before t fs (n + 1) ≡ cells_before t fs n + length (cells t (get_or fs n d).ty)
  cells-more fs n d h =
      let one : n + 1 ≡ suc n = omega arith in
      ap (cells_before t fs) one ∙ more-cells fs n d h

  -- the fields up to a place alone
  pub front-cells : (fs : List FieldDecl) (n : ℕ) → cells_before t (take (min (length fs) n) fs) (length (take (min (length fs) n) fs)) ≡ cells_before t fs n
  front-cells [] zero = refl
  front-cells [] (suc n) = simp unary_clauses refl
  front-cells (f ∷ fs) zero = simp unary_clauses refl
  front-cells (f ∷ fs) (suc n) = simp unary_clauses (ap (λ m. length (cells t f.ty) + m) (front-cells fs n))
