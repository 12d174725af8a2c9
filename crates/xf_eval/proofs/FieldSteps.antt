-- Steps to fields.
use native.Mathlib.Numerals.{unary_clauses}
use Rattle.std.specs.Prelude.{pos, ◌*ℤ◌}
use Rattle.std.proofs.Common.{◌≡◌, ℕ, zero, suc, ◌+◌, ◌*◌, ◌≤◌, List, [], ◌∷◌, length, take, refl, ap, sym, ◌∙◌, arith, min, inl, inr}
use Rattle.std.proofs.lemmas.Bool.{cases_lt, lt-leb}
use Rattle.kt_types.specs.Layout.{cells, cells_before}
use Rattle.kt_types.specs.Table.{Table}
use Rattle.kt_types.specs.declared.kinds.FieldDecl.{FieldDecl}
use Rattle.kt_mem.specs.Arithmetic.{moved}
use Rattle.kt_mem.specs.declared.memory.Value.{Value}
use Rattle.kt_mem.specs.declared.memory.Value.TheVariants.{Num, Null, Ptr, Free, Held, Undef}
use Rattle.xf_eval.specs.Steps.{LeadsAsFar}

-- one field more
pub far-more : (n k w : ℕ) → LeadsAsFar n k → LeadsAsFar (n + w) (min (k + w) 65537)
far-more n k w (inl e) =
    elim (cases_lt (n + w) 65538) [
      | inl near ↦ inl (omega (arith, e, near))
      | inr far ↦ inr (omega (arith, e, far), omega (arith, e, far))
    ]
far-more n k w (inr far) = let a = far.0 in let b = far.1 in inr (omega (arith, a, b), omega (arith, a, b))

-- past every offset
past : (p : Value) (n : ℕ) → 65537 ≤ n → moved p (pos n) ≡ moved p (pos 65537)
past (Num z) n h = refl
past Null n h = refl
past (Ptr name k) n h =
    let here = lt-leb (k + n) 65536 (omega (arith, h)) in
    let there = lt-leb (k + 65537) 65536 (omega arith) in
    rw (here, there) refl
past Free n h = refl
past (Held t) n h = refl
past Undef n h = refl

pub moved-as-far : (p : Value) (n k : ℕ) → LeadsAsFar n k → moved p (pos 1 *ℤ pos k) ≡ moved p (pos n)
moved-as-far p n k (inl e) = ap (λ (m : ℕ). moved p (pos m)) (let one : 1 * k ≡ n = omega (arith, e) in one)
moved-as-far p n k (inr far) =
    ap (λ (m : ℕ). moved p (pos m)) (let one : 1 * k ≡ k = omega arith in one) ∙ past p k far.1 ∙ sym (past p n far.0)

-- the fields up to a place alone
pub front-cells : (t : Table) (fs : List FieldDecl) (n : ℕ) → cells_before t (take (min (length fs) n) fs) (length (take (min (length fs) n) fs)) ≡ cells_before t fs n
front-cells t [] zero = refl
front-cells t [] (suc n) = simp unary_clauses refl
front-cells t (f ∷ fs) zero = simp unary_clauses refl
front-cells t (f ∷ fs) (suc n) = simp unary_clauses (ap (λ m. length (cells t f.ty) + m) (front-cells t fs n))
