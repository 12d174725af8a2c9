-- Kept values, placed one after another.
use Rattle.std.proofs.Common.{◌≡◌, ℕ, zero, suc, ◌+◌, ◌<◌, List, [], ◌∷◌, length, take, Option, None, get_or, sym, ap, ◌∙◌, arith}
use Rattle.kt_mem.specs.declared.memory.Value.{Value}
use Rattle.kt_mem.specs.Memory.{Memory}
use Rattle.kt_lone.specs.Update.{placed, placed_from, placed_one}

-- counted from i
next : (kept : List (Option Value)) (i n : ℕ) (m : Memory) → n < length kept →
    placed_one (i + n) (get_or kept n None) (placed_from i (take n kept) m) ≡ placed_from i (take (suc n) kept) m
next [] i n m h = absurd (omega arith)
next (k ∷ kept) i zero m h =
    let e : i + 0 ≡ i = omega arith in
    ap (λ j. placed_one j k m) e
next (k ∷ kept) i (suc n) m h =
    let e : i + suc n ≡ (i + 1) + n = omega arith in
    ap (λ j. placed_one j (get_or kept n None) (placed_from (i + 1) (take n kept) (placed_one i k m))) e
    ∙ next kept (i + 1) n (placed_one i k m) (omega arith)

-- one kept value more
pub placed-next : (kept : List (Option Value)) (n : ℕ) (m : Memory) → n < length kept →
    placed_one n (get_or kept n None) (placed (take n kept) m) ≡ placed (take (n + 1) kept) m
placed-next kept n m h =
    let e : 0 + n ≡ n = omega arith in
    let s : n + 1 ≡ suc n = omega arith in
    ap (λ j. placed_one j (get_or kept n None) (placed (take n kept) m)) (sym e) ∙ next kept 0 n m h ∙ ap (λ j. placed (take j kept) m) (sym s)
