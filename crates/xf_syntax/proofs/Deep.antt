-- Reading one deeper.
use Rattle.std.proofs.Common.{◌≡◌, ℕ, zero, suc, ◌-◌, ◌<◌, List, refl, arith}
use Rattle.kt_grammar.specs.declared.symbol.Symbol.{Symbol}
use Rattle.xf_syntax.specs.Reading.{blocks, part_at, block_at, act_at, acts_at}

pub part-suc : (n : ℕ) (symbols : List Symbol) → 0 < n → part_at (blocks n) symbols ≡ act_at (n - 1) (blocks (n - 1)) symbols
unfolding blocks part_at
part-suc zero symbols lt = absurd (omega arith)
part-suc (suc n) symbols lt = let e : suc n - 1 ≡ n = omega arith in rw e refl

pub block-suc : (n : ℕ) (symbols : List Symbol) → 0 < n → block_at (blocks n) symbols ≡ acts_at (n - 1) (blocks (n - 1)) symbols
unfolding blocks block_at
block-suc zero symbols lt = absurd (omega arith)
block-suc (suc n) symbols lt = let e : suc n - 1 ≡ n = omega arith in rw e refl

pub ruleset deep = (part-suc, block-suc)
