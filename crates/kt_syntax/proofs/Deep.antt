-- Reading one deeper.
use Rattle.std.proofs.Common.{◌≡◌, ℕ, zero, suc, ◌-◌, ◌<◌, List, refl, arith}
use Rattle.kt_grammar.specs.declared.operator.Dialect.TheVariants.{C}
use Rattle.kt_grammar.specs.declared.symbol.Symbol.{Symbol}
use Rattle.kt_grammar.specs.Reading.{expr_at}
use Rattle.kt_syntax.specs.Reading.{blocks, deep_expr_at, part_at, block_behind, statement_at, entries_at}

pub deep_expr-suc : (n : ℕ) (symbols : List Symbol) → 0 < n → deep_expr_at n symbols ≡ expr_at C (n - 1) symbols
deep_expr-suc zero symbols lt = absurd (omega arith)
deep_expr-suc (suc n) symbols lt = let e : suc n - 1 ≡ n = omega arith in rw e refl

pub part-suc : (n : ℕ) (symbols : List Symbol) → 0 < n → part_at (blocks n) symbols ≡ statement_at (n - 1) (blocks (n - 1)) symbols
unfolding blocks part_at
part-suc zero symbols lt = absurd (omega arith)
part-suc (suc n) symbols lt = let e : suc n - 1 ≡ n = omega arith in rw e refl

pub block-suc : (n : ℕ) (symbols : List Symbol) → 0 < n → block_behind (blocks n) symbols ≡ entries_at (n - 1) (blocks (n - 1)) symbols
unfolding blocks block_behind
block-suc zero symbols lt = absurd (omega arith)
block-suc (suc n) symbols lt = let e : suc n - 1 ≡ n = omega arith in rw e refl

pub ruleset deep = (deep_expr-suc, part-suc, block-suc)
