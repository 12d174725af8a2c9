-- Reading an expression one deeper.
use Rattle.std.proofs.Common.{◌≡◌, ℕ, zero, suc, ◌-◌, ◌<◌, List, refl, arith}
use Rattle.kt_grammar.specs.declared.operator.Dialect.{Dialect}
use Rattle.kt_grammar.specs.declared.symbol.Symbol.{Symbol}
use Rattle.kt_grammar.specs.Reading.{expr_at}
use Rattle.kt_grammar.specs.Conditions.{deep_expr_at}

pub deep_expr-suc : (g : Dialect) (n : ℕ) (symbols : List Symbol) → 0 < n → deep_expr_at g n symbols ≡ expr_at g (n - 1) symbols
deep_expr-suc g zero symbols lt = absurd (omega arith)
deep_expr-suc g (suc n) symbols lt = let e : suc n - 1 ≡ n = omega arith in rw e refl

pub ruleset deeper = (deep_expr-suc)
