-- An expression in parentheses, as it stands behind `if`, and what is refused where nothing more may be opened.
use Rattle.std.specs.Prelude.{ℕ, zero, suc, Bool, List, ◌∷◌, length, Option, Some, None, Result, Ok, Err, if◌then◌else◌}
use Rattle.kt_grammar.specs.declared.fault.Fault.{Fault}
use Rattle.kt_grammar.specs.declared.fault.Fault.TheVariants.{TooDeep}
use Rattle.kt_grammar.specs.declared.keyword.Keyword.TheVariants as keywords
use Rattle.kt_grammar.specs.declared.operator.Dialect.{Dialect}
use Rattle.kt_grammar.specs.declared.sign.Sign.TheVariants as signs
use Rattle.kt_grammar.specs.declared.symbol.Symbol.{Symbol}
use Rattle.kt_grammar.specs.declared.symbol.Symbol.TheVariants as symbol
use Rattle.kt_grammar.specs.Tree.{Term}
use Rattle.kt_grammar.specs.Marks.{Language}
use Rattle.kt_grammar.specs.Spelling.{between, spells}
use Rattle.kt_grammar.specs.Cursor.{◌>>=◌, Outcome, unexpected, behind}
use Rattle.kt_grammar.specs.Reading.{begins_expr, expr_at}

-- an expression in parentheses, one deeper
abbrev pub condition : Dialect → ℕ → Term → Language
condition g d c = between d (spells g (suc d) c)

-- what could begin here is too deep
abbrev pub refused : {A : Type 0} → (List Symbol → Bool) → List Symbol → Result A Fault
refused begins symbols = if begins symbols then Err (TooDeep (length symbols)) else unexpected symbols

-- an expression, one deeper
abbrev pub deep_expr_at : Dialect → ℕ → List Symbol → Outcome Term
deep_expr_at g zero symbols = refused (begins_expr g) symbols
deep_expr_at g (suc n) symbols = expr_at g n symbols

-- an expression in parentheses
unfoldable pub condition_at : Dialect → ℕ → List Symbol → Outcome Term
condition_at g n symbols = behind signs.OpenParenthesis symbols >>= λ inner. deep_expr_at g n inner
    >>= λ c. behind signs.CloseParenthesis c.1 >>= λ rest. Ok (c.0, rest)

-- the symbols behind an `else`, where it stands
unfoldable pub behind_else : List Symbol → Option (List Symbol)
behind_else (symbol.Keyword at keywords.Else ∷ rest) = Some rest
behind_else _ = None
