-- What reading answers on tokens that may be too deep.
use Rattle.std.specs.Prelude.{ℕ, ◌+◌, nat_lt, List, [], ◌∷◌, length, Result, Err, if◌then◌else◌}
use Rattle.kt_grammar.specs.declared.fault.Fault.{Fault}
use Rattle.kt_grammar.specs.declared.fault.Fault.TheVariants.{TooDeep}
use Rattle.kt_grammar.specs.declared.symbol.Symbol.{Symbol}
use Rattle.kt_grammar.specs.Marks.{Mark}

-- the fault at the first of these tokens that is deeper than the limit, where one is; else what is answered behind them
abbrev pub cut : {A : Type 0} → ℕ → List Mark → List Symbol → Result A Fault → Result A Fault
cut limit [] rest answer = answer
cut limit (m ∷ marks) rest answer =
    if nat_lt limit m.depth then Err (TooDeep (1 + (length marks + length rest))) else cut limit marks rest answer
