-- The values of operands, as the code keeps them: as far as rule code takes any. No public clause cites this module.
use Rattle.std.specs.Prelude.{List, [], ◌∷◌, Result, Ok, Err}
use Rattle.kt_mem.specs.declared.memory.Value.{Value}
use Rattle.kt_mem.specs.declared.memory.Value.TheVariants.{Undef}
use Rattle.kt_mem.specs.declared.steps.Trap.{Trap}
use Rattle.xf_eval.specs.declared.operands.Operands.{Operands}
use Rattle.xf_eval.specs.declared.operands.Operands.TheVariants.{Empty, One, Two, More}

-- these, and one behind them
abbrev pub with_one : Operands → Value → Operands
with_one Empty v = One v
with_one (One a) v = Two a v
with_one (Two a b) v = More
with_one More v = More

abbrev pub with_all : Operands → List Value → Operands
with_all os [] = os
with_all os (v ∷ vs) = with_all (with_one os v) vs

-- these, and behind them what an evaluation gives
abbrev pub gathered : Operands → Result (List Value) Trap → Result Operands Trap
gathered os (Ok vs) = Ok (with_all os vs)
gathered os (Err t) = Err t

-- values of which these are kept
abbrev pub list_of : Operands → List Value
list_of Empty = []
list_of (One a) = a ∷ []
list_of (Two a b) = a ∷ b ∷ []
list_of More = Undef ∷ Undef ∷ Undef ∷ []
