use Rattle.kt_typing.proofs.Firsts.{one-first}
use Rattle.kt_program.specs.Programs.{IsFaultOf}
use Rattle.kt_program.proofs.Typed.{one-program, no-fault, some-fault}
use Rattle.kt_program.proofs.laws.program_law.Goals as goal

pub returns-clause-one : goal.returns-clause-one
returns-clause-one c = one-program

pub returns-clause-faultless : goal.returns-clause-faultless
returns-clause-faultless c = no-fault

pub returns-clause-faulty : goal.returns-clause-faulty
returns-clause-faulty c = some-fault

pub returns-clause-one_first : goal.returns-clause-one_first
returns-clause-one_first c t f g = one-first (IsFaultOf t) f g
