use Rattle.std.proofs.Common.{is_some}
use Rattle.kt_program.specs.Declarators.{declared_type}
use Rattle.kt_declarations.proofs.Right.{extent-right, count-right, initial-right, initial-fits}
use Rattle.kt_declarations.proofs.laws.globals_law.Goals as goal

pub returns-clause-extent : goal.returns-clause-extent
returns-clause-extent c env names cells b g right = extent-right env names cells b g right

pub returns-clause-count : goal.returns-clause-count
returns-clause-count c env names cells b g right = count-right env names cells b g right

pub returns-clause-fits : goal.returns-clause-fits
returns-clause-fits c env names cells b g right =
    initial-fits env (declared_type env b g.declarator.pointer) (is_some g.declarator.count) g.initial (initial-right env names cells b g right)
