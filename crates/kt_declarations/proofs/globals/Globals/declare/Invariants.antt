use Rattle.std.proofs.Common.{drop}
use Rattle.kt_operands.specs.Views.{environment_of}
use Rattle.kt_declarations.proofs.Declared.{Reached}
use Rattle.kt_declarations.proofs.globals.Globals.declare.Given as goal

abbrev pub invariant-loop-g : goal.invariant-loop-g
invariant-loop-g l = Reached (environment_of l.env) l.base l.declarators l.fn.self l.self l.functions l.fault (drop l.g-index l.declarators)
