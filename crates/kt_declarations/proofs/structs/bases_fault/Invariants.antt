use Rattle.std.proofs.Common.{◌≡◌, drop}
use Rattle.kt_operands.specs.Views.{environment_of}
use Rattle.kt_typing.specs.First.{earlier}
use Rattle.kt_program.specs.Judgments.{first_among}
use Rattle.kt_program.specs.Structs.{bases_judged}
use Rattle.kt_declarations.proofs.structs.bases_fault.Given as goal

abbrev pub invariant-loop-some : goal.invariant-loop-some
invariant-loop-some l =
    earlier l.fault (first_among (bases_judged (environment_of l.env) (drop l.some-index l.fields))) ≡ first_among (bases_judged (environment_of l.env) l.fields)
