use Rattle.std.proofs.Common.{◌≡◌, drop}
use Rattle.kt_declarations.specs.Heads.{same_parameters}
use Rattle.kt_declarations.proofs.head.same_parameters.Given as goal

abbrev pub invariant-loop-p : goal.invariant-loop-p
invariant-loop-p l = same_parameters (drop l.p-index l.one) l.rest ≡ same_parameters l.one l.other
