use Rattle.std.proofs.Common.{◌≡◌, map, take}
use Rattle.kt_terms.specs.declared.argument.Wanted.TheVariants.{Parameter}
use Rattle.kt_terms.proofs.call.wanted_by.Given as goal

abbrev pub invariant-loop-t : goal.invariant-loop-t
invariant-loop-t l = l.wanted ≡ map Parameter (take l.t-index l.parameters)
