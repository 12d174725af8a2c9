use Rattle.std.proofs.Common.{◌≡◌, ◌++◌, flat_map, drop}
use Rattle.kt_names.specs.Uses.{parameter_uses}
use Rattle.kt_names.proofs.uses.Uses.push_parameters.Given as goal

abbrev pub invariant-loop-parameter : goal.invariant-loop-parameter
invariant-loop-parameter l = l.self ++ flat_map parameter_uses (drop l.parameter-index l.parameters) ≡ l.fn.self ++ flat_map parameter_uses l.parameters
