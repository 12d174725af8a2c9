use Rattle.std.proofs.Common.{◌≡◌, drop}
use Rattle.std.specs.List.{list_all}
use Rattle.kt_check.specs.Named.{is_named_parameter}
use Rattle.kt_check.proofs.named.parameters.Given as goal

abbrev pub invariant-loop-parameter : goal.invariant-loop-parameter
invariant-loop-parameter l = list_all is_named_parameter (drop l.parameter-index l.parameters) ≡ list_all is_named_parameter l.parameters
