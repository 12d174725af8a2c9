use Rattle.std.proofs.Common.{◌≡◌, drop}
use Rattle.std.specs.List.{list_all}
use Rattle.kt_check.specs.Named.{are_named_fields}
use Rattle.kt_check.proofs.named.struct_fields.Given as goal

abbrev pub invariant-loop-one : goal.invariant-loop-one
invariant-loop-one l = list_all are_named_fields (drop l.one-index l.all) ≡ list_all are_named_fields l.all
