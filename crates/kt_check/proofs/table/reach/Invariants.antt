use Rattle.std.proofs.Common.{◌≡◌, drop}
use Rattle.kt_check.specs.Built.{reach}
use Rattle.kt_check.proofs.table.reach.Given as goal

abbrev pub invariant-loop-field : goal.invariant-loop-field
invariant-loop-field l = reach l.most (drop l.field-index l.fields) ≡ reach l.count l.fields
