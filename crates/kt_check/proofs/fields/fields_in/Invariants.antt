use Rattle.std.proofs.Common.{◌≡◌, ◌++◌, map, drop}
use Rattle.kt_check.specs.Files.{fields_in}
use Rattle.kt_check.specs.Shapes.{one_field}
use Rattle.kt_check.proofs.fields.fields_in.Given as goal

abbrev pub invariant-loop-group : goal.invariant-loop-group
invariant-loop-group l = map one_field l.fields.items ++ fields_in (drop l.group-index l.groups) ≡ fields_in l.groups
