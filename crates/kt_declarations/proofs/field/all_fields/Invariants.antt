use Rattle.std.proofs.Common.{◌≡◌, ◌++◌, map, drop}
use Rattle.kt_program.specs.Views.{all_fields}
use Rattle.kt_declarations.specs.Fields.{field_of}
use Rattle.kt_declarations.proofs.field.all_fields.Given as goal

abbrev pub invariant-loop-some : goal.invariant-loop-some
invariant-loop-some l = map field_of l.all.items ++ all_fields (drop l.some-index l.fields) ≡ all_fields l.fields
