use Rattle.std.proofs.Common.{map, take}
use Rattle.kt_declarations.specs.Fields.{field_of, AreKnown}
use Rattle.kt_declarations.proofs.field.FieldNames.new.Given as goal

abbrev pub invariant-loop-place : goal.invariant-loop-place
invariant-loop-place l = AreKnown l.names (map field_of (take l.place l.fields))
