use Rattle.std.proofs.Common.{map}
use Rattle.kt_operands.specs.Views.{environment_of}
use Rattle.kt_declarations.specs.Fields.{field_of, AreKnown}
use Rattle.kt_declarations.proofs.Within.{Reached}
use Rattle.kt_declarations.proofs.structs.fields_fault.Given as goal

abbrev pub invariant-loop-place : goal.invariant-loop-place
invariant-loop-place l = AreKnown l.names (map field_of l.fields) → Reached (environment_of l.env) (map field_of l.fields) l.place l.fault l.cells
