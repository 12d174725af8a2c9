use Rattle.std.proofs.Common.{◌≡◌, ◌<◌, ℕ, Some, slice_get}
use Rattle.kt_types.specs.Layout.{IsComplete}
use Rattle.kt_types.specs.declared.kinds.FieldDecl.{FieldDecl}
use Rattle.kt_types.proofs.table.TypeTable.are_complete.Given as goal

abbrev pub invariant-loop-field : goal.invariant-loop-field
invariant-loop-field l = (n : ℕ) (f : FieldDecl) → n < l.field-index → slice_get l.fields n ≡ Some f → IsComplete l.self f.ty
