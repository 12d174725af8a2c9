-- The fields so far have types of the table.
use Rattle.std.proofs.Common.{◌≡◌, ◌<◌, ℕ, Some, slice_get}
use Rattle.kt_types.specs.declared.kinds.FieldDecl.{FieldDecl}
use Rattle.tests_types.proofs.tests.fields.Given as goal

abbrev pub invariant-loop-name : goal.invariant-loop-name
invariant-loop-name l = record {
  places : (n : ℕ) (f : FieldDecl) → slice_get l.declared.items n ≡ Some f → f.ty < l.types;
}
