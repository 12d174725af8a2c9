use Rattle.std.proofs.Common.{◌≡◌, ◌<◌, ◌≤◌, ℕ, Some, length, slice_get}
use Rattle.kt_types.specs.Layout.{cells_before, cell_limit}
use Rattle.kt_types.proofs.table.TypeTable.starts.Given as goal

abbrev pub invariant-loop-field : goal.invariant-loop-field
invariant-loop-field l = record {
  len : length l.starts.items ≡ l.field-index;
  each : (n : ℕ) → n < l.field-index → slice_get l.starts.items n ≡ Some (cells_before l.self l.fields n);
  count : l.cells ≡ cells_before l.self l.fields l.field-index;
  few : l.cells ≤ cell_limit;
  some : l.field-index ≤ l.cells;
}
