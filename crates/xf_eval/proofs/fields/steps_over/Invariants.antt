use Rattle.std.proofs.Common.{◌≤◌}
use Rattle.kt_types.specs.Layout.{cells_before}
use Rattle.xf_eval.specs.Steps.{LeadsAsFar}
use Rattle.xf_eval.proofs.fields.steps_over.Given as goal

abbrev pub invariant-loop-field : goal.invariant-loop-field
invariant-loop-field l = record {
  far : LeadsAsFar (cells_before l.types l.field-items l.field-index) l.cells;
  room : l.cells ≤ 65537;
}
