use Rattle.std.proofs.Common.{◌≡◌}
use Rattle.kt_types.specs.Layout.{cells_before}
use Rattle.kt_genexpr.proofs.resolve.cells_before.Given as goal

abbrev pub invariant-loop-field : goal.invariant-loop-field
invariant-loop-field l = l.cells ≡ cells_before l.types l.field-items l.field-index
