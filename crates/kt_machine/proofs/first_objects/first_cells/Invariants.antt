use Rattle.std.proofs.Common.{◌≡◌, map, take}
use Rattle.kt_types.specs.Layout.{cells}
use Rattle.kt_lone.specs.Update.{initial_cell}
use Rattle.kt_machine.proofs.first_objects.first_cells.Given as goal

abbrev pub invariant-loop-i : goal.invariant-loop-i
invariant-loop-i l = l.element.items ≡ map (initial_cell l.v l.global.init) (take l.i (cells l.types l.global.ty))
