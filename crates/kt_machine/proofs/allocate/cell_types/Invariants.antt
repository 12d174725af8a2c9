use Rattle.std.proofs.Common.{◌≡◌, take}
use Rattle.kt_types.specs.Layout.{cells}
use Rattle.kt_machine.proofs.allocate.cell_types.Given as goal

-- the first cell types
abbrev pub invariant-loop-i : goal.invariant-loop-i
invariant-loop-i l = l.found.items ≡ take l.i (cells l.types l.ty)
