use Rattle.std.proofs.Common.{◌≡◌, map}
use Rattle.kt_mem.specs.Memory.{fresh_cell, repeated}
use Rattle.kt_heap.proofs.object.fresh_cells.Given as goal

abbrev pub invariant-loop : goal.invariant-loop
invariant-loop l = l.cells.items ≡ repeated l.counter (map (fresh_cell l.zero) l.types)
