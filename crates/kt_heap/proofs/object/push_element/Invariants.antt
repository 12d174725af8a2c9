use Rattle.std.proofs.Common.{◌≡◌, ◌++◌, map, take}
use Rattle.kt_mem.specs.Memory.{fresh_cell}
use Rattle.kt_heap.proofs.object.push_element.Given as goal

abbrev pub invariant-loop-ty : goal.invariant-loop-ty
invariant-loop-ty l = l.cells.items ≡ l.initial.cells.items ++ map (fresh_cell l.zero) (take l.ty-index l.types)
