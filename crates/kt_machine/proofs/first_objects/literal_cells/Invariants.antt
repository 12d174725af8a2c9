use Rattle.std.proofs.Common.{◌≡◌, map, take}
use Rattle.kt_lone.specs.Update.{char_cell}
use Rattle.kt_machine.proofs.first_objects.literal_cells.Given as goal

abbrev pub invariant-loop-byte : goal.invariant-loop-byte
invariant-loop-byte l = l.cells.items ≡ map char_cell (take l.byte-index l.bytes)
