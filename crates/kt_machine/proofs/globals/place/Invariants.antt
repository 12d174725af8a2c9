use Rattle.std.proofs.Common.{◌≡◌, take}
use Rattle.kt_heap.specs.ByNumber.{by_number}
use Rattle.kt_heap.specs.Heap.{memory, given}
use Rattle.kt_lone.specs.Update.{placed}
use Rattle.kt_machine.proofs.globals.place.Given as goal

abbrev pub invariant-loop-i : goal.invariant-loop-i
invariant-loop-i l = record {
  by_address : memory l.heap ≡ placed (take l.i l.kept) (memory l.fn.heap);
  by_heap_number : by_number (given l.heap) (memory l.heap) ≡ placed (take l.i l.kept) (by_number (given l.fn.heap) (memory l.fn.heap));
  pairs : given l.heap ≡ given l.fn.heap;
}
