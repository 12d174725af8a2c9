use Rattle.std.proofs.Common.{◌≡◌}
use Rattle.kt_heap.specs.Heap.{memory, given}
use Rattle.kt_machine.proofs.FirstMemory.{literals_first}
use Rattle.kt_machine.proofs.first_heap.set_literals.Given as goal

abbrev pub invariant-loop-i : goal.invariant-loop-i
invariant-loop-i l = record {
  memory : memory l.heap ≡ literals_first l.v l.version (memory l.fn.heap).next l.i;
  given : given l.heap ≡ given l.fn.heap;
}
