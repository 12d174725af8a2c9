use Rattle.kt_heap.specs.Heap.{memory, given}
use Rattle.kt_heap.proofs.heap.Heap.law.Goals as goal

pub returns-clause-pairing : goal.returns-clause-pairing
unfolding memory given
returns-clause-pairing c = rw (← c.self.view_is) c.self.invariant.0.pairing

pub returns-clause-once : goal.returns-clause-once
unfolding given
returns-clause-once c = rw (← c.self.view_is) c.self.invariant.0.once
