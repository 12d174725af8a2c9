use Rattle.std.proofs.Common.{Some}
use Rattle.kt_heap.specs.Heap.{memory}
use Rattle.kt_heap.specs.Inside.{state_of}
use Rattle.std.proofs.lemmas.Result.{on_ok_weaker}
use Rattle.kt_heap.proofs.Keeps.{keeps_globals}
use Rattle.kt_heap.proofs.Look.{memory_glob}
use Rattle.kt_heap.proofs.heap.Heap.set_global.Goals as goal

pub invariant_of-self : goal.invariant_of-self
unfolding memory
invariant_of-self c = (keeps_globals (state_of c.self.inside) c.set.new.self c.self.invariant.0, c.self.invariant.1)

pub returns-clause-set : goal.returns-clause-set
unfolding memory
returns-clause-set c =
    let ok = rw c.from.ensures at c.set.ensures.ok in
    rw (← c.self.view_is) (on_ok_weaker c.set.result (memory_glob (state_of c.self.inside) c.set.new.self c.args.i (Some c.args.obj)) ok)
