use Rattle.kt_heap.specs.Inside.{state_of}
use Rattle.kt_heap.proofs.Taking.{place_unpaired}
use Rattle.kt_heap.proofs.heap.Heap.place.Goals as goal

pub add-requires-clause-unpaired : goal.add-requires-clause-unpaired
add-requires-clause-unpaired c =
    place_unpaired (state_of c.self.inside) c.args.self.now c.args.obj.serial c.self.view_is c.self.invariant.0 c.requires.not_live c.requires.all_live
