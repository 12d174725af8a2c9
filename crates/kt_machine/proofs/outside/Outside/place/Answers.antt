use Rattle.kt_heap.specs.Heap as heap
use Rattle.kt_heap.specs.Heap.{memory}
use Rattle.kt_machine.proofs.ByAddress.{placed-holds}
use Rattle.kt_machine.proofs.Memory.{kept-HasCharLiterals, placed-literals}
use Rattle.kt_machine.proofs.outside.Outside.place.Goals as goal

pub invariant_of-self : goal.invariant_of-self
invariant_of-self c =
    let m = memory c.self.inside.heap in
    let new = memory c.place.new.heap in (
      kept-HasCharLiterals m new (placed-literals 0 c.args.kept.now m new c.place.ensures.placed) c.self.invariant.0,
      c.self.invariant.1,
      placed-holds (heap.given c.self.inside.heap) (heap.given c.place.new.heap) c.args.kept.now m new c.requires.numbers c.self.invariant.2 c.place.ensures.placed
          c.place.ensures.given,
    )
