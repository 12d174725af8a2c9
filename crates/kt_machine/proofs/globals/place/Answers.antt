use Rattle.std.proofs.Common.{None, get_or, ◌∙◌, ap}
use Rattle.kt_mem.specs.Memory.{Memory}
use Rattle.kt_heap.specs.ByNumber.{by_number}
use Rattle.kt_heap.specs.Heap.{memory, given}
use Rattle.kt_lone.specs.Update.{placed_one}
use Rattle.kt_machine.proofs.ByAddress.{number-at}
use Rattle.kt_machine.proofs.Placed.{placed-next}
use Rattle.kt_machine.proofs.globals.place.Goals as goal

pub place_one-requires : goal.place_one-requires
place_one-requires c = number-at c.args.kept.now c.loop-i.i c.requires.numbers

pub loop-i-preserved : goal.loop-i-preserved
loop-i-preserved c =
    let kept = c.args.kept.now in
    let i = c.loop-i.i in
    record {
      by_address = c.place_one.ensures.placed
          ∙ ap (λ (m : Memory). placed_one i (get_or kept i None) m) c.loop-i.invariant.by_address
          ∙ placed-next kept i (memory c.args.heap.now) c.loop-i-test.true;
      by_heap_number = c.place_one.ensures.numbered
          ∙ ap (λ (m : Memory). placed_one i (get_or kept i None) m) c.loop-i.invariant.by_heap_number
          ∙ placed-next kept i (by_number (given c.args.heap.now) (memory c.args.heap.now)) c.loop-i-test.true;
      pairs = c.place_one.ensures.given ∙ c.loop-i.invariant.pairs;
    }
