use Rattle.std.proofs.Common.{Option, ap, sym, ◌∙◌}
use Rattle.kt_heap.specs.ByNumber.{by_number}
use Rattle.kt_heap.specs.Heap.{memory, given}
use Rattle.kt_lone.specs.Update.{placed_one}
use Rattle.kt_mem.specs.declared.memory.Value.{Value}
use Rattle.kt_machine.proofs.ByAddress.{number-some, stored-one}
use Rattle.kt_machine.proofs.globals.place_one.Goals as goal

pub returns-in-Some-clause-numbered : goal.returns-in-Some-clause-numbered
returns-in-Some-clause-numbered c =
    stored-one (given c.args.heap.now) (given c.store.new.self) (memory c.args.heap.now) (memory c.store.new.self) c.args.i c.in-Some.value c.store.result
    c.law.ensures.pairing (number-some c.args.kept c.in-Some.value c.in-Some.is c.requires) c.store.ensures.stored c.store.ensures.trap c.store.ensures.kept
    c.store.ensures.pairs
    ∙ ap (λ (k : Option Value). placed_one c.args.i k (by_number (given c.args.heap.now) (memory c.args.heap.now))) (sym c.in-Some.is)
