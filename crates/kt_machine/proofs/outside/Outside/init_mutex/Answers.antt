use Rattle.kt_mem.specs.Memory.{init_mutex}
use Rattle.kt_heap.specs.Heap as heap
use Rattle.kt_heap.specs.Heap.{memory}
use Rattle.kt_heap.proofs.GivenLaws.{inits_given}
use Rattle.kt_heap.proofs.NumberLaws.{inits_by_number}
use Rattle.kt_exec.specs.Renaming.{IsOld}
use Rattle.kt_machine.proofs.ByAddress.{acts-leave, done-in, holds-after}
use Rattle.kt_machine.proofs.Memory.{kept-HasCharLiterals}
use Rattle.kt_machine.proofs.outside.Outside.init_mutex.Goals as goal

pub invariant_of-self : goal.invariant_of-self
invariant_of-self c =
    let m = memory c.self.inside.heap in
    let new = memory c.init.new.heap in
    let ps = heap.given c.self.inside.heap in (
      kept-HasCharLiterals m new c.init.ensures.literals c.self.invariant.0,
      c.self.invariant.1,
      holds-after ps (heap.given c.init.new.heap) m new (init_mutex m c.args.p) c.init.result
          (λ after e. inits_given ps m after c.args.p c.self.invariant.2 e) c.self.invariant.2 c.init.ensures.left c.init.ensures.kept c.init.ensures.pairs,
    )

pub returns-clause-leaves : goal.returns-clause-leaves
returns-clause-leaves c =
    acts-leave (λ ps m p. init_mutex m p) (λ m p. init_mutex m p) inits_by_number _ c.args.self.now c.self.view_is c.init.new.heap c.args.p c.init.result c.done.result
    c.law.ensures.pairing c.requires c.init.ensures.left c.init.ensures.kept c.init.ensures.pairs c.done.ensures

pub returns-clause-names : goal.returns-clause-names
returns-clause-names c = done-in (IsOld (heap.given c.init.new.heap)) c.init.result c.done.result c.done.ensures
