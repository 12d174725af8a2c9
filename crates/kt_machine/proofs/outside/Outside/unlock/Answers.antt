use Rattle.kt_mem.specs.Memory.{unlock}
use Rattle.kt_heap.specs.Heap as heap
use Rattle.kt_heap.specs.Heap.{memory}
use Rattle.kt_heap.proofs.GivenLaws.{unlocks_given}
use Rattle.kt_heap.proofs.NumberLaws.{unlocks_by_number}
use Rattle.kt_exec.specs.Renaming.{IsOld}
use Rattle.kt_machine.proofs.ByAddress.{acts-leave, done-in, holds-after}
use Rattle.kt_machine.proofs.Memory.{kept-HasCharLiterals}
use Rattle.kt_machine.proofs.outside.Outside.unlock.Goals as goal

pub invariant_of-self : goal.invariant_of-self
invariant_of-self c =
    let m = memory c.self.inside.heap in
    let new = memory c.unlock.new.heap in
    let ps = heap.given c.self.inside.heap in (
      kept-HasCharLiterals m new c.unlock.ensures.literals c.self.invariant.0,
      c.self.invariant.1,
      holds-after ps (heap.given c.unlock.new.heap) m new (unlock m c.args.thread c.args.p) c.unlock.result
          (λ after e. unlocks_given ps m after c.args.thread c.args.p c.self.invariant.2 e) c.self.invariant.2 c.unlock.ensures.left c.unlock.ensures.kept c.unlock.ensures.pairs,
    )

pub returns-clause-leaves : goal.returns-clause-leaves
returns-clause-leaves c =
    acts-leave (λ ps m p. unlock m c.args.thread p) (λ m p. unlock m c.args.thread p) (unlocks_by_number c.args.thread) _ c.args.self.now c.self.view_is c.unlock.new.heap c.args.p c.unlock.result c.done.result
    c.law.ensures.pairing c.requires c.unlock.ensures.left c.unlock.ensures.kept c.unlock.ensures.pairs c.done.ensures

pub returns-clause-names : goal.returns-clause-names
returns-clause-names c = done-in (IsOld (heap.given c.unlock.new.heap)) c.unlock.result c.done.result c.done.ensures
