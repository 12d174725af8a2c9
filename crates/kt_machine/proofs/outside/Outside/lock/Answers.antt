use Rattle.std.proofs.Common.{◌∙◌}
use Rattle.kt_mem.specs.Memory.{lock}
use Rattle.kt_meaning.specs.Effects.{leaves}
use Rattle.kt_mem.specs.Renaming.{rename_value, renamed}
use Rattle.kt_heap.specs.Heap as heap
use Rattle.kt_heap.specs.Heap.{memory}
use Rattle.kt_heap.proofs.GivenLaws.{locks_given}
use Rattle.kt_heap.proofs.NumberLaws.{locks_by_number}
use Rattle.kt_exec.specs.Renaming.{IsOld}
use Rattle.kt_machine.specs.Outside.{pairs_in, shown}
use Rattle.kt_machine.proofs.ByAddress.{acts-leave, done-in, holds-after, lock-goes, lock-waits}
use Rattle.kt_machine.proofs.Memory.{kept-HasCharLiterals}
use Rattle.kt_machine.proofs.outside.Outside.lock.Goals as goal

pub invariant_of-self : goal.invariant_of-self
invariant_of-self c =
    let m = memory c.self.inside.heap in
    let new = memory c.lock.new.heap in
    let ps = heap.given c.self.inside.heap in (
      kept-HasCharLiterals m new c.lock.ensures.literals c.self.invariant.0,
      c.self.invariant.1,
      holds-after ps (heap.given c.lock.new.heap) m new (lock m c.args.thread c.args.p) c.lock.result
          (λ after e. locks_given ps m after c.args.thread c.args.p c.self.invariant.2 e) c.self.invariant.2 c.lock.ensures.left c.lock.ensures.kept c.lock.ensures.pairs,
    )

pub returns-then-waits-clause-outcome : goal.returns-then-waits-clause-outcome
returns-then-waits-clause-outcome c =
    lock-waits _ c.args.self.now c.self.view_is c.args.thread c.args.p c.waits.result c.law.ensures.pairing c.requires c.waits.ensures _ c.if-waits.true

pub returns-else-waits-clause-outcome : goal.returns-else-waits-clause-outcome
returns-else-waits-clause-outcome c =
    let o = c.args.self.now in
    lock-goes _ o c.self.view_is c.args.thread c.args.p c.waits.result c.law.ensures.pairing c.requires c.waits.ensures
    (leaves (shown o) (lock (shown o).memory c.args.thread (rename_value (renamed (pairs_in o)) c.args.p))) c.if-waits.false
    ∙ acts-leave (λ ps m p. lock m c.args.thread p) (λ m p. lock m c.args.thread p) (locks_by_number c.args.thread) _ o c.self.view_is c.lock.new.heap c.args.p
    c.lock.result c.done.result c.law.ensures.pairing c.requires c.lock.ensures.left c.lock.ensures.kept c.lock.ensures.pairs c.done.ensures

pub returns-else-waits-clause-names : goal.returns-else-waits-clause-names
returns-else-waits-clause-names c = done-in (IsOld (heap.given c.lock.new.heap)) c.lock.result c.done.result c.done.ensures
