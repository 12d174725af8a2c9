use Rattle.kt_mem.specs.Memory.{release}
use Rattle.kt_heap.specs.Heap as heap
use Rattle.kt_heap.specs.Heap.{memory}
use Rattle.kt_heap.proofs.GivenLaws.{releases_given}
use Rattle.kt_heap.proofs.NumberLaws.{releases_by_number}
use Rattle.kt_exec.specs.Renaming.{IsOld}
use Rattle.kt_machine.proofs.ByAddress.{acts-leave, done-in, holds-after}
use Rattle.kt_machine.proofs.Memory.{answer-left, answer-literals, kept-HasCharLiterals, release-literals}
use Rattle.kt_machine.proofs.outside.Outside.release.Goals as goal

pub invariant_of-self : goal.invariant_of-self
invariant_of-self c =
    let m = memory c.self.inside.heap in
    let new = memory c.free.new.self in
    let r = release m c.args.p in
    let left = answer-left r c.free.result new c.free.ensures.freed c.free.ensures.trap in
    let kept = answer-literals m new r c.free.result (λ n. release-literals m n c.args.p) left c.free.ensures.kept in (
      kept-HasCharLiterals m new kept c.self.invariant.0,
      c.self.invariant.1,
      holds-after (heap.given c.self.inside.heap) (heap.given c.free.new.self) m new r c.free.result
          (λ after e. releases_given (heap.given c.self.inside.heap) m after c.args.p c.self.invariant.2 e) c.self.invariant.2 left c.free.ensures.kept c.free.ensures.pairs,
    )

pub returns-clause-leaves : goal.returns-clause-leaves
returns-clause-leaves c =
    acts-leave (λ ps m p. release m p) release releases_by_number _ c.args.self.now c.self.view_is c.free.new.self c.args.p c.free.result c.done.result
    c.law.ensures.pairing c.requires
    (answer-left (release (memory c.self.inside.heap) c.args.p) c.free.result (memory c.free.new.self) c.free.ensures.freed c.free.ensures.trap)
    c.free.ensures.kept c.free.ensures.pairs c.done.ensures

pub returns-clause-names : goal.returns-clause-names
returns-clause-names c = done-in (IsOld (heap.given c.free.new.self)) c.free.result c.done.result c.done.ensures
