use Rattle.std.proofs.Common.{ap, sym, subst, ◌∙◌}
use Rattle.kt_mem.specs.declared.memory.Value.{Value}
use Rattle.kt_mem.specs.Memory.{store}
use Rattle.kt_meaning.specs.Effects.{leaves}
use Rattle.kt_heap.specs.Heap as heap
use Rattle.kt_heap.specs.Heap.{memory}
use Rattle.kt_mem.specs.Renaming.{rename_value, renamed}
use Rattle.kt_heap.proofs.GivenLaws.{stores_given}
use Rattle.kt_heap.proofs.NumberLaws.{stores_by_number}
use Rattle.kt_exec.specs.Renaming.{IsOld, ValueIn}
use Rattle.kt_machine.specs.Outside.{Outside, pairs_in, shown}
use Rattle.kt_machine.proofs.ByAddress.{acts-leave, done-in, holds-after}
use Rattle.kt_machine.proofs.Memory.{answer-left, answer-literals, kept-HasCharLiterals, store-literals}
use Rattle.kt_machine.proofs.Names.{old-given}
use Rattle.kt_machine.proofs.outside.Outside.store.Goals as goal

pub invariant_of-self : goal.invariant_of-self
invariant_of-self c =
    let m = memory c.self.inside.heap in
    let new = memory c.store.new.self in
    let r = store m c.args.p c.args.ty c.args.v in
    let ps = heap.given c.self.inside.heap in
    let left = answer-left r c.store.result new c.store.ensures.stored c.store.ensures.trap in
    let kept = answer-literals m new r c.store.result (λ n. store-literals m n c.args.p c.args.ty c.args.v) left c.store.ensures.kept in
    let value = old-given ps c.args.v (subst (λ (o : Outside). ValueIn (IsOld (pairs_in o)) c.args.v) (sym c.self.view_is) c.requires.value) in (
      kept-HasCharLiterals m new kept c.self.invariant.0,
      c.self.invariant.1,
      holds-after ps (heap.given c.store.new.self) m new r c.store.result
          (λ after e. stores_given ps m after c.args.p c.args.v c.args.ty c.self.invariant.2 value e) c.self.invariant.2 left c.store.ensures.kept c.store.ensures.pairs,
    )

pub returns-clause-leaves : goal.returns-clause-leaves
returns-clause-leaves c =
    let o = c.args.self.now in
    acts-leave (λ ps m p. store m p c.args.ty (rename_value (renamed ps) c.args.v)) (λ m p. store m p c.args.ty c.args.v) (stores_by_number c.args.ty c.args.v) _ o
    c.self.view_is c.store.new.self c.args.p c.store.result c.done.result c.law.ensures.pairing c.requires.pointer
    (answer-left (store (memory c.self.inside.heap) c.args.p c.args.ty c.args.v) c.store.result (memory c.store.new.self) c.store.ensures.stored c.store.ensures.trap)
    c.store.ensures.kept c.store.ensures.pairs c.done.ensures

pub returns-clause-names : goal.returns-clause-names
returns-clause-names c = done-in (IsOld (heap.given c.store.new.self)) c.store.result c.done.result c.done.ensures
