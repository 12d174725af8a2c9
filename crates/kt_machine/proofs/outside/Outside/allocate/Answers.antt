use Rattle.std.proofs.Common.{◌≡◌, ℤ, drop, subst, to_z, of_z, w64}
use Rattle.std.proofs.lemmas.Int.{to_z-of_z}
use Rattle.std.proofs.lemmas.Result.{IfOk-weaker}
use Rattle.kt_heap.specs.ByNumber.{by_number}
use Rattle.kt_heap.specs.Heap.{memory, given}
use Rattle.kt_mem.specs.declared.steps.Reply.{Reply}
use Rattle.kt_mem.specs.Memory.{alloc}
use Rattle.kt_meaning.specs.Effects.{Replies, Shared, makes}
use Rattle.kt_types.specs.Layout.{cells}
use Rattle.kt_machine.specs.ByNumber.{reply_by, Grows}
use Rattle.kt_machine.specs.Outside.{Outside, pairs_in, shown}
use Rattle.kt_machine.proofs.Memory.{kept-HasCharLiterals}
use Rattle.kt_machine.proofs.outside.Outside.allocate.Goals as goal

pub invariant_of-self : goal.invariant_of-self
invariant_of-self c = (
  kept-HasCharLiterals (memory c.self.inside.heap) (memory c.allocate.new.heap) c.allocate.ensures.literals c.self.invariant.0,
  c.self.invariant.1,
  c.allocate.ensures.holds,
)

pub returns-clause-makes : goal.returns-clause-makes
returns-clause-makes c =
    let h = c.self.inside.heap in
    let h' = c.allocate.new.heap in
    let types = cells c.args.types.now c.args.ty in
    let old : Outside = record { heap = h; input = drop c.self.inside.read c.self.inside.input.items; output = c.self.inside.output.items } in
    let new : Outside = record old { heap = h' } in
    IfOk-weaker c.allocate.result
    (λ (r : Reply). (s : Shared) → makes (record s { memory = by_number (given h) (memory h) }) (alloc (by_number (given h) (memory h)) c.args.ty types (to_z w64 (of_z w64 c.args.count)) c.args.zero)
    ≡ Replies (reply_by (given h') r) (record s { memory = by_number (given h') (memory h') }))
    (λ (r : Reply). makes (shown c.args.self.now) (alloc (shown c.args.self.now).memory c.args.ty types c.args.count c.args.zero) ≡ Replies (reply_by (given h') r) (shown new))
    (λ r h. subst (λ (o : Outside). makes (shown o) (alloc (shown o).memory c.args.ty types c.args.count c.args.zero) ≡ Replies (reply_by (given h') r) (shown new)) c.self.view_is
    (subst (λ (z : ℤ). makes (shown old) (alloc (shown old).memory c.args.ty types z c.args.zero) ≡ Replies (reply_by (given h') r) (shown new)) (to_z-of_z w64 c.args.count c.ranges.count)
    (h (shown old))))
    c.allocate.ensures.made

pub returns-clause-grows : goal.returns-clause-grows
returns-clause-grows c = subst (λ (o : Outside). Grows (pairs_in o) (given c.allocate.new.heap)) c.self.view_is c.allocate.ensures.grows
