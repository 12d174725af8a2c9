use Rattle.std.proofs.Common.{◌≡◌, ℤ, length, sym, ◌∙◌, subst, ap, arith, w64}
use Rattle.std.proofs.lemmas.Int.{to_z-of_z}
use Rattle.kt_mem.specs.Renaming.{Pairs}
use Rattle.kt_heap.specs.ByNumber.{by_number}
use Rattle.kt_heap.specs.Heap.{memory, given}
use Rattle.kt_heap.proofs.NumberLaws.{allocs_by_number}
use Rattle.kt_mem.specs.declared.memory.Name.TheVariants.{Heap}
use Rattle.kt_mem.specs.declared.memory.Value.TheVariants.{Ptr}
use Rattle.kt_mem.specs.declared.steps.Reply.TheVariants.{Got}
use Rattle.kt_mem.specs.declared.steps.Trap.TheVariants as trap
use Rattle.kt_mem.specs.Memory.{Memory, alloc, fresh_object, made}
use Rattle.kt_meaning.specs.Effects.{Replies, makes}
use Rattle.kt_types.specs.Layout.{cells}
use Rattle.kt_exec.specs.Renaming.{IsOld}
use Rattle.kt_machine.specs.ByNumber.{reply_by}
use Rattle.kt_machine.proofs.Allocations.{failed-makes, given-after, made-makes, numbered-made}
use Rattle.kt_machine.proofs.Memory.{made-literals}
use Rattle.kt_machine.proofs.Names.{pushed-grows, pushed-old}
use Rattle.kt_machine.proofs.allocate.allocate.Goals as goal

pub returns-in_default-clause-made : goal.returns-in_default-clause-made
returns-in_default-clause-made c s =
    let m = by_number (given c.args.heap.now) (memory c.args.heap.now) in
    let types = cells c.args.types.now c.args.ty in
    let fault = c.element_count.ensures.none c.in_default.is m c.args.ty types c.args.zero c.in_ok-cells.ensures.some in
    let same = ap (λ (z : ℤ). alloc m c.args.ty types z c.args.zero) (sym (to_z-of_z w64 c.args.count c.ranges.count)) in
    failed-makes s m (alloc m c.args.ty types c.args.count c.args.zero) trap.Size (same ∙ fault)

pub alloc-requires-clause-some_cell : goal.alloc-requires-clause-some_cell
alloc-requires-clause-some_cell c =
    let same = ap length (c.as_slice.ensures.value ∙ c.in_ok-cells.ensures.cells) in
    omega (arith, same, c.in_ok-cells.ensures.some)

pub alloc-requires-clause-cell_limit : goal.alloc-requires-clause-cell_limit
alloc-requires-clause-cell_limit c =
    let same = ap length (c.as_slice.ensures.value ∙ c.in_ok-cells.ensures.cells) in
    omega (arith, same, c.in_ok-cells.ensures.few)

pub returns-in-Ok-clause-made : goal.returns-in-Ok-clause-made
returns-in-Ok-clause-made c s =
    let ps = given c.args.heap.now in
    let qs = given c.alloc.new.self in
    let m = memory c.args.heap.now in
    let new = memory c.alloc.new.self in
    let number = sym (to_z-of_z w64 c.args.count c.ranges.count) ∙ c.in-Some.ensures.some in
    let made = made-makes s (by_number ps m) (by_number qs new) c.args.ty c.as_slice.result.now c.args.count c.in-Some.count c.in-Ok.a qs c.args.zero number
    c.in-Ok.ensures.room (numbered-made ps qs m c.in-Ok.a c.in-Ok.ensures.fresh c.in-Ok.ensures.pair)
    (ap (λ (n : Memory). by_number qs n) c.in-Ok.ensures.made
    ∙ ap (λ (rs : Pairs). by_number rs (made m c.in-Ok.a (fresh_object m.next c.args.ty c.as_slice.result.now c.in-Some.count c.args.zero))) c.in-Ok.ensures.pair
    ∙ allocs_by_number ps m c.in-Ok.a c.args.ty c.in-Some.count c.as_slice.result.now c.args.zero c.law.ensures.pairing c.requires.holds c.in-Ok.ensures.fresh) in
    subst (λ types. makes (record s { memory = by_number ps m }) (alloc (by_number ps m) c.args.ty types c.args.count c.args.zero)
    ≡ Replies (reply_by qs (Got (Ptr (Heap c.in-Ok.a) 0))) (record s { memory = by_number qs new }))
    (c.as_slice.ensures.value ∙ c.in_ok-cells.ensures.cells) made

pub returns-in-Ok-clause-names : goal.returns-in-Ok-clause-names
returns-in-Ok-clause-names c =
    subst (λ (ps : Pairs). IsOld ps c.in-Ok.a) (sym c.in-Ok.ensures.pair) (pushed-old (given c.args.heap.now) c.in-Ok.a (memory c.args.heap.now).next)

pub returns-in-Ok-clause-literals : goal.returns-in-Ok-clause-literals
returns-in-Ok-clause-literals c =
    let m = memory c.args.heap.now in
    made-literals m (memory c.alloc.new.self) c.in-Ok.a (fresh_object m.next c.args.ty c.as_slice.result.now c.in-Some.count c.args.zero) c.in-Ok.ensures.made

pub returns-in-Ok-clause-holds : goal.returns-in-Ok-clause-holds
returns-in-Ok-clause-holds c =
    let ps = given c.args.heap.now in
    let m = memory c.args.heap.now in
    given-after ps (given c.alloc.new.self) m (memory c.alloc.new.self) c.in-Ok.a c.args.ty c.in-Some.count c.as_slice.result.now c.args.zero c.requires.holds
    c.in-Ok.ensures.made c.in-Ok.ensures.pair

pub returns-in-Ok-clause-grows : goal.returns-in-Ok-clause-grows
returns-in-Ok-clause-grows c =
    pushed-grows (given c.args.heap.now) (given c.alloc.new.self) c.in-Ok.a (memory c.args.heap.now).next c.in-Ok.ensures.fresh c.in-Ok.ensures.pair
