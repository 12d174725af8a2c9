use Rattle.std.proofs.Common.{◌≡◌, ℕ, [], refl, sym, ◌∙◌, ap, subst}
use Rattle.kt_mem.specs.Memory.{Memory}
use Rattle.kt_mem.specs.Renaming.{Pairs}
use Rattle.kt_heap.specs.ByNumber.{by_number, HoldsGiven}
use Rattle.kt_heap.specs.Heap.{memory, given}
use Rattle.kt_lone.specs.Update.{first_memory}
use Rattle.kt_machine.specs.Outside.{HasCharLiterals}
use Rattle.kt_machine.proofs.FirstMemory.{first-by, first-holds, nothing-first, first_memory-chars}
use Rattle.kt_machine.proofs.first_heap.first_heap.Goals as goal

-- the next heap number of a memory that equals one of this next heap number
with-next : (f : ℕ → Memory) (n : ℕ) (m : Memory) → (f n).next ≡ n → m ≡ f n → m ≡ f m.next
with-next f n m next is = is ∙ ap f (sym (ap (λ (k : Memory). k.next) is ∙ next))

pub set_globals-requires : goal.set_globals-requires
set_globals-requires c =
    let p = c.args.version.now in
    with-next (first_memory c.args.v (record p { globals = []; literals = [] })) c.args.next (memory c.new-heap.result) refl
    (c.new-heap.ensures.empty ∙ nothing-first c.args.v p c.args.next)

pub set_literals-requires : goal.set_literals-requires
set_literals-requires c =
    let p = c.args.version.now in
    with-next (first_memory c.args.v (record p { literals = [] })) (memory c.new-heap.result).next (memory c.set_globals.new.heap) refl
    c.in_ok-set_globals.ensures.memory

pub returns-clause-memory : goal.returns-clause-memory
returns-clause-memory c =
    let next : (memory c.set_globals.new.heap).next ≡ c.args.next =
    ap (λ (m : Memory). m.next) c.in_ok-set_globals.ensures.memory ∙ ap (λ (m : Memory). m.next) c.new-heap.ensures.empty in
    let none = c.set_literals.ensures.given ∙ c.set_globals.ensures.given ∙ c.new-heap.ensures.pairs in
    ap (λ (ps : Pairs). by_number ps (memory c.set_literals.new.heap)) none
    ∙ ap (by_number []) (c.in_ok-set_literals.ensures.memory ∙ ap (first_memory c.args.v c.args.version.now) next)
    ∙ first-by c.args.v c.args.version.now c.args.next

pub returns-clause-holds : goal.returns-clause-holds
returns-clause-holds c =
    subst (λ (m : Memory). HoldsGiven (given c.set_literals.new.heap) m) (sym c.in_ok-set_literals.ensures.memory)
    (first-holds (given c.set_literals.new.heap) c.args.v c.args.version.now (memory c.set_globals.new.heap).next)

pub returns-clause-literals : goal.returns-clause-literals
returns-clause-literals c =
    subst (λ (m : Memory). HasCharLiterals m) (sym c.in_ok-set_literals.ensures.memory)
    (first_memory-chars c.args.v c.args.version.now (memory c.set_globals.new.heap).next)
