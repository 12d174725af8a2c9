use Rattle.kt_types.specs.declared.kinds.Ty.TheVariants as ty
use Rattle.kt_heap.specs.Heap.{memory}
use Rattle.kt_mem.specs.Memory.{store}
use Rattle.kt_machine.proofs.Memory.{store-literals, answer-left, answer-literals}
use Rattle.kt_machine.proofs.mutex.set.Goals as goal

pub returns-in-Ok-clause-literals : goal.returns-in-Ok-clause-literals
returns-in-Ok-clause-literals c =
    let m = memory c.args.heap.now in
    let new = memory c.store.new.self in
    let r = store m c.args.p ty.Mutex c.in-Ok.value in
    let left = answer-left r c.store.result new c.store.ensures.stored c.store.ensures.trap in
    answer-literals m new r c.store.result (λ n. store-literals m n c.args.p ty.Mutex c.in-Ok.value) left c.store.ensures.kept
