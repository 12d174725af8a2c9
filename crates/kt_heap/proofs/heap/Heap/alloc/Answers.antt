use Rattle.std.proofs.Common.{ℕ, length, sym, ◌∙◌, ap, subst, arith}
use Rattle.kt_heap.specs.Heap.{State, memory, given, Paired}
use Rattle.kt_heap.specs.Inside.{state_of}
use Rattle.kt_heap.proofs.Acts.{no_fault, no_size_fault, length-fresh}
use Rattle.kt_heap.proofs.Taking.{next_unpaired}
use Rattle.kt_heap.proofs.heap.Heap.alloc.Goals as goal

pub add-requires-clause-room : goal.add-requires-clause-room
unfolding memory
add-requires-clause-room c =
    let size = ap length c.in-Ok.ensures ∙ length-fresh c.args.count c.args.cells.now c.args.zero in
    let limit = no_fault (memory c.args.self.now) (length c.args.cells.now) c.args.count c.in_default.ensures in
    omega (arith, size, limit)

pub add-requires-clause-unpaired : goal.add-requires-clause-unpaired
unfolding memory
add-requires-clause-unpaired c =
    subst (λ (n : ℕ). (a : ℕ) → Paired (given c.args.self.now) a n → ⊥) (ap (λ (s : State). (memory s).next) (sym c.self.view_is)) (next_unpaired (state_of c.self.inside) c.args.self.now c.self.view_is c.self.invariant.0)

pub fresh_cells-requires : goal.fresh_cells-requires
fresh_cells-requires c =
    no_size_fault (memory c.args.self.now) (length c.args.cells.now) c.args.count c.in_default.ensures
