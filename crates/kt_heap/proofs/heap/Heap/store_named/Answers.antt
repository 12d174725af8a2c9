use Rattle.std.proofs.Common.{◌==◌, sym, ap, subst}
use Rattle.std.specs.HashMap.{get}
use Rattle.kt_heap.specs.Keyed.{Keyed}
use Rattle.kt_heap.specs.Heap.{memory}
use Rattle.kt_heap.specs.Inside.{state_of, IsHeap, HasNumbers}
use Rattle.std.proofs.lemmas.Result.{on_err_weaker}
use Rattle.kt_heap.proofs.Keeps.{keeps_stored, keeps_globals}
use Rattle.kt_heap.proofs.NumbersKept.{numbers_stored}
use Rattle.kt_heap.proofs.Acts.{ok_or_err, on_ok_both}
use Rattle.kt_heap.proofs.Stores.{stored_glob, stored_heap}
use Rattle.kt_heap.proofs.heap.Heap.store_named.Goals as goal

pub invariant_of-self : goal.invariant_of-self
unfolding memory
invariant_of-self c = (keeps_globals (state_of c.self.inside) c.store.new.self c.self.invariant.0, c.self.invariant.1)

pub invariant_of-self-in-Heap : goal.invariant_of-self-in-Heap
invariant_of-self-in-Heap c =
    let s = state_of c.self.inside in
    let new = c.store-in-Heap.new.self in
    let find = get (λ n k. n == k) c.self.inside.numbers in
    ok_or_err _ c.store-in-Heap.result c.store-in-Heap.ensures.written c.store-in-Heap.ensures.kept (λ put. (keeps_stored s new c.in-Heap.a c.args.offset c.args.cell c.self.invariant.0 put c.store-in-Heap.ensures.keys, numbers_stored s new c.in-Heap.a c.args.offset c.args.cell find c.self.invariant.1 put)) (λ same. subst (λ (h : Keyed). IsHeap (record s { objects = h }) × HasNumbers find (record s { objects = h })) (sym same) c.self.invariant)

pub returns-in-Glob-clause-stored : goal.returns-in-Glob-clause-stored
unfolding memory
returns-in-Glob-clause-stored c =
    let s = state_of c.self.inside in
    let written = rw c.from.ensures at c.store.ensures.written in
    let there = rw c.from.ensures at c.store.ensures.there in
    rw (← c.self.view_is, c.in-Glob.is) (on_ok_both c.store.result (stored_glob s c.store.new.self c.in-Glob.i c.args.offset c.args.cell) written there)

pub returns-in-Heap-clause-stored : goal.returns-in-Heap-clause-stored
unfolding memory
returns-in-Heap-clause-stored c =
    let s = state_of c.self.inside in
    rw (← c.self.view_is, c.in-Heap.is) (on_ok_both c.store-in-Heap.result (stored_heap s c.store-in-Heap.new.self c.in-Heap.a c.args.offset c.args.cell) c.store-in-Heap.ensures.written c.store-in-Heap.ensures.there)

pub returns-in-Heap-clause-kept : goal.returns-in-Heap-clause-kept
unfolding memory
returns-in-Heap-clause-kept c =
    let s = state_of c.self.inside in
    rw (← c.self.view_is) (on_err_weaker c.store-in-Heap.result (λ same. ap (λ (h : Keyed). memory (record s { objects = h })) same) c.store-in-Heap.ensures.kept)
