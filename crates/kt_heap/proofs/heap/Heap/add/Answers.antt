use Rattle.std.proofs.Common.{◌≡◌, ◌==◌, ℕ, ◌+◌, ◌≤◌, cond, List, [], ◌∷◌, ◌++◌, length, Some, sym, ◌∙◌, ap, subst, arith}
use Rattle.std.specs.HashMap.{get}
use Rattle.kt_mem.specs.declared.memory.Name.TheVariants.{Heap}
use Rattle.kt_mem.specs.Memory.{Memory, Cell, put}
use Rattle.kt_heap.specs.Objects.{shown}
use Rattle.kt_heap.specs.Keys.{generation_of}
use Rattle.kt_heap.specs.Keyed.{Keyed}
use Rattle.kt_heap.specs.Heap.{memory, given, key_count, Paired}
use Rattle.kt_heap.specs.Inside.{state_of, IsHeap, HasNumbers}
use Rattle.kt_heap.proofs.Acts.{ok_then}
use Rattle.kt_heap.proofs.Look.{memory_put}
use Rattle.kt_heap.proofs.Keeps.{keeps_given, address_is_new, next_in, live_in, pairs_in}
use Rattle.kt_heap.proofs.NumbersKept.{numbers_given, numbers_same}
use Rattle.kt_heap.proofs.Taking.{takes_key, address_of_next}
use Rattle.kt_heap.proofs.heap.Heap.add.Goals as goal

pub invariant_of-self-in_err-a : goal.invariant_of-self-in_err-a
invariant_of-self-in_err-a c =
    let s = state_of c.self.inside in
    let find = get (λ n k. n == k) c.self.inside.numbers in
    let found = get (λ n k. n == k) c.reserve-2.new.self in
    let kept = subst (λ (h : Keyed). IsHeap (record s { objects = h }) × HasNumbers found (record s { objects = h })) (sym c.in_err-a.ensures.kept) (c.self.invariant.0, numbers_same s find found c.self.invariant.1 c.reserve-2.ensures.entries.2) in
    subst (λ (ps : List (ℕ × ℕ)). IsHeap (record s { objects = c.insert.new.self; pairs = ps }) × HasNumbers found (record s { objects = c.insert.new.self; pairs = ps })) (sym c.reserve.ensures.items) kept

pub invariant_of-self-2 : goal.invariant_of-self-2
invariant_of-self-2 c =
    let s = state_of c.self.inside in
    let n = c.args.obj.serial in
    let a = c.in_ok-a.a in
    let used = s.used + length c.as_slice.result.now in
    let find = get (λ n k. n == k) c.self.inside.numbers in
    let found = get (λ n k. n == k) c.insert-2.new.self in
    let generation : generation_of a ≡ length s.pairs = omega (arith, c.in_ok-a.ensures.generation, ap length c.reserve.ensures.items) in
    let unpaired = pairs_in s c.args.self.now (λ ps. (b : ℕ) → Paired ps b n → ⊥) c.self.view_is c.requires.unpaired in
    let later = next_in s c.args.self.now (λ x. x ≤ c.args.next) c.self.view_is c.requires.later in
    let room = live_in s c.args.self.now (λ x. x + length c.args.obj.cells ≤ 4194304) c.self.view_is c.requires.room in
    let put_in = ok_then c.insert-2.result (c.insert-2.ensures.succeeds (omega (arith, c.in_ok-reserve-2.ensures.ok))) c.insert-2.ensures.updates in
    let kept = keeps_given s c.insert.new.self c.args.next used a c.args.obj c.self.invariant.0 c.in_ok-a.ensures.put c.in_ok-a.ensures.unused generation c.in_ok-a.ensures.free c.in_ok-a.ensures.taken c.in_ok-a.ensures.all_used unpaired c.requires.below later (omega (arith, room, ap length c.as_slice.ensures)) in
    let numbers = numbers_given s c.insert.new.self c.args.next used a c.args.obj find found c.self.invariant.0 c.self.invariant.1 c.in_ok-a.ensures.put c.in_ok-a.ensures.unused unpaired (λ k. put_in.0 k ∙ ap (cond (n == k) (Some a)) (c.reserve-2.ensures.entries.2 k)) in
    let pairs : c.push_reserved.new.self.items ≡ s.pairs ++ (a, n) ∷ [] = c.push_reserved.ensures.items ∙ ap (λ (ps : List (ℕ × ℕ)). ps ++ (a, n) ∷ []) c.reserve.ensures.items in
    subst (λ (ps : List (ℕ × ℕ)). IsHeap (record s { objects = c.insert.new.self; next = c.args.next; used = used; pairs = ps }) × HasNumbers found (record s { objects = c.insert.new.self; next = c.args.next; used = used; pairs = ps })) (sym pairs) (kept, numbers)

pub returns-clause-added : goal.returns-clause-added
unfolding memory
returns-clause-added c =
    let s = state_of c.self.inside in
    let live : (xs : List Cell) → Memory = λ xs. record { at = put (memory s).at (Heap c.in_ok-a.a) (Some (shown c.args.obj)); next = c.args.next; live = s.used + length xs } in
    rw (← c.self.view_is) (memory_put s c.insert.new.self c.args.next (s.used + length c.as_slice.result.now) c.push_reserved.new.self.items c.in_ok-a.a (Some c.args.obj) c.in_ok-a.ensures.put ∙ ap (λ (xs : List Cell). live xs) c.as_slice.ensures)

pub returns-clause-fresh : goal.returns-clause-fresh
unfolding given
returns-clause-fresh c =
    let s = state_of c.self.inside in
    let generation : generation_of c.in_ok-a.a ≡ length s.pairs = omega (arith, c.in_ok-a.ensures.generation, ap length c.reserve.ensures.items) in
    rw (← c.self.view_is) (address_is_new s c.in_ok-a.a c.self.invariant.0 generation)

pub returns-clause-key : goal.returns-clause-key
unfolding key_count
returns-clause-key c =
    rw (← c.self.view_is) (takes_key (state_of c.self.inside) c.insert.new.self c.in_ok-a.a c.in_ok-a.ensures.taken c.in_ok-a.ensures.objects)

pub returns-clause-address : goal.returns-clause-address
unfolding given
returns-clause-address c =
    let s = state_of c.self.inside in
    let generation : generation_of c.in_ok-a.a ≡ length s.pairs = omega (arith, c.in_ok-a.ensures.generation, ap length c.reserve.ensures.items) in
    rw (← c.self.view_is) (address_of_next s c.insert.new.self c.in_ok-a.a c.self.invariant.0.filled generation c.in_ok-a.ensures.free c.in_ok-a.ensures.taken)
