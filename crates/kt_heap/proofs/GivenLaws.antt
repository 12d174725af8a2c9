-- Memory holds only heap names that were given out, whatever act comes.
use Rattle.std.proofs.Common.{◌≡◌, ℕ, zero, suc, ◌+◌, ◌==◌, Bool, true, false, cond, List, [], ◌∷◌, ◌++◌, map, length, Option, None, Some, Result, Ok, Err, refl, sym, subst}
use Rattle.std.specs.Prelude.{slice_get, slice_set}
use Rattle.std.specs.Option.{option_map}
use Rattle.std.proofs.lemmas.List.Elements.{Contains-append_left}
use Rattle.kt_types.specs.declared.kinds.Ty.{Ty}
use Rattle.kt_types.specs.declared.kinds.Ty.TheVariants as ty
use Rattle.kt_mem.specs.declared.memory.Name.{Name}
use Rattle.kt_mem.specs.declared.memory.Name.TheVariants.{Glob, Lit, Heap}
use Rattle.kt_mem.specs.declared.memory.Value.{Value}
use Rattle.kt_mem.specs.declared.memory.Value.TheVariants.{Num, Null, Ptr, Free, Held, Undef}
use Rattle.kt_mem.specs.declared.steps.Trap.{Trap}
use Rattle.kt_mem.specs.declared.steps.Trap.TheVariants as trap
use Rattle.kt_mem.specs.Values.{ty_eq, defined}
use Rattle.kt_mem.specs.Memory.{Memory, Object, Cell, put, cell_value, value_in, value_at, and_then, written, with_value, object_with, unless_literal, locked, unlocked, initialised, without, fresh_cell, repeated, fresh_object}
use Rattle.kt_mem.proofs.Names.{put-cases}
use Rattle.kt_mem.proofs.Changes.{and_then_ok, written_ok, release_ok}
use Rattle.kt_mem.specs.Renaming.{Pairs}
use Rattle.kt_heap.specs.ByNumber.{WasGiven, HoldsGiven, LoadsGiven, StoresGiven, LocksGiven, UnlocksGiven, InitsGiven, ReleasesGiven, AllocsGiven, GrowsGiven}

-- ---- cells

-- each value was given out
abbrev AreGiven : Pairs → List Cell → Type 0
AreGiven pairs cs = (k : ℕ) (c : Cell) → slice_get cs k ≡ Some c → WasGiven pairs c.value

none_given : (pairs : Pairs) → AreGiven pairs []
none_given pairs k c e = let never : ⊥ = cc in absurd never

append_given : (pairs : Pairs) (xs ys : List Cell) → AreGiven pairs xs → AreGiven pairs ys → AreGiven pairs (xs ++ ys)
append_given pairs [] ys f g k c e = g k c e
append_given pairs (x ∷ xs) ys f g zero c e = f zero c e
append_given pairs (x ∷ xs) ys f g (suc k) c e = append_given pairs xs ys (λ j. f (suc j)) g k c e

some_cell : (c x : Cell) → Some c ≡ Some x → c ≡ x
some_cell c x e = cc

set_given : (pairs : Pairs) (cs : List Cell) (k : ℕ) (c : Cell) → AreGiven pairs cs → WasGiven pairs c.value → AreGiven pairs (slice_set cs k c)
set_given pairs [] k c f g j x e = let never : ⊥ = cc in absurd never
set_given pairs (y ∷ cs) zero c f g zero x e = subst (λ (z : Cell). WasGiven pairs z.value) (some_cell c x e) g
set_given pairs (y ∷ cs) zero c f g (suc j) x e = f (suc j) x e
set_given pairs (y ∷ cs) (suc k) c f g zero x e = f zero x e
set_given pairs (y ∷ cs) (suc k) c f g (suc j) x e = set_given pairs cs k c (λ i. f (suc i)) g j x e

fresh_cell_given : (pairs : Pairs) (zeros : Bool) (t : Ty) → WasGiven pairs (fresh_cell zeros t).value
fresh_cell_given pairs false t = tt
fresh_cell_given pairs true ty.Char = tt
fresh_cell_given pairs true ty.Int = tt
fresh_cell_given pairs true ty.Long = tt
fresh_cell_given pairs true ty.Mutex = tt
fresh_cell_given pairs true (ty.Struct i) = tt
fresh_cell_given pairs true (ty.Array e n) = tt
fresh_cell_given pairs true (ty.Ptr e) = tt

fresh_cells_given : (pairs : Pairs) (zeros : Bool) (types : List Ty) → AreGiven pairs (map (fresh_cell zeros) types)
fresh_cells_given pairs zeros [] k c e = let never : ⊥ = cc in absurd never
fresh_cells_given pairs zeros (t ∷ types) zero c e =
    subst (λ (z : Cell). WasGiven pairs z.value) (some_cell (fresh_cell zeros t) c e) (fresh_cell_given pairs zeros t)
fresh_cells_given pairs zeros (t ∷ types) (suc k) c e = fresh_cells_given pairs zeros types k c e

repeated_given : (pairs : Pairs) (count : ℕ) (cs : List Cell) → AreGiven pairs cs → AreGiven pairs (repeated count cs)
repeated_given pairs zero cs f = none_given pairs
repeated_given pairs (suc n) cs f =
    append_given pairs cs (repeated n cs) f (repeated_given pairs n cs f)

-- ---- a memory after a change under one name

some_object : (x : Option Object) (o p : Object) → x ≡ Some o → x ≡ Some p → o ≡ p
some_object x o p a b = cc

put_given : (pairs : Pairs) (m : Memory) (q : Name) (o : Option Object) (next live : ℕ) → HoldsGiven pairs m → ((x : Object) → o ≡ Some x → AreGiven pairs x.cells) → HoldsGiven pairs (record { at = put m.at q o; next = next; live = live })
put_given pairs m q o next live holds new n x k c there cell =
    put-cases (λ y. y ≡ Some x → WasGiven pairs c.value) m.at q n o (λ _ is. new x is k c cell) (λ _ was. holds n x k c was cell) there

wrote_given : (pairs : Pairs) (m : Memory) (p : Value) (t : Ty) (v : Value) → HoldsGiven pairs m → WasGiven pairs v → HoldsGiven pairs (with_value m p t v)
wrote_given pairs m (Ptr q k) t v holds g =
    put_given pairs m q (option_map (object_with k c) (m.at q)) m.next m.live holds (λ x is. by_object x (m.at q) refl is)
  where
    c : Cell
    c = record { ty = t; value = v }

    by_object : (x : Object) (o : Option Object) → m.at q ≡ o → option_map (object_with k c) o ≡ Some x → AreGiven pairs x.cells
    by_object x None e is = let never : ⊥ = cc in absurd never
    by_object x (Some o) e is =
        let same : object_with k c o ≡ x = cc in
        subst (λ (y : Object). AreGiven pairs y.cells) same (set_given pairs o.cells k c (λ j d. holds q o j d e) g)
wrote_given pairs m Null t v holds g = holds
wrote_given pairs m (Num z) t v holds g = holds
wrote_given pairs m Free t v holds g = holds
wrote_given pairs m (Held w) t v holds g = holds
wrote_given pairs m Undef t v holds g = holds

-- what is made of the value at a pointer was given out
changed_given : (pairs : Pairs) (m after : Memory) (p : Value) (t : Ty) (f : Value → Result Value Trap) → HoldsGiven pairs m → ((old new : Value) → f old ≡ Ok new → WasGiven pairs new) → written m p t (and_then (value_at m p t) f) ≡ Ok after → HoldsGiven pairs after
changed_given pairs m after p t f holds given h =
    let w = written_ok m after p t (and_then (value_at m p t) f) h in
    let a = and_then_ok (value_at m p t) f w.0 w.1 in
    subst (HoldsGiven pairs) (sym w.2) (wrote_given pairs m p t w.0 holds (given a.0 w.0 a.2))

-- ---- the laws

pub loads_given : LoadsGiven
loads_given pairs m (Ptr n k) v t holds h = by_object (m.at n) refl h
  where
    by_value : (u : Value) → WasGiven pairs u → defined u ≡ Ok v → WasGiven pairs v
    by_value (Ptr q j) g e = let same : Ptr q j ≡ v = cc in subst (WasGiven pairs) same g
    by_value Null g e = let same : Null ≡ v = cc in subst (WasGiven pairs) same tt
    by_value (Num z) g e = let same : Num z ≡ v = cc in subst (WasGiven pairs) same tt
    by_value Free g e = let same : Free ≡ v = cc in subst (WasGiven pairs) same tt
    by_value (Held w) g e = let same : Held w ≡ v = cc in subst (WasGiven pairs) same tt
    by_value Undef g e = let never : ⊥ = cc in absurd never

    by_type : (b : Bool) (u : Value) → WasGiven pairs u → and_then (cond b (Ok u) (Err trap.Bounds)) defined ≡ Ok v → WasGiven pairs v
    by_type true u g e = by_value u g e
    by_type false u g e = let never : ⊥ = cc in absurd never

    by_cell : (o : Object) (c : Option Cell) → m.at n ≡ Some o → slice_get o.cells k ≡ c → and_then (cell_value c t) defined ≡ Ok v → WasGiven pairs v
    by_cell o None e f g = let never : ⊥ = cc in absurd never
    by_cell o (Some c) e f g = by_type (ty_eq c.ty t) c.value (holds n o k c e f) g

    by_object : (o : Option Object) → m.at n ≡ o → and_then (value_in o k t) defined ≡ Ok v → WasGiven pairs v
    by_object None e g = let never : ⊥ = cc in absurd never
    by_object (Some o) e g = by_cell o (slice_get o.cells k) e refl g
loads_given pairs m Null v t holds h = let never : ⊥ = cc in absurd never
loads_given pairs m (Num z) v t holds h = let never : ⊥ = cc in absurd never
loads_given pairs m Free v t holds h = let never : ⊥ = cc in absurd never
loads_given pairs m (Held w) v t holds h = let never : ⊥ = cc in absurd never
loads_given pairs m Undef v t holds h = let never : ⊥ = cc in absurd never

-- what is stored is the value that was to be stored
stored_is : (p v new : Value) → unless_literal p v ≡ Ok new → v ≡ new
stored_is (Ptr (Lit w i) k) v new e = let never : ⊥ = cc in absurd never
stored_is (Ptr (Glob i) k) v new e = cc
stored_is (Ptr (Heap a) k) v new e = cc
stored_is Null v new e = cc
stored_is (Num z) v new e = cc
stored_is Free v new e = cc
stored_is (Held w) v new e = cc
stored_is Undef v new e = cc

pub stores_given : StoresGiven
stores_given pairs m after p v t holds g h =
    changed_given pairs m after p t (λ _. unless_literal p v) holds (λ old new e. subst (WasGiven pairs) (stored_is p v new e) g) h

-- a mutex names nothing
mutex_given : (pairs : Pairs) (thread : ℕ) (old new : Value) → locked thread old ≡ Ok new → WasGiven pairs new
mutex_given pairs thread Free new e = let same : Held thread ≡ new = cc in subst (WasGiven pairs) same tt
mutex_given pairs thread (Held w) new e = by_holder (w == thread) e
  where
    by_holder : (b : Bool) → cond b (Err trap.Mutex) (Ok (Held w)) ≡ Ok new → WasGiven pairs new
    by_holder true e = let never : ⊥ = cc in absurd never
    by_holder false e = let same : Held w ≡ new = cc in subst (WasGiven pairs) same tt
mutex_given pairs thread (Ptr n k) new e = let never : ⊥ = cc in absurd never
mutex_given pairs thread Null new e = let never : ⊥ = cc in absurd never
mutex_given pairs thread (Num z) new e = let never : ⊥ = cc in absurd never
mutex_given pairs thread Undef new e = let never : ⊥ = cc in absurd never

free_given : (pairs : Pairs) (thread : ℕ) (old new : Value) → unlocked thread old ≡ Ok new → WasGiven pairs new
free_given pairs thread (Held w) new e = by_holder (w == thread) e
  where
    by_holder : (b : Bool) → cond b (Ok Free) (Err trap.Mutex) ≡ Ok new → WasGiven pairs new
    by_holder true e = let same : Free ≡ new = cc in subst (WasGiven pairs) same tt
    by_holder false e = let never : ⊥ = cc in absurd never
free_given pairs thread Free new e = let never : ⊥ = cc in absurd never
free_given pairs thread (Ptr n k) new e = let never : ⊥ = cc in absurd never
free_given pairs thread Null new e = let never : ⊥ = cc in absurd never
free_given pairs thread (Num z) new e = let never : ⊥ = cc in absurd never
free_given pairs thread Undef new e = let never : ⊥ = cc in absurd never

init_given : (pairs : Pairs) (old new : Value) → initialised old ≡ Ok new → WasGiven pairs new
init_given pairs (Held w) new e = let never : ⊥ = cc in absurd never
init_given pairs Free new e = let same : Free ≡ new = cc in subst (WasGiven pairs) same tt
init_given pairs (Ptr n k) new e = let same : Free ≡ new = cc in subst (WasGiven pairs) same tt
init_given pairs Null new e = let same : Free ≡ new = cc in subst (WasGiven pairs) same tt
init_given pairs (Num z) new e = let same : Free ≡ new = cc in subst (WasGiven pairs) same tt
init_given pairs Undef new e = let same : Free ≡ new = cc in subst (WasGiven pairs) same tt

pub locks_given : LocksGiven
locks_given pairs m after thread p holds h =
    changed_given pairs m after p ty.Mutex (locked thread) holds (mutex_given pairs thread) h

pub unlocks_given : UnlocksGiven
unlocks_given pairs m after thread p holds h =
    changed_given pairs m after p ty.Mutex (unlocked thread) holds (free_given pairs thread) h

pub inits_given : InitsGiven
inits_given pairs m after p holds h =
    changed_given pairs m after p ty.Mutex initialised holds (init_given pairs) h

pub releases_given : ReleasesGiven
releases_given pairs m after (Ptr n k) holds h =
    let r = release_ok m after n k h in
    subst (HoldsGiven pairs) (sym r.4) (put_given pairs m (Heap r.0) None m.next (without m r.0 r.1).live holds (λ x is. let never : ⊥ = cc in absurd never))
releases_given pairs m after Null holds h = let same : m ≡ after = cc in subst (HoldsGiven pairs) same holds
releases_given pairs m after (Num z) holds h = let never : ⊥ = cc in absurd never
releases_given pairs m after Free holds h = let never : ⊥ = cc in absurd never
releases_given pairs m after (Held w) holds h = let never : ⊥ = cc in absurd never
releases_given pairs m after Undef holds h = let never : ⊥ = cc in absurd never

-- one pair more
pushed_given : (pairs : Pairs) (a n : ℕ) (v : Value) → WasGiven pairs v → WasGiven (pairs ++ (a, n) ∷ []) v
pushed_given pairs a n (Ptr (Heap b) k) g = (g.0, Contains-append_left pairs ((a, n) ∷ []) (b, g.0) g.1)
pushed_given pairs a n (Ptr (Glob i) k) g = tt
pushed_given pairs a n (Ptr (Lit w i) k) g = tt
pushed_given pairs a n Null g = tt
pushed_given pairs a n (Num z) g = tt
pushed_given pairs a n Free g = tt
pushed_given pairs a n (Held w) g = tt
pushed_given pairs a n Undef g = tt

pub allocs_given : AllocsGiven
allocs_given pairs m a place count types zeros holds =
    let more : Pairs = pairs ++ (a, m.next) ∷ [] in
    let o : Object = fresh_object m.next place types count zeros in
    put_given more m (Heap a) (Some o) (m.next + 1) (m.live + length o.cells) (λ n x k c there cell. pushed_given pairs a m.next c.value (holds n x k c there cell)) (λ x is. subst (λ (y : Object). AreGiven more y.cells) (some_object (Some o) o x refl is) (repeated_given more count (map (fresh_cell zeros) types) (fresh_cells_given more zeros types)))

pub grows_given : GrowsGiven
grows_given = pushed_given
