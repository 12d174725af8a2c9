-- What an act that did not trap made of memory.
use Rattle.std.proofs.Common.{◌≡◌, ℕ, ℤ, pos, negsuc, zero, suc, ◌+◌, ◌*◌, ◌≤◌, true, false, Bool, ◌||◌, List, map, length, Option, Some, None, Result, Ok, Err, refl, arith, nat_lt, cond, length-append}
use Rattle.std.proofs.lemmas.List.{length-map}
use Rattle.std.proofs.lemmas.Bool.Decides.{nat_tests}
use Rattle.kt_types.specs.declared.kinds.Ty.{Ty}
use Rattle.kt_types.specs.declared.kinds.Ty.TheVariants as ty
use Rattle.kt_mem.specs.declared.memory.Name.{Name}
use Rattle.kt_mem.specs.declared.memory.Name.TheVariants.{Glob, Lit, Heap}
use Rattle.kt_mem.specs.declared.memory.Value.{Value}
use Rattle.kt_mem.specs.declared.memory.Value.TheVariants.{Num, Null, Ptr, Free, Held, Undef}
use Rattle.kt_mem.specs.declared.steps.Trap.{Trap}
use Rattle.kt_mem.specs.declared.steps.Trap.TheVariants as trap
use Rattle.kt_mem.specs.Memory.{Memory, Object, Cell, value_at, with_value, written, and_then, unless_literal, locked, unlocked, initialised, fresh_cell, repeated, fresh_object, made, alloc_fault, unless_fault, alloc, without, released, release}
use Rattle.kt_mem.specs.Laws.{Effect, Stores, Allocates, Releases, Locks, Unlocks, Inits, effect_on}

-- the ways in which memory changes
pub data Change (m after : Memory) : Type 0 where
  Kept : after ≡ m → Change m after
  Wrote : (p : Value) (t : Ty) (old new : Value) → value_at m p t ≡ Ok old → after ≡ with_value m p t new → Change m after
  Made : (o : Object) → m.live + length o.cells ≤ 4194304 → after ≡ made m m.next o → Change m after
  Freed : (a : ℕ) (o : Object) → m.at (Heap a) ≡ Some o → after ≡ without m a o → Change m after

-- ---- a cell that is written

pub and_then_ok : (r : Result Value Trap) (f : Value → Result Value Trap) (new : Value) → and_then r f ≡ Ok new → (old : Value) × (r ≡ Ok old) × (f old ≡ Ok new)
and_then_ok (Ok old) f new h = (old, refl, h)
and_then_ok (Err e) f new h = cc

pub written_ok : (m after : Memory) (p : Value) (t : Ty) (r : Result Value Trap) → written m p t r ≡ Ok after → (new : Value) × (r ≡ Ok new) × (after ≡ with_value m p t new)
written_ok m after p t (Ok new) h = (new, refl, cc)
written_ok m after p t (Err e) h = cc

wrote : (m after : Memory) (p : Value) (t : Ty) (f : Value → Result Value Trap) → written m p t (and_then (value_at m p t) f) ≡ Ok after → Change m after
wrote m after p t f h =
    let w = written_ok m after p t (and_then (value_at m p t) f) h in
    let a = and_then_ok (value_at m p t) f w.0 w.1 in
    Wrote p t a.0 w.0 a.1 w.2

-- ---- allocation

length-repeated : (n : ℕ) (cs : List Cell) → length (repeated n cs) ≡ n * length cs
length-repeated zero cs = omega arith
length-repeated (suc n) cs =
    omega (arith, length-append cs (repeated n cs), length-repeated n cs)

pub length-fresh : (number place : ℕ) (types : List Ty) (count : ℕ) (zeros : Bool) → length (fresh_object number place types count zeros).cells ≡ count * length types
length-fresh number place types count zeros =
    rw (length-repeated count (map (fresh_cell zeros) types), length-map types (fresh_cell zeros))

-- an allocation without a fault keeps the limit of live cells
room : (b c : Bool) (n : ℕ) → nat_lt 4194304 n ≡ c → cond b (Some trap.Size) (cond c (Some trap.Heap) None) ≡ None → n ≤ 4194304
room true c n e h = cc
room false true n e h = cc
room false false n e h = grind (arith, nat_tests)

no_fault : (m : Memory) (width count : ℕ) → alloc_fault m width count ≡ None → m.live + count * width ≤ 4194304
no_fault m width count h =
    room (nat_lt count 1 || nat_lt 65536 (count * width)) _ (m.live + count * width) refl h

unless_fault_ok : (fault : Option Trap) (m after : Memory) → unless_fault fault m ≡ Ok after → (fault ≡ None) × (after ≡ m)
unless_fault_ok None m after h = (refl, cc)
unless_fault_ok (Some e) m after h = cc

pub alloc_ok : (m after : Memory) (place count : ℕ) (types : List Ty) (zeros : Bool) → alloc m place types (pos count) zeros ≡ Ok after → (m.live + count * length types ≤ 4194304) × (after ≡ made m m.next (fresh_object m.next place types count zeros))
alloc_ok m after place count types zeros h =
    let u = unless_fault_ok (alloc_fault m (length types) count) (made m m.next (fresh_object m.next place types count zeros)) after h in
    (no_fault m (length types) count u.0, u.1)

allocated : (m after : Memory) (place : ℕ) (types : List Ty) (count : ℤ) (zeros : Bool) → alloc m place types count zeros ≡ Ok after → Change m after
allocated m after place types (pos count) zeros h =
    let a = alloc_ok m after place count types zeros h in
    Made (fresh_object m.next place types count zeros) (rw (length-fresh m.next place types count zeros) a.0) a.1
allocated m after place types (negsuc count) zeros h = cc

-- ---- release

-- what was released was a live heap object, at its start
pub release_ok : (m after : Memory) (n : Name) (k : ℕ) → release m (Ptr n k) ≡ Ok after → (a : ℕ) × (o : Object) × (n ≡ Heap a) × (m.at (Heap a) ≡ Some o) × (after ≡ without m a o)
release_ok m after n k h = by_object m after n k (m.at n) refl h
  where
    by_object : (m after : Memory) (n : Name) (k : ℕ) (o : Option Object) → m.at n ≡ o → released m n k o ≡ Ok after → (a : ℕ) × (o : Object) × (n ≡ Heap a) × (m.at (Heap a) ≡ Some o) × (after ≡ without m a o)
    by_object m after n k None e h = cc
    by_object m after (Heap a) zero (Some o) e h = (a, o, refl, e, cc)
    by_object m after (Heap a) (suc k) (Some o) e h = cc
    by_object m after (Glob i) k (Some o) e h = cc
    by_object m after (Lit v i) k (Some o) e h = cc

freed : (m after : Memory) (p : Value) → release m p ≡ Ok after → Change m after
freed m after (Ptr n k) h = let r = release_ok m after n k h in Freed r.0 r.1 r.3 r.4
freed m after Null h = Kept cc
freed m after (Num z) h = cc
freed m after Free h = cc
freed m after (Held w) h = cc
freed m after Undef h = cc

-- ---- each act

pub changed : (m after : Memory) (e : Effect) → effect_on m e ≡ Ok after → Change m after
changed m after (Stores p t new) h = wrote m after p t (λ old. unless_literal p new) h
changed m after (Allocates place types count zeros) h = allocated m after place types count zeros h
changed m after (Releases p) h = freed m after p h
changed m after (Locks thread p) h = wrote m after p ty.Mutex (locked thread) h
changed m after (Unlocks thread p) h = wrote m after p ty.Mutex (unlocked thread) h
changed m after (Inits p) h = wrote m after p ty.Mutex initialised h
