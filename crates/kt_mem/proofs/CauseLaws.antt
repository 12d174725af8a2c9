-- The answers of the acts on memory, by their causes.
use Rattle.std.proofs.Common.{◌≡◌, ◌≢◌, ℕ, ℤ, pos, negsuc, zero, suc, ◌+◌, ◌*◌, ◌<◌, ◌≤◌, ◌⊎◌, inl, inr, true, false, Bool, not, cond, length, Option, Some, None, Result, Ok, Err, refl, sym, ◌∙◌, ap, arith}
use Rattle.std.specs.Prelude.{slice_get, IsOk, ◌<ℤ◌, ◌==◌}
use Rattle.std.proofs.lemmas.Bool.Decides.{eqb_tells, nat_tests}
use Rattle.std.proofs.lemmas.Int.{ints}
use Rattle.kt_types.specs.declared.kinds.Ty.{Ty}
use Rattle.kt_types.specs.declared.kinds.Ty.TheVariants as ty
use Rattle.kt_mem.specs.declared.memory.Name.{Name}
use Rattle.kt_mem.specs.declared.memory.Name.TheVariants.{Glob, Lit, Heap}
use Rattle.kt_mem.specs.declared.memory.Value.{Value}
use Rattle.kt_mem.specs.declared.memory.Value.TheVariants.{Num, Null, Ptr, Free, Held, Undef}
use Rattle.kt_mem.specs.declared.steps.Trap.{Trap}
use Rattle.kt_mem.specs.declared.steps.Trap.TheVariants as trap
use Rattle.kt_mem.specs.Values.{ty_eq, defined}
use Rattle.kt_mem.specs.Memory.{Memory, Object, Cell, cell_value, value_at, written, and_then, unless_literal, store, locked, unlocked, initialised, held_by_other, alloc_fault, alloc, released, release}
use Rattle.kt_mem.specs.Causes.{HasCell, IsNoMutex, LoadsAnswer, StoresAnswer, AllocsAnswer, ReleasesAnswer, LocksAnswer, UnlocksAnswer, InitsAnswer, IsHeldBy, LockHolds, UnlockFrees, InitFrees}
use Rattle.kt_mem.proofs.Names.{ty_eq-refl, ty_eq-true}
use Rattle.kt_mem.proofs.Places.{value_at-with_same}
use Rattle.kt_mem.proofs.Changes.{written_ok, and_then_ok}

-- ---- load and store

-- no cell of the type
no_cell : (x : Option Cell) (t : Ty) → ((v : Value) → x ≡ Some (record { ty = t; value = v }) → ⊥) → cell_value x t ≡ Err trap.Bounds
no_cell None t absent = refl
no_cell (Some c) t absent = by_test (ty_eq c.ty t) refl
  where
    by_test : (b : Bool) → ty_eq c.ty t ≡ b → cond b (Ok c.value) (Err trap.Bounds) ≡ Err trap.Bounds
    by_test true e = absurd (absent c.value (rw (ty_eq-true c.ty t e)))
    by_test false e = refl

defined_ok : (v : Value) → v ≢ Undef → defined v ≡ Ok v
defined_ok (Num z) ne = refl
defined_ok Null ne = refl
defined_ok (Ptr n k) ne = refl
defined_ok Free ne = refl
defined_ok (Held w) ne = refl
defined_ok Undef ne = absurd (ne refl)

pub loads_answer : LoadsAnswer
loads_answer m n k t =
    record {
      null = refl;
      dead = λ e. rw e;
      bounds = λ o e absent. rw (e, no_cell (slice_get o.cells k) t absent);
      uninit = λ o e has. rw (e, has, ty_eq-refl t);
      value = λ o v e has ne. rw (e, has, ty_eq-refl t) (defined_ok v ne);
    }

writable : (n : Name) (k : ℕ) (new : Value) → ((version i : ℕ) → n ≢ Lit version i) → unless_literal (Ptr n k) new ≡ Ok new
writable (Glob i) k new ne = refl
writable (Lit v i) k new ne = absurd (ne v i refl)
writable (Heap a) k new ne = refl

pub stores_answer : StoresAnswer
stores_answer m n k t new =
    record {
      null = refl;
      dead = λ e. rw e;
      bounds = λ o e absent. rw (e, no_cell (slice_get o.cells k) t absent);
      literal = λ o old v i e has is. rw is (literal o old v i (rw (← is) e) has);
      done = λ o old e has ne. rw (e, has, ty_eq-refl t, writable n k new ne);
    }
  where
    literal : (o : Object) (old : Value) (v i : ℕ) → m.at (Lit v i) ≡ Some o → HasCell o k t old → store m (Ptr (Lit v i) k) t new ≡ Err trap.Literal
    literal o old v i e has = rw (e, has, ty_eq-refl t)

-- ---- allocation and release

fault_size : (m : Memory) (width count : ℕ) → 65536 < count * width → alloc_fault m width count ≡ Some trap.Size
fault_size m width count h = grind (arith, nat_tests)

fault_none : (m : Memory) (width count : ℕ) → count < 1 → alloc_fault m width count ≡ Some trap.Size
fault_none m width count h = grind (arith, nat_tests)

fault_heap : (m : Memory) (width count : ℕ) → 1 ≤ count → count * width ≤ 65536 → 4194304 < m.live + count * width → alloc_fault m width count ≡ Some trap.Heap
fault_heap m width count h k l = grind (arith, nat_tests)

no_fault : (m : Memory) (width count : ℕ) → 1 ≤ count → count * width ≤ 65536 → m.live + count * width ≤ 4194304 → alloc_fault m width count ≡ None
no_fault m width count h k l = grind (arith, nat_tests)

pub allocs_answer : AllocsAnswer
allocs_answer m place types zeros =
    record {
      none = none;
      size = λ count h. rw (fault_size m (length types) count h);
      heap = λ count h k l. rw (fault_heap m (length types) count h k l);
      done = λ count h k l. rw (no_fault m (length types) count h k l);
    }
  where
    none : (count : ℤ) → count <ℤ pos 1 → alloc m place types count zeros ≡ Err trap.Size
    none (pos count) h = rw (fault_none m (length types) count (omega (arith, ints)))
    none (negsuc count) h = refl

inside : (m : Memory) (n : Name) (k : ℕ) (o : Object) → k ≢ 0 → released m n k (Some o) ≡ Err trap.Free
inside m n zero o ne = absurd (ne refl)
inside m (Glob i) (suc k) o ne = refl
inside m (Lit v i) (suc k) o ne = refl
inside m (Heap a) (suc k) o ne = refl

elsewhere : (m : Memory) (n : Name) (k : ℕ) (o : Object) → ((a : ℕ) → n ≢ Heap a) → released m n k (Some o) ≡ Err trap.Free
elsewhere m (Glob i) k o ne = refl
elsewhere m (Lit v i) k o ne = refl
elsewhere m (Heap a) k o ne = absurd (ne a refl)

pub releases_answer : ReleasesAnswer
releases_answer m n k =
    record {
      null = refl;
      dead = λ e. rw e;
      inside = λ o e ne. rw e (inside m n k o ne);
      elsewhere = λ o e ne. rw e (elsewhere m n k o ne);
      done = λ o a e is. done o a n is e;
    }
  where
    done : (o : Object) (a : ℕ) (q : Name) → q ≡ Heap a → m.at q ≡ Some o → IsOk (release m (Ptr q 0))
    done o a q is e = let there : m.at (Heap a) ≡ Some o = rw (← is) e in rw (is, there)

-- ---- mutexes

-- a lock by a thread that need not wait leaves the mutex held by it
locked_ok : (thread : ℕ) (old new : Value) → held_by_other thread (Ok old) ≡ false → locked thread old ≡ Ok new → new ≡ Held thread
locked_ok thread Free new w h = cc
locked_ok thread (Held holder) new w h = by_test (holder == thread) w h
  where
    by_test : (b : Bool) → not b ≡ false → cond b (Err trap.Mutex) (Ok (Held holder)) ≡ Ok new → new ≡ Held thread
    by_test true w h = cc
    by_test false w h = cc
locked_ok thread (Num z) new w h = cc
locked_ok thread Null new w h = cc
locked_ok thread (Ptr n k) new w h = cc
locked_ok thread Undef new w h = cc

eqb-refl : (n : ℕ) → (n == n) ≡ true
eqb-refl n = grind (arith, nat_tests)

eqb-differs : (n k : ℕ) → n ≢ k → (k == n) ≡ false
eqb-differs n k ne = grind (arith, nat_tests)

held : (m : Memory) (p : Value) (thread : ℕ) → value_at m p ty.Mutex ≡ Ok (Held thread) → IsHeldBy m p thread
held m p thread e =
    record {
      held = e;
      again = rw (e, eqb-refl thread);
      others = λ other ne. rw (e, eqb-differs other thread ne);
    }

pub lock_holds : LockHolds
lock_holds m after p thread w h =
    let r = written_ok m after p ty.Mutex (and_then (value_at m p ty.Mutex) (locked thread)) h in
    let a = and_then_ok (value_at m p ty.Mutex) (locked thread) r.0 r.1 in
    let waits_not : held_by_other thread (Ok a.0) ≡ false = rw (← a.1) w in
    let is_held : r.0 ≡ Held thread = locked_ok thread a.0 r.0 waits_not a.2 in
    held after p thread (rw r.2 (value_at-with_same m p ty.Mutex a.0 r.0 a.1 ∙ ap Ok is_held))

unlocked_ok : (thread : ℕ) (old new : Value) → unlocked thread old ≡ Ok new → (old ≡ Held thread) × (new ≡ Free)
unlocked_ok thread (Held holder) new h = by_test (eqb_tells holder thread) h
  where
    by_test : ((((holder == thread) ≡ true) × (holder ≡ thread)) ⊎ (((holder == thread) ≡ false) × (holder ≢ thread))) → unlocked thread (Held holder) ≡ Ok new → (Held holder ≡ Held thread) × (new ≡ Free)
    by_test (inl t) h = (ap Held t.1, cc (rw t.0 at h))
    by_test (inr t) h = cc (rw t.0 at h)
unlocked_ok thread Free new h = cc
unlocked_ok thread (Num z) new h = cc
unlocked_ok thread Null new h = cc
unlocked_ok thread (Ptr n k) new h = cc
unlocked_ok thread Undef new h = cc

pub unlock_frees : UnlockFrees
unlock_frees m after p thread h =
    let r = written_ok m after p ty.Mutex (and_then (value_at m p ty.Mutex) (unlocked thread)) h in
    let a = and_then_ok (value_at m p ty.Mutex) (unlocked thread) r.0 r.1 in
    let u = unlocked_ok thread a.0 r.0 a.2 in
    (a.1 ∙ ap Ok u.0, rw r.2 (value_at-with_same m p ty.Mutex a.0 r.0 a.1 ∙ ap Ok u.1))

initialised_ok : (old new : Value) → initialised old ≡ Ok new → ((thread : ℕ) → old ≢ Held thread) × (new ≡ Free)
initialised_ok (Held holder) new h = cc
initialised_ok Free new h = (λ thread e. cc, cc)
initialised_ok (Num z) new h = (λ thread e. cc, cc)
initialised_ok Null new h = (λ thread e. cc, cc)
initialised_ok (Ptr n k) new h = (λ thread e. cc, cc)
initialised_ok Undef new h = (λ thread e. cc, cc)

pub init_frees : InitFrees
init_frees m after p h =
    let r = written_ok m after p ty.Mutex (and_then (value_at m p ty.Mutex) initialised) h in
    let a = and_then_ok (value_at m p ty.Mutex) initialised r.0 r.1 in
    let u = initialised_ok a.0 r.0 a.2 in
    (λ thread e. u.0 thread (same_ok (sym a.1 ∙ e)), rw r.2 (value_at-with_same m p ty.Mutex a.0 r.0 a.1 ∙ ap Ok u.1))
  where
    same_ok : {x y : Value} → ◌≡◌ {A = Result Value Trap} (Ok x) (Ok y) → x ≡ y
    same_ok e = cc

-- what each act makes of a value that is no mutex
locked_none : (thread : ℕ) (v : Value) → IsNoMutex v → locked thread v ≡ Err trap.Uninit
locked_none thread Free lacks = absurd (lacks.free refl)
locked_none thread (Held holder) lacks = absurd (lacks.held holder refl)
locked_none thread (Num z) lacks = refl
locked_none thread Null lacks = refl
locked_none thread (Ptr n k) lacks = refl
locked_none thread Undef lacks = refl

unlocked_none : (thread : ℕ) (v : Value) → IsNoMutex v → unlocked thread v ≡ Err trap.Uninit
unlocked_none thread Free lacks = absurd (lacks.free refl)
unlocked_none thread (Held holder) lacks = absurd (lacks.held holder refl)
unlocked_none thread (Num z) lacks = refl
unlocked_none thread Null lacks = refl
unlocked_none thread (Ptr n k) lacks = refl
unlocked_none thread Undef lacks = refl

initialised_none : (v : Value) → ((holder : ℕ) → v ≢ Held holder) → initialised v ≡ Ok Free
initialised_none (Held holder) ne = absurd (ne holder refl)
initialised_none Free ne = refl
initialised_none (Num z) ne = refl
initialised_none Null ne = refl
initialised_none (Ptr n k) ne = refl
initialised_none Undef ne = refl

-- what the cell at a pointer holds
cell_there : (m : Memory) (n : Name) (k : ℕ) (o : Object) (v : Value) → m.at n ≡ Some o → HasCell o k ty.Mutex v → value_at m (Ptr n k) ty.Mutex ≡ Ok v
cell_there m n k o v e has = rw (e, has)

pub locks_answer : LocksAnswer
locks_answer m n k thread =
    record {
      null = refl;
      dead = λ e. rw e;
      bounds = λ o e absent. rw (e, no_cell (slice_get o.cells k) ty.Mutex absent);
      uninit = λ o v e has lacks. rw (e, has, locked_none thread v lacks);
      mutex = λ o e has. rw (e, has, eqb-refl thread);
      taken = λ o e has. ap (λ r. written m (Ptr n k) ty.Mutex (and_then r (locked thread))) (cell_there m n k o Free e has);
      waits = λ o other e has ne. rw (e, has, eqb-differs thread other (λ same. ne (sym same)));
      stays = λ o other e has ne. ap (λ r. written m (Ptr n k) ty.Mutex (and_then r (locked thread))) (cell_there m n k o (Held other) e has) ∙ ap (λ b. written m (Ptr n k) ty.Mutex (cond b (Err trap.Mutex) (Ok (Held other)))) (eqb-differs thread other (λ same. ne (sym same)));
    }

pub unlocks_answer : UnlocksAnswer
unlocks_answer m n k thread =
    record {
      null = refl;
      dead = λ e. rw e;
      bounds = λ o e absent. rw (e, no_cell (slice_get o.cells k) ty.Mutex absent);
      uninit = λ o v e has lacks. rw (e, has, unlocked_none thread v lacks);
      free = λ o e has. rw (e, has);
      others = λ o other e has ne. rw (e, has, eqb-differs thread other (λ same. ne (sym same)));
      done = λ o e has. ap (λ r. written m (Ptr n k) ty.Mutex (and_then r (unlocked thread))) (cell_there m n k o (Held thread) e has) ∙ ap (λ b. written m (Ptr n k) ty.Mutex (cond b (Ok Free) (Err trap.Mutex))) (eqb-refl thread);
    }

pub inits_answer : InitsAnswer
inits_answer m n k =
    record {
      null = refl;
      dead = λ e. rw e;
      bounds = λ o e absent. rw (e, no_cell (slice_get o.cells k) ty.Mutex absent);
      mutex = λ o holder e has. rw (e, has);
      done = λ o v e has ne. ap (λ r. written m (Ptr n k) ty.Mutex (and_then r initialised)) (cell_there m n k o v e has) ∙ ap (written m (Ptr n k) ty.Mutex) (initialised_none v ne);
    }
