-- Every answer of an act on memory, by its cause: what holds of memory where the answer comes. The causes of one act
-- leave nothing out, so each answer comes exactly there.
use Rattle.std.specs.Prelude.{◌≡◌, ◌≢◌, ℕ, ℤ, pos, ◌<ℤ◌, ◌+◌, ◌*◌, ◌<◌, ◌≤◌, Bool, true, false, IsTrue, IsOk, List, length, None, Some, Ok, Err, slice_get}
use Rattle.kt_types.specs.declared.kinds.Ty.{Ty}
use Rattle.kt_types.specs.declared.kinds.Ty.TheVariants as ty
use Rattle.kt_mem.specs.declared.memory.Name.{Name}
use Rattle.kt_mem.specs.declared.memory.Name.TheVariants.{Lit, Heap}
use Rattle.kt_mem.specs.declared.memory.Value.{Value}
use Rattle.kt_mem.specs.declared.memory.Value.TheVariants.{Null, Ptr, Free, Held, Undef}
use Rattle.kt_mem.specs.declared.steps.Trap.TheVariants as trap
use Rattle.kt_mem.specs.Memory.{Memory, Object, value_at, with_value, load, store, lock, unlock, init_mutex, waits, alloc, release}

-- the object has a cell of this type there, with this value
abbrev pub HasCell : Object → ℕ → Ty → Value → Type 0
HasCell o k t v = slice_get o.cells k ≡ Some (record { ty = t; value = v })

-- a load, by what is at the pointer
pub record LoadAnswers (m : Memory) (n : Name) (k : ℕ) (t : Ty) : Type 0 where
  pub null : load m Null t ≡ Err trap.Null
  pub dead : m.at n ≡ None → load m (Ptr n k) t ≡ Err trap.Dead
  pub bounds : (o : Object) → m.at n ≡ Some o → ((v : Value) → HasCell o k t v → ⊥) → load m (Ptr n k) t ≡ Err trap.Bounds
  pub uninit : (o : Object) → m.at n ≡ Some o → HasCell o k t Undef → load m (Ptr n k) t ≡ Err trap.Uninit
  pub value : (o : Object) (v : Value) → m.at n ≡ Some o → HasCell o k t v → v ≢ Undef → load m (Ptr n k) t ≡ Ok v

-- a store, by what is at the pointer
pub record StoreAnswers (m : Memory) (n : Name) (k : ℕ) (t : Ty) (new : Value) : Type 0 where
  pub null : store m Null t new ≡ Err trap.Null
  pub dead : m.at n ≡ None → store m (Ptr n k) t new ≡ Err trap.Dead
  pub bounds : (o : Object) → m.at n ≡ Some o → ((v : Value) → HasCell o k t v → ⊥) → store m (Ptr n k) t new ≡ Err trap.Bounds
  pub literal : (o : Object) (old : Value) (version i : ℕ) → m.at n ≡ Some o → HasCell o k t old → n ≡ Lit version i → store m (Ptr n k) t new ≡ Err trap.Literal
  pub done : (o : Object) (old : Value) → m.at n ≡ Some o → HasCell o k t old → ((version i : ℕ) → n ≢ Lit version i) → IsOk (store m (Ptr n k) t new)

-- an allocation, by its count of elements and the live cells
pub record AllocAnswers (m : Memory) (place : ℕ) (types : List Ty) (zeros : Bool) : Type 0 where
  pub none : (count : ℤ) → count <ℤ pos 1 → alloc m place types count zeros ≡ Err trap.Size
  pub size : (count : ℕ) → 65536 < count * length types → alloc m place types (pos count) zeros ≡ Err trap.Size
  pub heap : (count : ℕ) → 1 ≤ count → count * length types ≤ 65536 → 4194304 < m.live + count * length types → alloc m place types (pos count) zeros ≡ Err trap.Heap
  pub done : (count : ℕ) → 1 ≤ count → count * length types ≤ 65536 → m.live + count * length types ≤ 4194304 → IsOk (alloc m place types (pos count) zeros)

-- a release, by what is at the pointer
pub record ReleaseAnswers (m : Memory) (n : Name) (k : ℕ) : Type 0 where
  pub null : release m Null ≡ Ok m
  pub dead : m.at n ≡ None → release m (Ptr n k) ≡ Err trap.Dead
  pub inside : (o : Object) → m.at n ≡ Some o → k ≢ 0 → release m (Ptr n k) ≡ Err trap.Free
  pub elsewhere : (o : Object) → m.at n ≡ Some o → ((a : ℕ) → n ≢ Heap a) → release m (Ptr n k) ≡ Err trap.Free
  pub done : (o : Object) (a : ℕ) → m.at n ≡ Some o → n ≡ Heap a → IsOk (release m (Ptr n 0))

-- a value that is neither a free nor a held mutex
pub record IsNoMutex (v : Value) : Type 0 where
  pub free : v ≢ Free
  pub held : (holder : ℕ) → v ≢ Held holder

-- a lock by a thread, by what is at the pointer: it takes a free mutex, and waits for one that another thread holds
pub record LockAnswers (m : Memory) (n : Name) (k thread : ℕ) : Type 0 where
  pub null : lock m thread Null ≡ Err trap.Null
  pub dead : m.at n ≡ None → lock m thread (Ptr n k) ≡ Err trap.Dead
  pub bounds : (o : Object) → m.at n ≡ Some o → ((v : Value) → HasCell o k ty.Mutex v → ⊥) → lock m thread (Ptr n k) ≡ Err trap.Bounds
  pub uninit : (o : Object) (v : Value) → m.at n ≡ Some o → HasCell o k ty.Mutex v → IsNoMutex v → lock m thread (Ptr n k) ≡ Err trap.Uninit
  pub mutex : (o : Object) → m.at n ≡ Some o → HasCell o k ty.Mutex (Held thread) → lock m thread (Ptr n k) ≡ Err trap.Mutex
  pub taken : (o : Object) → m.at n ≡ Some o → HasCell o k ty.Mutex Free → lock m thread (Ptr n k) ≡ Ok (with_value m (Ptr n k) ty.Mutex (Held thread))
  pub waits : (o : Object) (other : ℕ) → m.at n ≡ Some o → HasCell o k ty.Mutex (Held other) → other ≢ thread → waits m thread (Ptr n k) ≡ true
  pub stays : (o : Object) (other : ℕ) → m.at n ≡ Some o → HasCell o k ty.Mutex (Held other) → other ≢ thread → lock m thread (Ptr n k) ≡ Ok (with_value m (Ptr n k) ty.Mutex (Held other))

-- an unlock by a thread, by what is at the pointer
pub record UnlockAnswers (m : Memory) (n : Name) (k thread : ℕ) : Type 0 where
  pub null : unlock m thread Null ≡ Err trap.Null
  pub dead : m.at n ≡ None → unlock m thread (Ptr n k) ≡ Err trap.Dead
  pub bounds : (o : Object) → m.at n ≡ Some o → ((v : Value) → HasCell o k ty.Mutex v → ⊥) → unlock m thread (Ptr n k) ≡ Err trap.Bounds
  pub uninit : (o : Object) (v : Value) → m.at n ≡ Some o → HasCell o k ty.Mutex v → IsNoMutex v → unlock m thread (Ptr n k) ≡ Err trap.Uninit
  pub free : (o : Object) → m.at n ≡ Some o → HasCell o k ty.Mutex Free → unlock m thread (Ptr n k) ≡ Err trap.Mutex
  pub others : (o : Object) (other : ℕ) → m.at n ≡ Some o → HasCell o k ty.Mutex (Held other) → other ≢ thread → unlock m thread (Ptr n k) ≡ Err trap.Mutex
  pub done : (o : Object) → m.at n ≡ Some o → HasCell o k ty.Mutex (Held thread) → unlock m thread (Ptr n k) ≡ Ok (with_value m (Ptr n k) ty.Mutex Free)

-- an init, by what is at the pointer: only a held mutex is not made free
pub record InitAnswers (m : Memory) (n : Name) (k : ℕ) : Type 0 where
  pub null : init_mutex m Null ≡ Err trap.Null
  pub dead : m.at n ≡ None → init_mutex m (Ptr n k) ≡ Err trap.Dead
  pub bounds : (o : Object) → m.at n ≡ Some o → ((v : Value) → HasCell o k ty.Mutex v → ⊥) → init_mutex m (Ptr n k) ≡ Err trap.Bounds
  pub mutex : (o : Object) (holder : ℕ) → m.at n ≡ Some o → HasCell o k ty.Mutex (Held holder) → init_mutex m (Ptr n k) ≡ Err trap.Mutex
  pub done : (o : Object) (v : Value) → m.at n ≡ Some o → HasCell o k ty.Mutex v → ((holder : ℕ) → v ≢ Held holder) → init_mutex m (Ptr n k) ≡ Ok (with_value m (Ptr n k) ty.Mutex Free)

-- a mutex that a thread locked: it holds it, may not lock it again, and each other thread waits
pub record IsHeldBy (m : Memory) (p : Value) (thread : ℕ) : Type 0 where
  pub held : value_at m p ty.Mutex ≡ Ok (Held thread)
  pub again : lock m thread p ≡ Err trap.Mutex
  pub others : (other : ℕ) → other ≢ thread → IsTrue (waits m other p)

abbrev pub LockHolds : Type 0
LockHolds =
    (m after : Memory) (p : Value) (thread : ℕ) → waits m thread p ≡ false → lock m thread p ≡ Ok after
    → IsHeldBy after p thread

-- only its holder unlocks a mutex, which is then free
abbrev pub UnlockFrees : Type 0
UnlockFrees =
    (m after : Memory) (p : Value) (thread : ℕ) → unlock m thread p ≡ Ok after
    → (value_at m p ty.Mutex ≡ Ok (Held thread)) × (value_at after p ty.Mutex ≡ Ok Free)

-- a mutex that is made free was not held
abbrev pub InitFrees : Type 0
InitFrees =
    (m after : Memory) (p : Value) → init_mutex m p ≡ Ok after
    → ((thread : ℕ) → value_at m p ty.Mutex ≢ Ok (Held thread)) × (value_at after p ty.Mutex ≡ Ok Free)

-- ---- these hold of every memory

abbrev pub LoadsAnswer : Type 0
LoadsAnswer = (m : Memory) (n : Name) (k : ℕ) (t : Ty) → LoadAnswers m n k t

abbrev pub StoresAnswer : Type 0
StoresAnswer = (m : Memory) (n : Name) (k : ℕ) (t : Ty) (new : Value) → StoreAnswers m n k t new

abbrev pub AllocsAnswer : Type 0
AllocsAnswer = (m : Memory) (place : ℕ) (types : List Ty) (zeros : Bool) → AllocAnswers m place types zeros

abbrev pub ReleasesAnswer : Type 0
ReleasesAnswer = (m : Memory) (n : Name) (k : ℕ) → ReleaseAnswers m n k

abbrev pub LocksAnswer : Type 0
LocksAnswer = (m : Memory) (n : Name) (k thread : ℕ) → LockAnswers m n k thread

abbrev pub UnlocksAnswer : Type 0
UnlocksAnswer = (m : Memory) (n : Name) (k thread : ℕ) → UnlockAnswers m n k thread

abbrev pub InitsAnswer : Type 0
InitsAnswer = (m : Memory) (n : Name) (k : ℕ) → InitAnswers m n k
