-- What a heap means: the abstract memory whose heap names are heap numbers. An address is read as the number that it is
-- paired with. Everything above compares memories so; addresses stand in a machine's own states alone (C 6.2.4).
use Rattle.std.specs.Prelude.{◌≡◌, ℕ, ◌==◌, ◌++◌, [], ◌∷◌, List, map, Option, None, Some, Result, Ok, Err, Bool, if◌then◌else◌, slice_get}
use Rattle.std.specs.Option.{option_map, option_and_then}
use Rattle.kt_types.specs.declared.kinds.Ty.{Ty}
use Rattle.kt_mem.specs.declared.memory.Name.{Name}
use Rattle.kt_mem.specs.declared.memory.Name.TheVariants.{Glob, Lit, Heap}
use Rattle.kt_mem.specs.declared.memory.Value.{Value}
use Rattle.kt_mem.specs.declared.memory.Value.TheVariants.{Num, Null, Ptr, Free, Held, Undef}
use Rattle.kt_mem.specs.declared.steps.Trap.{Trap}
use Rattle.kt_mem.specs.Memory.{Memory, Object, Cell, no_objects, load, store, lock, unlock, init_mutex, waits, release, made, fresh_object}
use Rattle.kt_mem.specs.Laws.{IsNumbered}
use Rattle.kt_mem.specs.Renaming.{Pairs, rename_name, rename_value, renamed}
use Rattle.kt_heap.specs.Heap.{Paired, IsNew, IsPairing}

-- ---- numbers for addresses

-- the address of a heap number
abbrev pub address_paired : Pairs → ℕ → Option ℕ
address_paired [] n = None
address_paired (p ∷ ps) n = if p.1 == n then Some p.0 else address_paired ps n

-- a cell and an object by heap number
abbrev pub cell_by_number : Pairs → Cell → Cell
cell_by_number pairs c = record c { value = rename_value (renamed pairs) c.value }

abbrev pub object_by_number : Pairs → Object → Object
object_by_number pairs o = record o { cells = map (cell_by_number pairs) o.cells }

-- the object whose address is read by this name
abbrev pub object_named : Pairs → (Name → Option Object) → Name → Option Object
object_named pairs at (Heap n) = option_and_then (λ a. at (Heap a)) (address_paired pairs n)
object_named pairs at (Glob i) = at (Glob i)
object_named pairs at (Lit v i) = at (Lit v i)

-- the memory by heap number
abbrev pub by_number : Pairs → Memory → Memory
by_number pairs m = record m { at = λ n. option_map (object_by_number pairs) (object_named pairs m.at n) }

-- an answer with its value by heap number; a trap stays
abbrev pub answer_by : {T : Type 0} → (T → T) → Result T Trap → Result T Trap
answer_by f (Ok x) = Ok (f x)
answer_by f (Err t) = Err t

-- ---- what was given out

-- a heap name in a value was given out: what heap, frames and kept values keep of each of their values
abbrev pub WasGiven : Pairs → Value → Type 0
WasGiven pairs (Ptr (Heap a) k) = (n : ℕ) × Paired pairs a n
WasGiven pairs _ = Unit {0}

abbrev pub HoldsGiven : Pairs → Memory → Type 0
HoldsGiven pairs m =
    (n : Name) (o : Object) (k : ℕ) (c : Cell) → m.at n ≡ Some o → slice_get o.cells k ≡ Some c → WasGiven pairs c.value

-- ---- the acts by heap number

-- an act on memory at a pointer does by address what it does by heap number
abbrev pub ActsByNumber : (Pairs → Memory → Value → Result Memory Trap) → (Memory → Value → Result Memory Trap) → Type 0
ActsByNumber by act =
    (pairs : Pairs) (m : Memory) (p : Value) → IsPairing pairs m → WasGiven pairs p
    → by pairs (by_number pairs m) (rename_value (renamed pairs) p) ≡ answer_by (by_number pairs) (act m p)

abbrev pub StartsByNumber : Type 0
StartsByNumber =
    (next : ℕ) → by_number [] (record { at = no_objects; next = next; live = 0 }) ≡ record { at = no_objects; next = next; live = 0 }

abbrev pub LoadsByNumber : Type 0
LoadsByNumber =
    (pairs : Pairs) (m : Memory) (p : Value) (t : Ty) → IsPairing pairs m → WasGiven pairs p
    → load (by_number pairs m) (rename_value (renamed pairs) p) t ≡ answer_by (rename_value (renamed pairs)) (load m p t)

abbrev pub StoresByNumber : Type 0
StoresByNumber =
    (t : Ty) (v : Value) → ActsByNumber (λ pairs m p. store m p t (rename_value (renamed pairs) v)) (λ m p. store m p t v)

abbrev pub ReleasesByNumber : Type 0
ReleasesByNumber = ActsByNumber (λ _ m p. release m p) release

abbrev pub LocksByNumber : Type 0
LocksByNumber = (thread : ℕ) → ActsByNumber (λ _ m p. lock m thread p) (λ m p. lock m thread p)

abbrev pub UnlocksByNumber : Type 0
UnlocksByNumber = (thread : ℕ) → ActsByNumber (λ _ m p. unlock m thread p) (λ m p. unlock m thread p)

abbrev pub InitsByNumber : Type 0
InitsByNumber = ActsByNumber (λ _ m p. init_mutex m p) init_mutex

abbrev pub WaitsByNumber : Type 0
WaitsByNumber =
    (pairs : Pairs) (m : Memory) (thread : ℕ) (p : Value) → IsPairing pairs m → WasGiven pairs p
    → waits (by_number pairs m) thread (rename_value (renamed pairs) p) ≡ waits m thread p

-- an allocation at a new address is one under the next heap number
abbrev pub AllocsByNumber : Type 0
AllocsByNumber =
    (pairs : Pairs) (m : Memory) (a place count : ℕ) (types : List Ty) (zeros : Bool) → IsPairing pairs m → HoldsGiven pairs m → IsNew pairs a
    → by_number (pairs ++ (a, m.next) ∷ []) (made m a (fresh_object m.next place types count zeros))
    ≡ made (by_number pairs m) m.next (fresh_object m.next place types count zeros)

-- what was given out before a pair more has the number that it had
abbrev pub GrowsByNumber : Type 0
GrowsByNumber =
    (pairs : Pairs) (a n : ℕ) (v : Value) → IsNew pairs a → WasGiven pairs v → rename_value (renamed (pairs ++ (a, n) ∷ [])) v ≡ rename_value (renamed pairs) v

-- by heap number the object under a name that was given out is the object under that name
abbrev pub LooksByNumber : Type 0
LooksByNumber =
    (pairs : Pairs) (m : Memory) (n : Name) → IsPairing pairs m → WasGiven pairs (Ptr n 0)
    → (by_number pairs m).at (rename_name (renamed pairs) n) ≡ option_map (object_by_number pairs) (m.at n)

-- by heap number each live heap object carries its own number
abbrev pub CarriesNumber : Type 0
CarriesNumber = (pairs : Pairs) (m : Memory) → IsPairing pairs m → IsNumbered (by_number pairs m)

-- ---- what was given out stays so

-- a load gives what was given out
abbrev pub LoadsGiven : Type 0
LoadsGiven = (pairs : Pairs) (m : Memory) (p v : Value) (t : Ty) → HoldsGiven pairs m → load m p t ≡ Ok v → WasGiven pairs v

-- a store of what was given out, a release and an allocation keep that memory holds nothing else
abbrev pub StoresGiven : Type 0
StoresGiven =
    (pairs : Pairs) (m after : Memory) (p v : Value) (t : Ty) → HoldsGiven pairs m → WasGiven pairs v → store m p t v ≡ Ok after → HoldsGiven pairs after

-- what locks, unlocks and inits write names nothing
abbrev pub LocksGiven : Type 0
LocksGiven = (pairs : Pairs) (m after : Memory) (thread : ℕ) (p : Value) → HoldsGiven pairs m → lock m thread p ≡ Ok after → HoldsGiven pairs after

abbrev pub UnlocksGiven : Type 0
UnlocksGiven = (pairs : Pairs) (m after : Memory) (thread : ℕ) (p : Value) → HoldsGiven pairs m → unlock m thread p ≡ Ok after → HoldsGiven pairs after

abbrev pub InitsGiven : Type 0
InitsGiven = (pairs : Pairs) (m after : Memory) (p : Value) → HoldsGiven pairs m → init_mutex m p ≡ Ok after → HoldsGiven pairs after

abbrev pub ReleasesGiven : Type 0
ReleasesGiven = (pairs : Pairs) (m after : Memory) (p : Value) → HoldsGiven pairs m → release m p ≡ Ok after → HoldsGiven pairs after

-- after a pair more, what was given out still is
abbrev pub GrowsGiven : Type 0
GrowsGiven = (pairs : Pairs) (a n : ℕ) (v : Value) → WasGiven pairs v → WasGiven (pairs ++ (a, n) ∷ []) v

abbrev pub AllocsGiven : Type 0
AllocsGiven =
    (pairs : Pairs) (m : Memory) (a place count : ℕ) (types : List Ty) (zeros : Bool) → HoldsGiven pairs m
    → HoldsGiven (pairs ++ (a, m.next) ∷ []) (made m a (fresh_object m.next place types count zeros))
