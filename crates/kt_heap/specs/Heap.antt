-- The memory that a heap stands for, whose heap names are addresses, the pairs of address and heap number that the heap
-- gave out, and how many keys it made (C 6.2.4, 7.22.3). Clauses speak of a heap through these three alone.
use Rattle.std.specs.Prelude.{◌≡◌, ◌⊎◌, ℕ, ◌+◌, ◌*◌, ◌<◌, List, [], ◌∷◌, length, Option, None, Some, IsSome}
use Rattle.std.specs.List.{Contains}
use Rattle.std.specs.Option.{option_map}
use Rattle.kt_mem.specs.declared.memory.Name.{Name}
use Rattle.kt_mem.specs.declared.memory.Name.TheVariants.{Glob, Lit, Heap}
use Rattle.kt_mem.specs.declared.steps.Trap.{Trap}
use Rattle.kt_mem.specs.declared.steps.Trap.TheVariants as trap
use Rattle.kt_mem.specs.Memory.{Memory, Object, put}
use Rattle.kt_heap.specs.declared.object.Obj.{Obj}
use Rattle.kt_heap.specs.declared.faults.AllocFault.{AllocFault}
use Rattle.kt_heap.specs.declared.faults.AllocFault.TheVariants as fault
use Rattle.kt_heap.specs.Objects.{shown, object_in, held_by}
use Rattle.kt_heap.specs.Keys.{key_of}
use Rattle.kt_heap.specs.Keyed.{Keyed, obj_at}

-- ---- what a heap keeps

-- globals and literals by number, heap objects by address, the next heap number, how many cells the live heap objects
-- have, and the pairs of address and heap number in the order in which they were given out
pub record State : Type 0 where
  pub globals : List (Option Obj)
  pub literals : List (List (Option Obj))
  pub objects : Keyed
  pub next : ℕ
  pub used : ℕ
  pub pairs : List (ℕ × ℕ)

-- the object under a name
abbrev pub object_at : State → Name → Option Object
object_at s (Glob i) = object_in s.globals i
object_at s (Lit v i) = option_map shown (held_by s.literals v i)
object_at s (Heap a) = option_map shown (obj_at s.objects a)

-- ---- what clauses speak of

-- the memory: the objects by address, the next heap number, the count of live heap cells
unfoldable pub memory : State → Memory
memory s = record { at = object_at s; next = s.next; live = s.used }

-- the pairs of address and heap number that were given out, in order
unfoldable pub given : State → List (ℕ × ℕ)
given s = s.pairs

-- how many keys were made
unfoldable pub key_count : State → ℕ
key_count s = length s.objects.keys

-- an address was given out for a heap number
abbrev pub Paired : List (ℕ × ℕ) → ℕ → ℕ → Type 0
Paired pairs a n = Contains pairs (a, n)

-- an address was not given out
abbrev pub IsNew : List (ℕ × ℕ) → ℕ → Type 0
IsNew pairs a = (n : ℕ) → Paired pairs a n → ⊥

-- no address and no heap number stands twice
abbrev pub AreOneToOne : List (ℕ × ℕ) → Type 0
AreOneToOne [] = Unit {0}
AreOneToOne (p ∷ ps) = IsNew ps p.0 × ((a : ℕ) → Paired ps a p.1 → ⊥) × AreOneToOne ps

-- each address that was given out is that of a live object
abbrev pub AreAllLive : List (ℕ × ℕ) → Memory → Type 0
AreAllLive pairs m = (a n : ℕ) → Paired pairs a n → IsSome (m.at (Heap a))

-- the pairs are one to one, their heap numbers are below the next one, and each live object has the number of its pair
pub record IsPairing (pairs : List (ℕ × ℕ)) (m : Memory) : Type 0 where
  pub numbers : (a n k : ℕ) → Paired pairs a n → Paired pairs a k → n ≡ k
  pub addresses : (a b n : ℕ) → Paired pairs a n → Paired pairs b n → a ≡ b
  pub below : (a n : ℕ) → Paired pairs a n → n < m.next
  pub live : (a : ℕ) (o : Object) → m.at (Heap a) ≡ Some o → Paired pairs a o.number

-- the heap number of the live object at an address
abbrev pub number_at : Memory → ℕ → Option ℕ
number_at m a = option_map (λ o. o.number) (m.at (Heap a))

-- a memory with this object under a name
abbrev pub with_object : Memory → Name → Object → Memory
with_object m n o = record m { at = put m.at n (Some o) }

-- a memory with one live heap object more, and with this next heap number
abbrev pub with_added : Memory → ℕ → ℕ → Object → Memory
with_added m a next o = record { at = put m.at (Heap a) (Some o); next = next; live = m.live + length o.cells }

-- a memory with one live heap object more, which no allocation made
abbrev pub with_placed : Memory → ℕ → Object → Memory
with_placed m a o = record m { at = put m.at (Heap a) (Some o); live = m.live + length o.cells }

-- the address at which an object is placed, by how many addresses were given out: in a heap from which nothing was
-- released each has a key of its own
unfoldable pub place_address : ℕ → ℕ
place_address count = count * 4294967297

-- an address is that of the live object at a key
abbrev pub IsLiveAt : Memory → ℕ → ℕ → Type 0
IsLiveAt m key a = IsSome (m.at (Heap a)) × (key_of a ≡ key)

-- the keys after one was taken for an address: a key that was made before, or, where all these have live objects, the next
abbrev pub TakesKey : Memory → ℕ → ℕ → ℕ → Type 0
TakesKey m old new a =
    ((key_of a < old) × (new ≡ old))
    ⊎ ((key_of a ≡ old) × (new ≡ old + 1) × ((key : ℕ) → key < old → (b : ℕ) × IsLiveAt m key b))

-- the trap that a failed allocation means: none where memory was wanting
abbrev pub fault_trap : AllocFault → Option Trap
fault_trap fault.Size = Some trap.Size
fault_trap fault.Heap = Some trap.Heap
fault_trap fault.NoMemory = None
