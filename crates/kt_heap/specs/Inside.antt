-- What the fields of a `Heap` keep.
use Rattle.std.specs.Prelude.{◌≡◌, ◌⊎◌, ◌↔◌, ℕ, ◌<◌, ◌≤◌, length, Option, None, Some}
use Rattle.kt_mem.specs.declared.memory.Name.TheVariants.{Heap}
use Rattle.kt_heap.specs.Keys.{generation_of, AreAllUsed}
use Rattle.kt_heap.specs.Heap.{State, memory, Paired, AreOneToOne, IsPairing, number_at}
use Rattle.kt_heap.specs.declared.heap.Heap.TheInside.{Inside}

abbrev pub state_of : Inside → State
state_of a = record {
  globals = a.globals;
  literals = a.literals;
  objects = a.objects;
  next = a.next;
  used = a.live;
  pairs = a.given.items;
}

-- as many keys were made as addresses were given out, and all of them are used
abbrev pub IsFilled : State → Type 0
IsFilled s = (length s.objects.keys ≡ length s.pairs) × AreAllUsed s.objects.keys

-- an address was given out at which nothing lives
abbrev pub HasDead : State → Type 0
HasDead s = (a n : ℕ) × Paired s.pairs a n × ((memory s).at (Heap a) ≡ None)

-- the pairs are a pairing, each of which stands once; each address that was given out has a generation below the next one; either nothing was
-- released and each address has a key of its own, or something is dead; the live cells are at most 4,194,304
pub record IsHeap (s : State) : Type 0 where
  pub pairing : IsPairing s.pairs (memory s)
  pub once : AreOneToOne s.pairs
  pub generations : (a n : ℕ) → Paired s.pairs a n → generation_of a < length s.pairs
  pub filled : IsFilled s ⊎ HasDead s
  pub room : s.used ≤ 4194304

-- the map has the address of each live heap object, by its heap number
abbrev pub HasNumbers : (ℕ → Option ℕ) → State → Type 0
HasNumbers find s = (a n : ℕ) → (find n ≡ Some a) ↔ (number_at (memory s) a ≡ Some n)
