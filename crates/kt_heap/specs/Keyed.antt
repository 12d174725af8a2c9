-- Heap objects by address. An address is a key and a generation; the object stands in a slab beside its address, at the
-- place that its key has.
use Rattle.std.specs.Prelude.{◌≡◌, ℕ, ◌<◌, ◌==◌, List, length, Option, None, Some, IsSome, slice_index_or, if◌then◌else◌}
use Rattle.std.specs.Option.{option_map}
use Rattle.kt_heap.specs.declared.object.Obj.{Obj}
use Rattle.kt_heap.specs.declared.keyed.Entry.{Entry}
use Rattle.kt_heap.specs.Objects.{shown}
use Rattle.kt_heap.specs.Keys.{place_at, key_of}

pub record Keyed : Type 0 where
  pub slots : List (Option Entry)
  pub keys : List (Option ℕ)

-- what stands at a place of the slab: nothing where there is no place
abbrev pub entry_in : List (Option Entry) → Option ℕ → Option Entry
entry_in slots None = None
entry_in slots (Some place) = slice_index_or slots place None

-- what stands at a key
abbrev pub entry_at : Keyed → ℕ → Option Entry
entry_at h key = entry_in h.slots (place_at h.keys key)

-- the object, where it is the one with this address
abbrev pub obj_of : ℕ → Option Entry → Option Obj
obj_of a None = None
obj_of a (Some e) = if e.address == a then Some e.obj else None

-- the object at an address, of which the key is a part
abbrev pub obj_at : Keyed → ℕ → Option Obj
obj_at h a = obj_of a (entry_at h (key_of a))

-- one address has another object, or none, and all others have what they had
abbrev pub IsPut : Keyed → Keyed → ℕ → Option Obj → Type 0
IsPut old new a o = (b : ℕ) → obj_at new b ≡ (if b == a then o else obj_at old b)

-- what stands at a place of a key is an object with an address of that key
abbrev pub IsKeyed : Keyed → Type 0
IsKeyed h = (key place : ℕ) → place_at h.keys key ≡ Some place → (e : Entry) × (slice_index_or h.slots place None ≡ Some e) × (key_of e.address ≡ key)

-- an address is that of the object at a key
abbrev pub IsObjectAt : Keyed → ℕ → ℕ → Type 0
IsObjectAt h key a = IsSome (option_map shown (obj_at h a)) × (key_of a ≡ key)

-- each key has an object
abbrev pub HaveObjects : Keyed → Type 0
HaveObjects h = (key : ℕ) → key < length h.keys → (a : ℕ) × IsObjectAt h key a
