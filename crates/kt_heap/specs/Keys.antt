-- Addresses, and the keys in them. Each live heap object has a key of its own: for each key from 0 on there is the place
-- of its object in the slab, none where the key is free.
use Rattle.std.specs.Prelude.{◌≡◌, ◌⊎◌, ℕ, ◌+◌, ◌*◌, ◌/◌, ◌%◌, ◌<◌, ◌==◌, List, length, Option, IsSome, slice_get, if◌then◌else◌}
use Rattle.std.specs.Option.{option_flatten}

-- the address of a key in a generation, and the key and the generation of an address
abbrev pub address_of : ℕ → ℕ → ℕ
address_of key generation = key + 4294967296 * generation

abbrev pub key_of : ℕ → ℕ
key_of a = a % 4294967296

abbrev pub generation_of : ℕ → ℕ
generation_of a = a / 4294967296

-- the place of a key's object: none past the last key
abbrev pub place_at : List (Option ℕ) → ℕ → Option ℕ
place_at keys k = option_flatten (slice_get keys k)

-- one key has another place, or none, and all others have what they had
abbrev pub IsKeyPut : List (Option ℕ) → List (Option ℕ) → ℕ → Option ℕ → Type 0
IsKeyPut old new key place = (k : ℕ) → place_at new k ≡ (if k == key then place else place_at old k)

-- no key is free
abbrev pub AreAllUsed : List (Option ℕ) → Type 0
AreAllUsed keys = (k : ℕ) → k < length keys → IsSome (place_at keys k)

-- a key that was free is used, or the next one where no key was free
abbrev pub IsKeyTaken : List (Option ℕ) → List (Option ℕ) → ℕ → Type 0
IsKeyTaken old new key =
    ((key < length old) × (length new ≡ length old)) ⊎ ((key ≡ length old) × (length new ≡ length old + 1) × AreAllUsed old)
