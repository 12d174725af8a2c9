-- How free keys are chained. No public clause cites this module.
use Rattle.std.specs.Prelude.{◌≡◌, ◌≢◌, ◌⊎◌, ℕ, List, [], ◌∷◌, Option, None, Some, slice_get}
use Rattle.kt_heap.specs.declared.keys.Key.{Key}
use Rattle.kt_heap.specs.declared.keys.Key.TheVariants.{Used, Free}

-- the place that a key has
abbrev pub place_of : Key → Option ℕ
place_of (Used place) = Some place
place_of (Free next) = None

-- the free key behind a free key in the chain
abbrev pub link_of : Option Key → Option ℕ
link_of (Some (Free next)) = next
link_of _ = None

-- a key is none of a list
abbrev pub IsAway : ℕ → List ℕ → Type 0
IsAway k [] = Unit {0}
IsAway k (j ∷ js) = (k ≢ j) × IsAway k js

-- a key is one of a list
abbrev pub IsIn : ℕ → List ℕ → Type 0
IsIn k [] = ⊥
IsIn k (j ∷ js) = (k ≡ j) ⊎ IsIn k js

-- from this key on, the free keys of the list name each other in order, each once, and the last names none
abbrev pub IsChain : List Key → List ℕ → Option ℕ → Type 0
IsChain keys [] first = first ≡ None
IsChain keys (k ∷ ks) first =
    (first ≡ Some k) × IsAway k ks × (next : Option ℕ) × (slice_get keys k ≡ Some (Free next)) × IsChain keys ks next

-- all free keys are chained
pub record IsChained (keys : List Key) (first : Option ℕ) : Type 0 where
  pub free : List ℕ
  pub chain : IsChain keys free first
  pub all : (k : ℕ) (next : Option ℕ) → slice_get keys k ≡ Some (Free next) → IsIn k free
