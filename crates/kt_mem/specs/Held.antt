-- Whether a mutex is held somewhere, and how that is decided: over the names that can be there.
use Rattle.std.specs.Prelude.{◌≡◌, ◌↔◌, ℕ, zero, suc, ◌≤◌, Bool, true, false, ◌&&◌, ◌||◌, List, [], ◌∷◌, Option, None, Some, Ok}
use Rattle.std.specs.List.{AllByRecursion}
use Rattle.kt_types.specs.declared.kinds.Ty.TheVariants as ty
use Rattle.kt_mem.specs.declared.memory.Name.{Name}
use Rattle.kt_mem.specs.declared.memory.Name.TheVariants.{Glob, Lit, Heap}
use Rattle.kt_mem.specs.declared.memory.Value.{Value}
use Rattle.kt_mem.specs.declared.memory.Value.TheVariants.{Ptr, Held}
use Rattle.kt_mem.specs.Values.{ty_eq}
use Rattle.kt_mem.specs.Memory.{Memory, Object, Cell, value_at}

-- some live mutex cell is held
abbrev pub IsSomeHeld : Memory → Type 0
IsSomeHeld m = (n : Name) × (k : ℕ) × (thread : ℕ) × (value_at m (Ptr n k) ty.Mutex ≡ Ok (Held thread))

-- ---- decided

abbrev pub is_held : Value → Bool
is_held (Held thread) = true
is_held _ = false

-- a cell of these is a mutex that is held
abbrev pub any_held : List Cell → Bool
any_held [] = false
any_held (c ∷ cs) = (ty_eq c.ty ty.Mutex && is_held c.value) || any_held cs

abbrev pub object_held : Option Object → Bool
object_held None = false
object_held (Some o) = any_held o.cells

-- one of the objects of the numbers below this one
abbrev pub held_below : (ℕ → Option Object) → ℕ → Bool
held_below at zero = false
held_below at (suc n) = object_held (at n) || held_below at n

-- a global, or a heap object
abbrev pub some_held : Memory → ℕ → Bool
some_held m globals = held_below (λ i. m.at (Glob i)) globals || held_below (λ a. m.at (Heap a)) m.next

-- so many globals, heap numbers below the next one, and literals of characters
pub record HasNames (m : Memory) (count : ℕ) : Type 0 where
  pub globals : (i : ℕ) → count ≤ i → m.at (Glob i) ≡ None
  pub numbers : (a : ℕ) → m.next ≤ a → m.at (Heap a) ≡ None
  pub literals : (v i : ℕ) (o : Object) → m.at (Lit v i) ≡ Some o → AllByRecursion (λ c. c.ty ≡ ty.Char) o.cells

abbrev pub HeldIsDecided : Type 0
HeldIsDecided = (m : Memory) (globals : ℕ) → HasNames m globals → IsSomeHeld m ↔ (some_held m globals ≡ true)
