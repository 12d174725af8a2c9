-- Renaming: heap objects under other names. Pairs of an old name and a new one, as of an address and the heap number that it was given
-- out with, say how.
use Rattle.std.specs.Prelude.{ℕ, ◌==◌, List, [], ◌∷◌, map, if◌then◌else◌}
use Rattle.kt_mem.specs.declared.memory.Name.{Name}
use Rattle.kt_mem.specs.declared.memory.Name.TheVariants.{Glob, Lit, Heap}
use Rattle.kt_mem.specs.declared.memory.Value.{Value}
use Rattle.kt_mem.specs.declared.memory.Value.TheVariants.{Num, Null, Ptr, Free, Held, Undef}

-- ---- by a function

abbrev pub rename_name : (ℕ → ℕ) → Name → Name
rename_name f (Glob i) = Glob i
rename_name f (Lit v i) = Lit v i
rename_name f (Heap a) = Heap (f a)

abbrev pub rename_value : (ℕ → ℕ) → Value → Value
rename_value f (Num n) = Num n
rename_value f Null = Null
rename_value f (Ptr n k) = Ptr (rename_name f n) k
rename_value f Free = Free
rename_value f (Held thread) = Held thread
rename_value f Undef = Undef

abbrev pub rename_values : (ℕ → ℕ) → List Value → List Value
rename_values f vs = map (rename_value f) vs

-- ---- by pairs

abbrev pub Pairs : Type 0
Pairs = List (ℕ × ℕ)

-- the new name of an old one; one that no pair has stays
abbrev pub renamed : Pairs → ℕ → ℕ
renamed [] a = a
renamed (p ∷ ps) a = if p.0 == a then p.1 else renamed ps a
