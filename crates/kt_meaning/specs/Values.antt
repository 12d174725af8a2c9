-- Values of a type of the table.
use Rattle.std.specs.Prelude.{◌≡◌, ◌⊎◌, ℕ, nat_lt, Bool, true, ◌&&◌, IsTrue, List, [], ◌∷◌, Option, None, Some, slice_get}
use Rattle.kt_types.specs.declared.kinds.Ty.{Ty}
use Rattle.kt_types.specs.Table.{Table}
use Rattle.kt_mem.specs.declared.memory.Value.{Value}
use Rattle.kt_mem.specs.declared.memory.Value.TheVariants.{Ptr, Undef}
use Rattle.kt_mem.specs.Arithmetic.{has_type}
use Rattle.kt_tree.specs.Typed.{Kind, NoValue, Of}

-- an offset has 32 bits
abbrev pub has_offset : Value → Bool
has_offset (Ptr n k) = nat_lt k 4294967296
has_offset _ = true

-- a value of a type: a number within it, null or a pointer, a mutex that is free or held
abbrev pub is_of : Ty → Value → Bool
is_of t v = has_type t v && has_offset v

abbrev pub IsOf : Option Ty → Value → Type 0
IsOf None v = ⊥
IsOf (Some t) v = IsTrue (is_of t v)

-- of the type at this place
abbrev pub IsAt : Table → ℕ → Value → Type 0
IsAt types t v = IsOf (slice_get types.types t) v

-- of its type, or undefined
abbrev pub IsIn : Table → ℕ → Value → Type 0
IsIn types t v = (v ≡ Undef) ⊎ IsAt types t v

-- each value is of its type, and each local's value of its type or undefined
abbrev pub AreAt : Table → List ℕ → List Value → Type 0
AreAt types [] [] = Unit {0}
AreAt types (t ∷ ts) (v ∷ vs) = IsAt types t v × AreAt types ts vs
AreAt types _ _ = ⊥

abbrev pub AreIn : Table → List ℕ → List Value → Type 0
AreIn types [] [] = Unit {0}
AreIn types (t ∷ ts) (v ∷ vs) = IsIn types t v × AreIn types ts vs
AreIn types _ _ = ⊥

-- what an expression of this kind gives: a value of the type, or the undefined value where it gives none
abbrev pub IsKind : Table → Kind → Value → Type 0
IsKind types NoValue v = Unit {0}
IsKind types (Of t) v = IsAt types t v
