-- Which types of two versions correspond, and which convert into each other by default.
use Rattle.std.specs.Prelude.{ℕ, zero, suc, nat_le, ◌&&◌, Bool, true, false, length, slice_get, position, Option, Some, option_and_then}
use Rattle.kt_types.specs.declared.kinds.Ty.{Ty}
use Rattle.kt_types.specs.declared.kinds.Ty.TheVariants.{Char, Int, Long, Mutex, Struct, Array, Ptr}
use Rattle.xf_plan.specs.Plan.{Plan, is_pair}

-- a test of two types at places of the tables; false where one isn't there
abbrev pub both_are : (Ty → Ty → Bool) → Option Ty → Option Ty → Bool
both_are test (Some t) (Some u) = test t u
both_are test _ _ = false

-- ---- types that correspond

-- where `at` says which pointees do
abbrev pub correspond_by : (ℕ → ℕ → Bool) → Plan → Ty → Ty → Bool
correspond_by at p Char Char = true
correspond_by at p Int Int = true
correspond_by at p Long Long = true
correspond_by at p Mutex Mutex = true
correspond_by at p (Struct s) (Struct r) = is_pair p.structs s r
correspond_by at p (Ptr a) (Ptr b) = at a b
correspond_by at p _ _ = false

-- of the types at two places, through at most n pointers
abbrev pub correspond_within : Plan → ℕ → ℕ → ℕ → Bool
correspond_within p zero a b = false
correspond_within p (suc n) a b =
    both_are (correspond_by (correspond_within p n) p) (slice_get p.old.types a) (slice_get p.new.types b)

-- the type at a place of the old table corresponds to the one at a place of the new one: `char`, `int`, `long` and the mutex to
-- themselves, structs by the plan, pointers where their pointees do
abbrev pub corresponds : Plan → ℕ → ℕ → Bool
corresponds p a b = correspond_within p (length p.old.types) a b

abbrev pub types_correspond : Plan → Ty → Ty → Bool
types_correspond p t u = correspond_by (corresponds p) p t u

-- the place of the new type to which the one at an old place corresponds
abbrev pub new_type : Plan → ℕ → Option ℕ
new_type p a = option_and_then (λ t. position (types_correspond p t) p.new.types) (slice_get p.old.types a)

-- ---- conversion by default

-- of scalars: an integer to the same or a wider one, a pointer to the corresponding one, a mutex to a mutex
abbrev pub scalar_converts : Plan → Ty → Ty → Bool
scalar_converts p Char Char = true
scalar_converts p Char Int = true
scalar_converts p Char Long = true
scalar_converts p Int Int = true
scalar_converts p Int Long = true
scalar_converts p Long Long = true
scalar_converts p Mutex Mutex = true
scalar_converts p (Ptr a) (Ptr b) = corresponds p a b
scalar_converts p _ _ = false

-- of all types, where `at` says which elements do: a struct to its corresponding one, an array to one as long or longer
abbrev pub convert_by : (ℕ → ℕ → Bool) → Plan → Ty → Ty → Bool
convert_by at p (Struct s) (Struct r) = is_pair p.structs s r
convert_by at p (Array a n) (Array b m) = nat_le n m && at a b
convert_by at p t u = scalar_converts p t u

abbrev pub converts_within : Plan → ℕ → ℕ → ℕ → Bool
converts_within p zero a b = false
converts_within p (suc n) a b = both_are (convert_by (converts_within p n) p) (slice_get p.old.types a) (slice_get p.new.types b)

-- the type at a place of the old table converts by default to the one at a place of the new one
abbrev pub converts : Plan → ℕ → ℕ → Bool
converts p a b = converts_within p (length p.old.types) a b
