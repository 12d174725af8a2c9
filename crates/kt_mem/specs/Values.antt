-- Tests on names, types and numbers, and what reading a value gives: shared by arithmetic, comparisons and memory.
use Rattle.std.specs.Prelude.{ℤ, pos, negsuc, Bool, true, false, ◌&&◌, ◌==◌, Option, None, Some, Result, Ok, Err, if◌then◌else◌}
use Rattle.kt_types.specs.declared.kinds.Ty.{Ty}
use Rattle.kt_types.specs.declared.kinds.Ty.TheVariants as ty
use Rattle.kt_mem.specs.declared.memory.Name.{Name}
use Rattle.kt_mem.specs.declared.memory.Name.TheVariants.{Glob, Lit, Heap}
use Rattle.kt_mem.specs.declared.memory.Value.{Value}
use Rattle.kt_mem.specs.declared.memory.Value.TheVariants.{Num, Undef}
use Rattle.kt_mem.specs.declared.steps.Trap.{Trap}
use Rattle.kt_mem.specs.declared.steps.Trap.TheVariants as trap

-- two names are one
abbrev pub name_eq : Name → Name → Bool
name_eq (Glob i) (Glob j) = i == j
name_eq (Lit v i) (Lit w j) = (v == w) && (i == j)
name_eq (Heap a) (Heap b) = a == b
name_eq _ _ = false

-- two types are one: the types that a type names have one place each
abbrev pub ty_eq : Ty → Ty → Bool
ty_eq ty.Char ty.Char = true
ty_eq ty.Int ty.Int = true
ty_eq ty.Long ty.Long = true
ty_eq ty.Mutex ty.Mutex = true
ty_eq (ty.Struct i) (ty.Struct j) = i == j
ty_eq (ty.Array i n) (ty.Array j m) = (i == j) && (n == m)
ty_eq (ty.Ptr i) (ty.Ptr j) = i == j
ty_eq _ _ = false

-- two numbers are one
abbrev pub int_eq : ℤ → ℤ → Bool
int_eq (pos m) (pos n) = m == n
int_eq (negsuc m) (negsuc n) = m == n
int_eq _ _ = false

-- what is read: the undefined value traps
abbrev pub defined : Value → Result Value Trap
defined Undef = Err trap.Uninit
defined v = Ok v

-- the number, where the value is one
abbrev pub number_of : Value → Option ℤ
number_of (Num z) = Some z
number_of v = None

-- the number that a test gives: 1 or 0 (6.5.8, 6.5.9)
abbrev pub truth : Bool → Value
truth b = Num (pos (if b then 1 else 0))
