-- Exact arithmetic (C 6.5.5, 6.5.6): the exact number where the type holds it, and else the named trap.
-- `char`, `int` and `long` are signed and have 8, 32 and 64 bits. On values of a kind that an operation
-- doesn't take, the undefined value among them, and at a type that it isn't for, the answer is `uninit`.
use Rattle.std.specs.Prelude.{ℕ, ℤ, pos, negsuc, ◌+ℤ◌, ◌-ℤ◌, ◌*ℤ◌, int_div, int_rem, ◌^◌, nat_lt, nat_le, Bool, true, false, Result, Ok, Err, if◌then◌else◌}
use Rattle.std.specs.Result.{result_and}
use Rattle.kt_types.specs.declared.kinds.Ty.{Ty}
use Rattle.kt_types.specs.declared.kinds.Ty.TheVariants as ty
use Rattle.kt_mem.specs.declared.memory.Name.{Name}
use Rattle.kt_mem.specs.declared.memory.Value.{Value}
use Rattle.kt_mem.specs.declared.memory.Value.TheVariants.{Num, Null, Ptr, Free, Held}
use Rattle.kt_mem.specs.declared.steps.Trap.{Trap}
use Rattle.kt_mem.specs.declared.steps.Trap.TheVariants as trap
use Rattle.kt_mem.specs.Values.{name_eq, int_eq}

-- z lies from -limit to limit - 1
abbrev pub fits : ℕ → ℤ → Bool
fits limit (pos n) = nat_lt n limit
fits limit (negsuc n) = nat_lt n limit

-- the number where it lies there, or the trap
abbrev pub within : ℕ → Trap → ℤ → Result Value Trap
within limit t z = if fits limit z then Ok (Num z) else Err t

-- the number where the integer type holds it, or the trap
abbrev pub number : Ty → Trap → ℤ → Result Value Trap
number ty.Char t z = within (2 ^ 7) t z
number ty.Int t z = within (2 ^ 31) t z
number ty.Long t z = within (2 ^ 63) t z
number _ t z = Err trap.Uninit

-- a value is of a type: a number that the integer type holds, null or a pointer, a mutex that is free or held
abbrev pub has_type : Ty → Value → Bool
has_type ty.Char (Num z) = fits (2 ^ 7) z
has_type ty.Int (Num z) = fits (2 ^ 31) z
has_type ty.Long (Num z) = fits (2 ^ 63) z
has_type ty.Mutex Free = true
has_type ty.Mutex (Held thread) = true
has_type (ty.Ptr u) Null = true
has_type (ty.Ptr u) (Ptr n k) = true
has_type _ _ = false

-- the pointer into an object at an offset: 0 to 65,536 cells, that end included (6.5.6)
abbrev pub place : Name → ℤ → Result Value Trap
place n (pos k) = if nat_le k 65536 then Ok (Ptr n k) else Err trap.Bounds
place n (negsuc k) = Err trap.Bounds

-- a pointer that is moved by a number of cells
abbrev pub moved : Value → ℤ → Result Value Trap
moved Null d = Err trap.Null
moved (Ptr n k) d = place n (pos k +ℤ d)
moved _ d = Err trap.Uninit

-- the offsets of two pointers into one object (6.5.6, 6.5.8)
abbrev pub offsets : Value → Value → Result (ℕ × ℕ) Trap
offsets (Ptr n k) (Ptr o j) = if name_eq n o then Ok (k, j) else Err trap.Bounds
offsets Null Null = Err trap.Null
offsets Null (Ptr o j) = Err trap.Null
offsets (Ptr n k) Null = Err trap.Null
offsets _ _ = Err trap.Uninit

-- what two offsets give, or the trap
abbrev pub on_offsets : (ℕ → ℕ → Result Value Trap) → Result (ℕ × ℕ) Trap → Result Value Trap
on_offsets f (Ok both) = f both.0 both.1
on_offsets f (Err t) = Err t

-- what two numbers give
abbrev pub on_numbers : (ℤ → ℤ → Result Value Trap) → Value → Value → Result Value Trap
on_numbers f (Num x) (Num y) = f x y
on_numbers f _ _ = Err trap.Uninit

-- an answer that stands at pointer types alone, and one that stands at `long` alone
abbrev pub at_pointer : Ty → Result Value Trap → Result Value Trap
at_pointer (ty.Ptr u) r = r
at_pointer _ r = Err trap.Uninit

abbrev pub at_long : Ty → Result Value Trap → Result Value Trap
at_long ty.Long r = r
at_long _ r = Err trap.Uninit

-- `a + b`: of numbers; or, at a pointer type, of a pointer and a number of cells, on either side (6.5.6)
abbrev pub sum_of : Ty → Value → Value → Result Value Trap
sum_of t (Num x) (Num y) = number t trap.Overflow (x +ℤ y)
sum_of t p (Num d) = at_pointer t (moved p d)
sum_of t (Num d) p = at_pointer t (moved p d)
sum_of t _ _ = Err trap.Uninit

-- `a - b`: of numbers; at a pointer type, of a pointer and a number of cells; at `long`, of two pointers, in cells (6.5.6)
abbrev pub difference_of : Ty → Value → Value → Result Value Trap
difference_of t (Num x) (Num y) = number t trap.Overflow (x -ℤ y)
difference_of t p (Num d) = at_pointer t (moved p (pos 0 -ℤ d))
difference_of t p q = at_long t (on_offsets (λ k j. Ok (Num (pos k -ℤ pos j))) (offsets p q))

-- `a * b` (6.5.5)
abbrev pub product_of : Ty → Value → Value → Result Value Trap
product_of t a b = on_numbers (λ x y. number t trap.Overflow (x *ℤ y)) a b

-- the quotient toward zero (6.5.5)
abbrev pub quotient : Ty → ℤ → ℤ → Result Value Trap
quotient t x y = if int_eq y (pos 0) then Err trap.Zero else number t trap.Overflow (int_div x y)

-- `a / b` (6.5.5)
abbrev pub quotient_of : Ty → Value → Value → Result Value Trap
quotient_of t a b = on_numbers (quotient t) a b

-- `a % b`: with the dividend's sign, and where the quotient is representable (6.5.5)
abbrev pub remainder_of : Ty → Value → Value → Result Value Trap
remainder_of t a b =
    on_numbers (λ x y. result_and (quotient t x y) (number t trap.Overflow (int_rem x y))) a b

-- a number that is converted to an integer type (6.3.1.3, with a trap where C leaves the result to the implementation)
abbrev pub narrowed : Ty → Value → Result Value Trap
narrowed t (Num z) = number t trap.Range z
narrowed t _ = Err trap.Uninit
