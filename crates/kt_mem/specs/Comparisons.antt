-- Comparisons and the zero test (C 6.5.3.3, 6.5.8, 6.5.9, 6.8.4.1). On values of a kind that one doesn't take,
-- the undefined value among them, the answer is `uninit`.
use Rattle.std.specs.Prelude.{ℕ, ℤ, pos, int_lt, int_le, Bool, true, false, not, ◌&&◌, ◌==◌, Result, Ok, Err}
use Rattle.kt_mem.specs.declared.memory.Value.{Value}
use Rattle.kt_mem.specs.declared.memory.Value.TheVariants.{Num, Null, Ptr}
use Rattle.kt_mem.specs.declared.steps.Trap.{Trap}
use Rattle.kt_mem.specs.declared.steps.Trap.TheVariants as trap
use Rattle.kt_mem.specs.Values.{name_eq, int_eq, truth}
use Rattle.kt_mem.specs.Arithmetic.{offsets}

-- whether two values are equal: pointers by name and offset, whether or not the object lives (6.5.9)
abbrev pub equality : Value → Value → Result Bool Trap
equality (Num x) (Num y) = Ok (int_eq x y)
equality Null Null = Ok true
equality Null (Ptr o j) = Ok false
equality (Ptr n k) Null = Ok false
equality (Ptr n k) (Ptr o j) = Ok (name_eq n o && (k == j))
equality _ _ = Err trap.Uninit

-- whether a value is zero or null: what `!` and conditions test (6.5.3.3, 6.8.4.1)
abbrev pub zero_test : Value → Result Bool Trap
zero_test (Num z) = Ok (int_eq z (pos 0))
zero_test Null = Ok true
zero_test (Ptr n k) = Ok false
zero_test _ = Err trap.Uninit

-- the number that a test, or its opposite, gives
abbrev pub truth_of : Result Bool Trap → Result Value Trap
truth_of (Ok b) = Ok (truth b)
truth_of (Err t) = Err t

abbrev pub falsehood_of : Result Bool Trap → Result Value Trap
falsehood_of (Ok b) = Ok (truth (not b))
falsehood_of (Err t) = Err t

-- `a == b`, `a != b` and `!a`
abbrev pub equal_value : Value → Value → Result Value Trap
equal_value a b = truth_of (equality a b)

abbrev pub not_equal_value : Value → Value → Result Value Trap
not_equal_value a b = falsehood_of (equality a b)

abbrev pub not_value : Value → Result Value Trap
not_value a = truth_of (zero_test a)

-- the numbers that an order compares: two numbers, or the offsets of two pointers into one object (6.5.8)
abbrev pub as_numbers : Result (ℕ × ℕ) Trap → Result (ℤ × ℤ) Trap
as_numbers (Ok both) = Ok (pos both.0, pos both.1)
as_numbers (Err t) = Err t

abbrev pub compared_numbers : Value → Value → Result (ℤ × ℤ) Trap
compared_numbers (Num x) (Num y) = Ok (x, y)
compared_numbers p q = as_numbers (offsets p q)

-- what an order gives
abbrev pub compared : (ℤ → ℤ → Bool) → Result (ℤ × ℤ) Trap → Result Value Trap
compared test (Ok both) = Ok (truth (test both.0 both.1))
compared test (Err t) = Err t

-- `a < b`, `a > b`, `a <= b` and `a >= b`
abbrev pub less_value : Value → Value → Result Value Trap
less_value a b = compared int_lt (compared_numbers a b)

abbrev pub greater_value : Value → Value → Result Value Trap
greater_value a b = compared (λ x y. int_lt y x) (compared_numbers a b)

abbrev pub less_equal_value : Value → Value → Result Value Trap
less_equal_value a b = compared int_le (compared_numbers a b)

abbrev pub greater_equal_value : Value → Value → Result Value Trap
greater_equal_value a b = compared (λ x y. int_le y x) (compared_numbers a b)
