-- What a number stands for (ISO/IEC 9899:2011, 6.4.4.1, without octal numbers and the suffixes `u` and `ll`).
use Rattle.std.specs.Prelude.{ℕ, ◌+◌, ◌-◌, ◌*◌, Bool, ◌==◌, ◌||◌, ◌&&◌, if◌then◌else◌, nat_lt, nat_le, List, [], ◌∷◌, length, slice_index, take, drop, Option, Some, None, option_and_then}
use Rattle.std.specs.Char.{digit_value, is_digit}
use Rattle.kt_lex.specs.declared.number.Number.{Number}

-- the number that digits of a base make behind the number n; none where one of them is no digit of the base
abbrev pub value_behind : ℕ → ℕ → List ℕ → Option ℕ
value_behind base n [] = Some n
value_behind base n (d ∷ digits) = if is_digit d base then value_behind base (n * base + digit_value d) digits else None

-- the number that one or more digits of a base make
unfoldable pub value_in : ℕ → List ℕ → Option ℕ
value_in base [] = None
value_in base (d ∷ digits) = value_behind base 0 (d ∷ digits)

-- the greatest value of a `long`
abbrev pub greatest : ℕ
greatest = 9223372036854775807

-- the greatest value of an `int`
abbrev pub greatest_int : ℕ
greatest_int = 2147483647

abbrev pub at_most_greatest : ℕ → Option ℕ
at_most_greatest n = if nat_le n greatest then Some n else None

-- the digits begin with `0x` or `0X`
unfoldable pub is_hexadecimal : List ℕ → Bool
is_hexadecimal digits = (slice_index digits 0 == 48) && ((slice_index digits 1 == 120) || (slice_index digits 1 == 88))

-- a 0 stands before another digit
unfoldable pub has_leading_zero : List ℕ → Bool
has_leading_zero digits = (slice_index digits 0 == 48) && nat_lt 1 (length digits)

-- what the digits stand for, at most 9,223,372,036,854,775,807
unfoldable pub value_of_digits : List ℕ → Option ℕ
value_of_digits digits =
    if is_hexadecimal digits then option_and_then at_most_greatest (value_in 16 (drop 2 digits))
    else (if has_leading_zero digits then None
    else option_and_then at_most_greatest (value_in 10 digits))

-- the word ends with `L` or `l`
unfoldable pub has_suffix : List ℕ → Bool
has_suffix word = (slice_index word (length word - 1) == 76) || (slice_index word (length word - 1) == 108)

unfoldable pub without_suffix : List ℕ → List ℕ
without_suffix word = if has_suffix word then take (length word - 1) word else word

-- A number has type `int` where it is at most 2,147,483,647 and has no suffix, else `long`.
unfoldable pub number_value : List ℕ → Option Number
number_value word =
    option_and_then
    (λ n. Some (record { value = n; long = has_suffix word || nat_lt greatest_int n; hexadecimal = is_hexadecimal word }))
    (value_of_digits (without_suffix word))
