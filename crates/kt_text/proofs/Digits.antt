-- Digits that are read from the left, and the number that they make.
use Rattle.std.proofs.Common.{◌≡◌, ℕ, ◌+◌, ◌*◌, ◌<◌, ◌≤◌, true, false, ◌&&◌, List, [], ◌∷◌, length, get_or, drop, drop-cons, Some, None, ap, ◌∙◌, arith, add-one}
use Rattle.std.specs.Prelude.{nat_lt}
use Rattle.std.specs.Char.{digit_value, is_ascii_digit}
use Rattle.std.specs.Str.{all_ascii_digits}
use Rattle.std.specs.Str.Parse.{digits_value, digits_value_after}
use Rattle.std.proofs.lemmas.Bool.Decides.{nat_tests}
use Rattle.std.proofs.lemmas.Bool.{le-ltb}
use Rattle.std.proofs.lemmas.List.{drop_all}
use Rattle.kt_text.specs.Numbers.{is_number, number_of}

-- a byte is a digit where it has the value of one
pub digit-is : (c : ℕ) → is_ascii_digit c ≡ nat_lt (digit_value c) 10
digit-is c = grind (arith, nat_tests)

-- more digits make no smaller number
pub digits_value_after-le : (n : ℕ) (digits : List ℕ) → n ≤ digits_value_after 10 n digits
digits_value_after-le n [] = omega arith
digits_value_after-le n (d ∷ digits) = omega (arith, digits_value_after-le (n * 10 + digit_value d) digits)

pub digits-drop : (bytes : List ℕ) (i : ℕ) → i < length bytes → all_ascii_digits (drop i bytes) ≡ is_ascii_digit (get_or bytes i 0) && all_ascii_digits (drop (i + 1) bytes)
digits-drop bytes i h = rw (add-one, drop-cons bytes i 0)

pub value-drop : (n : ℕ) (bytes : List ℕ) (i : ℕ) → i < length bytes → digits_value_after 10 n (drop i bytes) ≡ digits_value_after 10 (n * 10 + digit_value (get_or bytes i 0)) (drop (i + 1) bytes)
value-drop n bytes i h = rw (add-one, drop-cons bytes i 0)

pub empty-none : (most : ℕ) (bytes : List ℕ) → length bytes ≡ 0 → number_of most bytes ≡ None
unfolding number_of is_number
empty-none most bytes h = grind (arith, nat_tests)

pub long-none : (most : ℕ) (bytes : List ℕ) → 20 < length bytes → number_of most bytes ≡ None
unfolding number_of is_number
long-none most bytes h = grind (arith, nat_tests)

pub other-none : (most : ℕ) (bytes : List ℕ) → all_ascii_digits bytes ≡ false → number_of most bytes ≡ None
unfolding number_of is_number
other-none most bytes h = grind (arith, nat_tests)

pub great-none : (most : ℕ) (bytes : List ℕ) → most < digits_value 10 bytes → number_of most bytes ≡ None
unfolding number_of is_number
great-none most bytes h = grind (arith, nat_tests)

pub number_of-is : (most : ℕ) (bytes : List ℕ) → 0 < length bytes → length bytes ≤ 20 → all_ascii_digits bytes ≡ true → digits_value 10 bytes ≤ most → number_of most bytes ≡ Some (digits_value 10 bytes)
unfolding number_of is_number
number_of-is most bytes some few digits small = grind (arith, nat_tests)

-- what is read as a number are its digits
pub number_of-only : (most : ℕ) (bytes : List ℕ) (n : ℕ) → number_of most bytes ≡ Some n → (0 < length bytes) × (all_ascii_digits bytes ≡ true) × (digits_value 10 bytes ≡ n)
unfolding number_of is_number
number_of-only most bytes n h = grind (arith, nat_tests)

-- a byte that is no digit
pub digit-other : (bytes : List ℕ) (i : ℕ) → i < length bytes → (digit_value (get_or bytes i 0) < 10 → ⊥) → all_ascii_digits (drop i bytes) ≡ false
digit-other bytes i h other =
    digits-drop bytes i h
    ∙ ap (λ b. b && all_ascii_digits (drop (i + 1) bytes)) (digit-is (get_or bytes i 0) ∙ le-ltb _ 10 (omega arith))

-- a number that the next byte makes too great
pub great-next : (most : ℕ) (bytes : List ℕ) (i value : ℕ) → i < length bytes → digits_value_after 10 0 bytes ≡ digits_value_after 10 value (drop i bytes)
    → most < value * 10 + digit_value (get_or bytes i 0) → number_of most bytes ≡ None
great-next most bytes i value h front great =
    great-none most bytes
    (omega (arith, front, value-drop value bytes i h, digits_value_after-le (value * 10 + digit_value (get_or bytes i 0)) (drop (i + 1) bytes)))

-- all bytes were read
pub read-all : (bytes : List ℕ) (i value : ℕ) → length bytes ≤ i → digits_value_after 10 0 bytes ≡ digits_value_after 10 value (drop i bytes) → digits_value 10 bytes ≡ value
read-all bytes i value h front = front ∙ ap (digits_value_after 10 value) (drop_all i bytes h)

pub digits-all : (bytes : List ℕ) (i : ℕ) → length bytes ≤ i → all_ascii_digits bytes ≡ all_ascii_digits (drop i bytes) → all_ascii_digits bytes ≡ true
digits-all bytes i h front = front ∙ ap all_ascii_digits (drop_all i bytes h)
