-- Numbers as words.
use Rattle.std.proofs.Common.{◌≡◌, ℕ, zero, suc, ◌^◌, ◌<◌, ◌≤◌, Bool, true, false, List, length, get_or, Option, Some, None, refl, ap, sym, ◌∙◌, arith}
use Rattle.std.specs.Prelude.{is_some, if◌then◌else◌}
use Rattle.std.specs.Fmt.{decimal}
use Rattle.std.specs.Str.{all_ascii_digits}
use Rattle.std.specs.Str.Parse.{digits_value}
use Rattle.std.proofs.lemmas.Bool.{false≢true}
use Rattle.std.proofs.lemmas.Bool.Decides.{nat_tests}
use Rattle.std.proofs.lemmas.Fmt.{decimal-digits_value, decimal_nonempty, length-decimal-le, digits_decimal, digits_value-decimal, first_decimal, decimal_digit}
use Rattle.std.proofs.lemmas.Str.Parse.{numerals_by_value, tells_all_ascii_digits}
use Rattle.kt_text.specs.Numbers.{number_of}
use Rattle.kt_text.proofs.Digits.{number_of-is, number_of-only}
use Rattle.kt_journal.specs.Grammar.{number_in, has_leading_zero}

either : (b : Bool) (o : Option ℕ) (n : ℕ) → (if b then None else o) ≡ Some n → (b ≡ false) × (o ≡ Some n)
either true o n is = let never : ⊥ = cc in absurd never
either false o n is = (refl, is)

zero-first : (n : ℕ) → n < 2 ^ 64 → has_leading_zero (decimal n) ≡ false
zero-first zero small = ap has_leading_zero (decimal_digit 0 (omega arith))
zero-first (suc n) small =
    let some : 0 < suc n = omega arith in
    let first : 48 < get_or (decimal (suc n)) 0 0 = first_decimal (suc n) some small in
    grind (arith, nat_tests, first)

-- a number is read as it is written
pub number_in-decimal : (most n : ℕ) → n < 2 ^ 64 → n ≤ most → number_in most (decimal n) ≡ Some n
unfolding number_in
number_in-decimal most n small h =
    let own = numerals_by_value _ tells_all_ascii_digits in
    let value : digits_value 10 (decimal n) ≡ n = digits_value-decimal own n small in
    let lead = zero-first n small in
    rw lead
    (number_of-is most (decimal n) (decimal_nonempty n small) (length-decimal-le 20 n (omega arith) (omega arith) small) (digits_decimal own n small) (omega arith)
    ∙ ap (λ m. Some m) value)

one-digit : (word : List ℕ) → has_leading_zero word ≡ false → get_or word 0 0 ≡ 48 → 0 < length word → length word ≡ 1
one-digit word lead first some = grind (arith, nat_tests)

-- what is read as a number is its text
pub number_in-only : (most : ℕ) (word : List ℕ) (n : ℕ) → n < 2 ^ 64 → number_in most word ≡ Some n → (word ≡ decimal n) × (all_ascii_digits word ≡ true)
unfolding number_in
number_in-only most word n small is =
    let parts = either (has_leading_zero word) (number_of most word) n is in
    let own = numerals_by_value _ tells_all_ascii_digits in
    let only = number_of-only most word n parts.1 in
    let value : digits_value 10 word < 2 ^ 64 = omega (arith, only.2) in
    let first = λ (zero_first : get_or word 0 0 ≡ 48). one-digit word parts.0 zero_first only.0 in
    (sym (decimal-digits_value own word only.1 only.0 first value) ∙ ap decimal only.2, only.1)

pub some-is : (o : Option ℕ) → is_some o ≡ true → (n : ℕ) × (o ≡ Some n)
some-is None lacks = absurd (false≢true lacks)
some-is (Some n) is = (n, refl)

-- what may be read as a number are digits
pub number-digits : (most : ℕ) (word : List ℕ) → is_some (number_in most word) ≡ true → all_ascii_digits word ≡ true
unfolding number_in
number-digits most word is =
    let n = some-is (number_in most word) is in
    let parts = either (has_leading_zero word) (number_of most word) n.0 n.1 in
    (number_of-only most word n.0 parts.1).1
