-- Decimal text that is read. What is written is std's `signed_decimal`.
use Rattle.std.specs.Prelude.{◌≡◌, ℕ, Bool, ◌&&◌, nat_lt, nat_le, if◌then◌else◌, List, length, slice_index, Option, Some, None}
use Rattle.std.specs.Str.{all_ascii_digits}
use Rattle.std.specs.Str.Parse.{digits_value}

-- one to twenty decimal digits; zeros may lead them
unfoldable pub is_number : List ℕ → Bool
is_number bytes = nat_lt 0 (length bytes) && nat_le (length bytes) 20 && all_ascii_digits bytes

-- the number that such digits stand for, where it is at most `most`
unfoldable pub number_of : ℕ → List ℕ → Option ℕ
number_of most bytes =
    if is_number bytes && nat_le (digits_value 10 bytes) most then Some (digits_value 10 bytes)
    else None

-- no 0 stands before another digit
abbrev pub HasNoLeadingZero : List ℕ → Type 0
HasNoLeadingZero bytes = slice_index bytes 0 ≡ 48 → length bytes ≡ 1
