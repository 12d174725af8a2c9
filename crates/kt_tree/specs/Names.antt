-- Names of C programs and of update points.
use Rattle.std.specs.Prelude.{ℕ, Bool, false, ◌==◌, ◌&&◌, ◌||◌, not, List, [], ◌∷◌, Option, position}
use Rattle.std.specs.Cmp.Lexicographic.{pointwise}
use Rattle.std.specs.List.{list_all, list_any}
use Rattle.std.specs.Char.{is_ascii_digit}
use Rattle.kt_lex.specs.Bytes.{is_word_byte}
use Rattle.kt_lex.specs.Words.{is_among, keywords}

-- a letter or underscore, then letters, digits and underscores; and no keyword (ISO/IEC 9899:2011, 6.4.2)
abbrev pub is_identifier : List ℕ → Bool
is_identifier [] = false
is_identifier (b ∷ bytes) = not (is_ascii_digit b) && list_all is_word_byte (b ∷ bytes) && not (is_among keywords (b ∷ bytes))

-- letters, digits, `_` and `-`
abbrev pub is_point_name : List ℕ → Bool
is_point_name bytes = list_all (λ b. is_word_byte b || (b == 45)) bytes

-- the name is one of these
abbrev pub is_one_of : List ℕ → List (List ℕ) → Bool
is_one_of name names = list_any (pointwise ◌==◌ name) names

-- the first place of the name among these
abbrev pub place_of : List ℕ → List (List ℕ) → Option ℕ
place_of name names = position (pointwise ◌==◌ name) names
