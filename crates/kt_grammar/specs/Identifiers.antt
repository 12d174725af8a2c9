-- What an identifier is (ISO/IEC 9899:2011, 6.4.2).
use Rattle.std.specs.Prelude.{ℕ, Bool, false, ◌&&◌, not, List, [], ◌∷◌}
use Rattle.std.specs.List.{list_all}
use Rattle.std.specs.Char.{is_ascii_digit}
use Rattle.kt_lex.specs.Bytes.{is_word_byte}
use Rattle.kt_lex.specs.Words.{is_among, keywords}

-- a letter or underscore, then letters, digits and underscores; and no keyword
abbrev pub is_identifier : List ℕ → Bool
is_identifier [] = false
is_identifier (b ∷ bytes) = not (is_ascii_digit b) && list_all is_word_byte (b ∷ bytes) && not (is_among keywords (b ∷ bytes))
