-- Character constants (ISO/IEC 9899:2011, 6.4.4.4) and strings (6.4.5).
use Rattle.std.specs.Prelude.{ℕ, ◌-◌, Bool, true, false, ◌==◌, ◌||◌, ◌&&◌, not, suc, if◌then◌else◌, nat_lt, nat_le, List, [], ◌∷◌, length, slice_range, Option, Some, None}
use Rattle.std.specs.Option.{option_map}
use Rattle.std.specs.Char.{is_ascii_graphic}
use Rattle.kt_lex.specs.Bytes.{tab, newline, carriage_return, space, double_quote, apostrophe, backslash}

-- the byte is a backslash that begins an escape; escaped: such a backslash stands before
abbrev pub begins_escape : Bool → ℕ → Bool
begins_escape escaped b = (b == backslash) && not escaped

-- how many bytes stand before the quote that closes: the first one on the line that no backslash takes along
unfoldable pub body_length : ℕ → Bool → List ℕ → Option ℕ
body_length quote escaped [] = None
body_length quote escaped (b ∷ rest) =
    if b == newline then None
    else (if (b == quote) && not escaped then Some 0
    else option_map suc (body_length quote (begins_escape escaped b) rest))

-- what a backslash and the byte c stand for
unfoldable pub escape_value : ℕ → Option ℕ
escape_value c =
    if c == 110 then Some newline
    else (if c == 116 then Some tab
    else (if c == 114 then Some carriage_return
    else (if c == 48 then Some 0
    else (if (c == backslash) || (c == apostrophe) || (c == double_quote) then Some c
    else None))))

-- space and the graphic bytes of ASCII
abbrev pub is_printable : ℕ → Bool
is_printable b = (b == space) || is_ascii_graphic b

-- what stands for itself in a character constant
unfoldable pub is_plain_character : ℕ → Bool
is_plain_character b = is_printable b && not (b == apostrophe) && not (b == backslash)

-- what stands for itself in a string
unfoldable pub is_plain_in_string : ℕ → Bool
is_plain_in_string b = (is_printable b && not (b == double_quote) && not (b == backslash)) || (b == tab) || nat_le 128 b

-- the byte that stands between the quotes of a character constant: one byte or one escape
unfoldable pub character_in : List ℕ → Option ℕ
character_in [] = None
character_in (b ∷ []) = if is_plain_character b then Some b else None
character_in (b ∷ c ∷ []) = if b == backslash then escape_value c else None
character_in (b ∷ c ∷ d ∷ rest) = None

-- what a byte of a string stands for, with the backslash before it where there is one
unfoldable pub value_at : Bool → ℕ → Option ℕ
value_at escaped b = if escaped then escape_value b else (if is_plain_in_string b then Some b else None)

-- a byte and the bytes after it, where there are both
abbrev pub before_rest : Option ℕ → Option (List ℕ) → Option (List ℕ)
before_rest None rest = None
before_rest (Some b) rest = option_map (λ bytes. b ∷ bytes) rest

-- the bytes that stand between the quotes of a string
unfoldable pub bytes_in : Bool → List ℕ → Option (List ℕ)
bytes_in escaped [] = if escaped then None else Some []
bytes_in escaped (b ∷ rest) =
    if begins_escape escaped b then bytes_in true rest else before_rest (value_at escaped b) (bytes_in false rest)

-- what stands between the first and the last byte
abbrev pub inside : List ℕ → List ℕ
inside spelling = slice_range spelling 1 (length spelling - 1)

-- the byte of a character constant
unfoldable pub character_value : List ℕ → Option ℕ
character_value spelling = if nat_lt (length spelling) 2 then None else character_in (inside spelling)

-- the bytes of a string, without the zero at its end
unfoldable pub string_value : List ℕ → Option (List ℕ)
string_value spelling = if nat_lt (length spelling) 2 then None else bytes_in false (inside spelling)
