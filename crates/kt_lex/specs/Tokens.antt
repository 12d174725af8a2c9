-- The tokens of a byte list, or its first fault.
use Rattle.std.specs.Prelude.{ℕ, ◌+◌, ◌-◌, Bool, true, false, ◌==◌, ◌||◌, ◌&&◌, zero, suc, if◌then◌else◌, nat_eq, List, [], ◌∷◌, ◌++◌, length, slice_index, take, drop, Option, Some, None, Result, Ok, Err, count_by, codes}
use Rattle.std.specs.Option.{is_some}
use Rattle.std.specs.List.{starts_with, fold}
use Rattle.std.specs.Char.{is_ascii_digit}
use Rattle.kt_lex.specs.declared.token.Kind.{Kind}
use Rattle.kt_lex.specs.declared.token.Kind.TheVariants.{Identifier, Keyword, Number, Character, Text, RuleWord, Sign}
use Rattle.kt_lex.specs.declared.token.Token.{Token}
use Rattle.kt_lex.specs.declared.token.LexFault.{LexFault}
use Rattle.kt_lex.specs.declared.token.LexFault.TheVariants.{Byte, Unclosed, Literal, Directive}
use Rattle.kt_lex.specs.declared.front.Piece.{Piece}
use Rattle.kt_lex.specs.declared.front.Piece.TheVariants.{Gap, Word}
use Rattle.kt_lex.specs.Bytes.{is_indent, is_blank, is_newline, is_word_byte, hash, dollar, apostrophe, double_quote}
use Rattle.kt_lex.specs.Gaps.{line_length, comment_length, is_include}
use Rattle.kt_lex.specs.Words.{word_length, is_among, keywords, rule_words, sign_length}
use Rattle.kt_lex.specs.Numbers.{number_value}
use Rattle.kt_lex.specs.Quotes.{body_length, character_in, bytes_in}

-- the line of what follows these bytes, from 1
unfoldable pub line_after : List ℕ → ℕ
line_after before = 1 + count_by is_newline before

-- what the next byte leaves of that the line has only spaces and tabs so far
abbrev pub indents_after : Bool → ℕ → Bool
indents_after indents b = is_newline b || (indents && is_indent b)

-- the last line of these bytes has only spaces and tabs
unfoldable pub is_indented : List ℕ → Bool
is_indented before = fold indents_after true before

-- What stands at the front of a rest is a piece: a gap (a blank, a comment, a skipped line) or a token, with how
-- many bytes it has. Below, `at` is the place of the front, and `bytes` are those from there to the end of the file.

-- the piece up to an end that was found, or `Unclosed`
abbrev pub if_closed : ℕ → (ℕ → Result Piece LexFault) → Option ℕ → Result Piece LexFault
if_closed at piece None = Err (Unclosed at)
if_closed at piece (Some n) = piece n

unfoldable pub comment : ℕ → List ℕ → Result Piece LexFault
comment at bytes = if_closed at (λ n. Ok (Gap (n + 4))) (comment_length (drop 2 bytes))

-- indented: only spaces and tabs stand before the `#` on its line
unfoldable pub directive : ℕ → Bool → List ℕ → Result Piece LexFault
directive at indented bytes =
    if indented then (if is_include (drop 1 bytes) then Ok (Gap (line_length bytes)) else Err (Directive at))
    else Err (Byte at)

unfoldable pub number : ℕ → List ℕ → Result Piece LexFault
number at bytes =
    if is_some (number_value (take (word_length bytes) bytes)) then Ok (Word Number (word_length bytes)) else Err (Literal at)

unfoldable pub name : List ℕ → Piece
name bytes =
    if is_among keywords (take (word_length bytes) bytes) then Word Keyword (word_length bytes)
    else Word Identifier (word_length bytes)

unfoldable pub rule_word : ℕ → List ℕ → Result Piece LexFault
rule_word at bytes =
    let n = word_length (drop 1 bytes) in
    if is_among rule_words (take n (drop 1 bytes)) then Ok (Word RuleWord (1 + n)) else Err (Byte at)

-- a character constant, or a string: what is not closed on its line is no faulty literal
unfoldable pub quoted : ℕ → Kind → ℕ → (List ℕ → Bool) → List ℕ → Result Piece LexFault
quoted at kind quote is_body bytes =
    if_closed at
    (λ n. if is_body (take n (drop 1 bytes)) then Ok (Word kind (n + 2)) else Err (Literal at))
    (body_length quote false (drop 1 bytes))

unfoldable pub sign : ℕ → List ℕ → Result Piece LexFault
sign at bytes = if sign_length bytes == 0 then Err (Byte at) else Ok (Word Sign (sign_length bytes))

-- what stands at the front of a rest, or the fault there
unfoldable pub front : ℕ → Bool → List ℕ → Result Piece LexFault
front at indented bytes =
    let b = slice_index bytes 0 in
    if is_blank b then Ok (Gap 1)
    else (if starts_with nat_eq bytes (codes "//") then Ok (Gap (line_length bytes))
    else (if starts_with nat_eq bytes (codes "/*") then comment at bytes
    else (if b == hash then directive at indented bytes
    else (if is_ascii_digit b then number at bytes
    else (if is_word_byte b then Ok (name bytes)
    else (if b == dollar then rule_word at bytes
    else (if b == apostrophe then quoted at Character apostrophe (λ body. is_some (character_in body)) bytes
    else (if b == double_quote then quoted at Text double_quote (λ body. is_some (bytes_in false body)) bytes
    else sign at bytes))))))))

-- how many bytes a piece has
abbrev pub size_of : Piece → ℕ
size_of (Gap n) = n
size_of (Word kind n) = n

-- the token of a piece that stands behind these bytes, if it is one
abbrev pub token_of : List ℕ → Piece → List Token
token_of before (Gap n) = []
token_of before (Word kind n) =
    record { kind = kind; at = length before; end = length before + n; line = line_after before } ∷ []

-- more tokens before those that are read
abbrev pub behind : List Token → Result (List Token) LexFault → Result (List Token) LexFault
behind tokens (Ok more) = Ok (tokens ++ more)
behind tokens (Err fault) = Err fault

-- the piece at a front, and then what follows it, or the fault there
abbrev pub read_on : List ℕ → Result Piece LexFault → (Piece → Result (List Token) LexFault) → Result (List Token) LexFault
read_on before (Ok piece) follows = behind (token_of before piece) (follows piece)
read_on before (Err fault) follows = Err fault

-- What is read behind the bytes `before`: the piece at the front, and then what is read behind it.
-- Of the piece that stands last in `before`, `inner` bytes are still to come.
unfoldable pub tokens_behind : List ℕ → ℕ → List ℕ → Result (List Token) LexFault
tokens_behind before inner [] = Ok []
tokens_behind before (suc inner) (b ∷ rest) = tokens_behind (before ++ b ∷ []) inner rest
tokens_behind before zero (b ∷ rest) =
    read_on before (front (length before) (is_indented before) (b ∷ rest))
    (λ piece. tokens_behind (before ++ b ∷ []) (size_of piece - 1) rest)

-- the tokens of a file, or its first fault
unfoldable pub tokens_of : List ℕ → Result (List Token) LexFault
tokens_of bytes = tokens_behind [] 0 bytes
