-- What the tokens of a file are, in the file's own words: its bytes are their spellings, with gaps between them.
use Rattle.std.specs.Prelude.{◌≡◌, ℕ, ◌+◌, ◌≤◌, ◌<◌, Bool, true, false, ◌==◌, ◌||◌, ◌⊎◌, List, [], ◌∷◌, ◌++◌, map, flat_map, length, take, drop, Some, None, IsSome, codes, slice_index, nat_eq, Ok, Err}
use Rattle.std.specs.List.{AllByRecursion, starts_with}
use Rattle.std.specs.Char.{is_ascii_digit}
use Rattle.kt_lex.specs.declared.token.Kind.{Kind}
use Rattle.kt_lex.specs.declared.token.Kind.TheVariants.{Identifier, Keyword, Number, Character, Text, RuleWord, Sign}
use Rattle.kt_lex.specs.declared.token.Token.{Token}
use Rattle.kt_lex.specs.declared.token.LexFault.{LexFault}
use Rattle.kt_lex.specs.declared.token.LexFault.TheVariants.{Byte, Unclosed, Literal, Directive, NoMemory}
use Rattle.kt_lex.specs.Bytes.{is_blank, is_newline, is_word_byte, hash, dollar, apostrophe, double_quote}
use Rattle.kt_lex.specs.Gaps.{line_length, comment_length, is_include}
use Rattle.kt_lex.specs.Words.{word_length, is_among, keywords, rule_words, signs_of_one, signs_of_two, sign_length}
use Rattle.kt_lex.specs.Numbers.{number_value}
use Rattle.kt_lex.specs.Quotes.{body_length, character_in, bytes_in, character_value, string_value}
use Rattle.kt_lex.specs.Tokens.{line_after, is_indented, tokens_of}

-- no line ends in these bytes
abbrev pub IsOneLine : List ℕ → Type 0
IsOneLine bytes = AllByRecursion (λ b. is_newline b ≡ false) bytes

-- Below, `before` are the bytes before a part of a file, and `after` those behind it.

-- to the end of the line
abbrev pub IsLineComment : List ℕ → List ℕ → Type 0
IsLineComment bytes after = (text : List ℕ) × (bytes ≡ codes "//" ++ text) × IsOneLine text × (line_length after ≡ 0)

-- the first `*/` behind the opening is the end of the comment
abbrev pub IsBlockComment : List ℕ → Type 0
IsBlockComment bytes = (text : List ℕ) × (bytes ≡ codes "/*" ++ (text ++ codes "*/")) × (comment_length (text ++ codes "*/") ≡ Some (length text))

-- to the end of the line, before which only spaces and tabs stand on it
abbrev pub IsSkippedLine : List ℕ → List ℕ → List ℕ → Type 0
IsSkippedLine before bytes after =
    (is_indented before ≡ true)
    × ((text : List ℕ) × (bytes ≡ hash ∷ text) × (is_include text ≡ true) × IsOneLine text × (line_length after ≡ 0))

-- a blank, a comment or a skipped line
abbrev pub IsGap : List ℕ → List ℕ → List ℕ → Type 0
IsGap before bytes after =
    ((b : ℕ) × (bytes ≡ b ∷ []) × (is_blank b ≡ true))
    ⊎ (IsLineComment bytes after ⊎ (IsBlockComment bytes ⊎ IsSkippedLine before bytes after))

-- the sign of each spelling
unfoldable pub signs : List (List ℕ)
signs = signs_of_two ++ map (λ b. b ∷ []) signs_of_one

-- a letter or underscore, and then letters, digits and underscores
abbrev pub IsName : List ℕ → Type 0
IsName bytes = (0 < length bytes) × AllByRecursion (λ b. is_word_byte b ≡ true) bytes × (is_ascii_digit (slice_index bytes 0) ≡ false)

-- the bytes stand between two quotes
abbrev pub IsQuoted : ℕ → List ℕ → Type 0
IsQuoted quote bytes = (body : List ℕ) × (bytes ≡ quote ∷ (body ++ quote ∷ []))

-- what the bytes of a token of a kind are
abbrev pub IsSpelling : Kind → List ℕ → Type 0
IsSpelling Identifier bytes = IsName bytes × (is_among keywords bytes ≡ false)
IsSpelling Keyword bytes = is_among keywords bytes ≡ true
IsSpelling Number bytes = IsSome (number_value bytes)
IsSpelling Character bytes = IsQuoted apostrophe bytes × IsSome (character_value bytes)
IsSpelling Text bytes = IsQuoted double_quote bytes × IsSome (string_value bytes)
IsSpelling RuleWord bytes = (word : List ℕ) × (bytes ≡ dollar ∷ word) × (is_among rule_words word ≡ true)
IsSpelling Sign bytes = is_among signs bytes ≡ true

-- a comment opens there, closed or not
abbrev pub opens_comment : List ℕ → Bool
opens_comment bytes = starts_with nat_eq bytes (codes "//") || starts_with nat_eq bytes (codes "/*")

-- A token ends where it must: a word or a number takes each letter, digit and underscore that follows, and a sign is the longest
-- that stands there, where no comment opens. What stands in quotes ends with the quote that closes it.
abbrev pub IsWhole : Kind → List ℕ → List ℕ → Type 0
IsWhole Character bytes after = Unit {0}
IsWhole Text bytes after = Unit {0}
IsWhole Sign bytes after = (opens_comment (bytes ++ after) ≡ false) × (sign_length (bytes ++ after) ≡ length bytes)
IsWhole _ bytes after = word_length after ≡ 0

-- a part of a file: a gap, or the spelling of a token
pub data Part : Type 0 where
  Between : (spelling : List ℕ) → Part
  Spelled : (kind : Kind) (spelling : List ℕ) → Part

abbrev pub IsPart : List ℕ → Part → List ℕ → Type 0
IsPart before (Between spelling) after = IsGap before spelling after
IsPart before (Spelled kind spelling) after = IsSpelling kind spelling × IsWhole kind spelling after

abbrev pub spelling_of : Part → List ℕ
spelling_of (Between spelling) = spelling
spelling_of (Spelled kind spelling) = spelling

-- the token of a part that stands behind the bytes `before`
abbrev pub token_at : List ℕ → Part → List Token
token_at before (Between spelling) = []
token_at before (Spelled kind spelling) =
    record { kind = kind; at = length before; end = length before + length spelling; line = line_after before } ∷ []

-- the tokens of parts that stand behind the bytes `before`
abbrev pub tokens_at : List ℕ → List Part → List Token
tokens_at before [] = []
tokens_at before (part ∷ parts) = token_at before part ++ tokens_at (before ++ spelling_of part) parts

-- each of these, which stand between `before` and `after`, is a part
abbrev pub AreParts : List ℕ → List Part → List ℕ → Type 0
AreParts before [] after = Unit {0}
AreParts before (part ∷ parts) after =
    IsPart before part (flat_map spelling_of parts ++ after) × AreParts (before ++ spelling_of part) parts after

-- the parts, joined, are the bytes, and the tokens are those of the parts
pub record IsCut (bytes : List ℕ) (tokens : List Token) (parts : List Part) : Type 0 where
  pub joined : flat_map spelling_of parts ≡ bytes
  pub each : AreParts [] parts []
  pub listed : tokens_at [] parts ≡ tokens

-- a file that has tokens is cut into gaps and the spellings of these tokens
abbrev pub TokensAreCut : Type 0
TokensAreCut = (bytes : List ℕ) (tokens : List Token) → tokens_of bytes ≡ Ok tokens → (parts : List Part) × IsCut bytes tokens parts

-- and a file that is cut so has these tokens
abbrev pub CutsAreTokens : Type 0
CutsAreTokens = (bytes : List ℕ) (tokens : List Token) (parts : List Part) → IsCut bytes tokens parts → tokens_of bytes ≡ Ok tokens

-- Why nothing is read on behind the bytes `before`: what the rest there begins with.

-- a comment that is not closed, or a quote that is not closed on its line
abbrev pub IsUnclosed : List ℕ → Type 0
IsUnclosed rest =
    ((starts_with nat_eq rest (codes "/*") ≡ true) × (comment_length (drop 2 rest) ≡ None))
    ⊎ (((slice_index rest 0 ≡ apostrophe) × (body_length apostrophe false (drop 1 rest) ≡ None))
    ⊎ ((slice_index rest 0 ≡ double_quote) × (body_length double_quote false (drop 1 rest) ≡ None)))

-- a digit that begins no number, or a closed quote that holds no character or string
abbrev pub IsFaultyLiteral : List ℕ → Type 0
IsFaultyLiteral rest =
    ((is_ascii_digit (slice_index rest 0) ≡ true) × (number_value (take (word_length rest) rest) ≡ None))
    ⊎ (((n : ℕ) × (slice_index rest 0 ≡ apostrophe) × (body_length apostrophe false (drop 1 rest) ≡ Some n) × (character_in (take n (drop 1 rest)) ≡ None))
    ⊎ ((n : ℕ) × (slice_index rest 0 ≡ double_quote) × (body_length double_quote false (drop 1 rest) ≡ Some n) × (bytes_in false (take n (drop 1 rest)) ≡ None)))

abbrev pub IsOtherDirective : List ℕ → List ℕ → Type 0
IsOtherDirective before rest = (slice_index rest 0 ≡ hash) × (is_indented before ≡ true) × (is_include (drop 1 rest) ≡ false)

-- what begins with the byte is a directive, a rule word or a quote, or a fault of these
abbrev pub is_opening : ℕ → Bool
is_opening b = (b == hash) || (b == dollar) || (b == apostrophe) || (b == double_quote)

-- a `#` inside a line, a `$` before no rule word, or a byte that begins nothing else
abbrev pub IsOtherByte : List ℕ → List ℕ → Type 0
IsOtherByte before rest =
    ((slice_index rest 0 ≡ hash) × (is_indented before ≡ false))
    ⊎ (((slice_index rest 0 ≡ dollar) × (is_among rule_words (take (word_length (drop 1 rest)) (drop 1 rest)) ≡ false))
    ⊎ ((is_blank (slice_index rest 0) ≡ false) × (is_word_byte (slice_index rest 0) ≡ false)
    × (is_opening (slice_index rest 0) ≡ false) × (sign_length rest ≡ 0)))

abbrev pub IsFault : LexFault → List ℕ → List ℕ → Type 0
IsFault (Unclosed at) before rest = (at ≡ length before) × IsUnclosed rest
IsFault (Literal at) before rest = (at ≡ length before) × IsFaultyLiteral rest
IsFault (Directive at) before rest = (at ≡ length before) × IsOtherDirective before rest
IsFault (Byte at) before rest = (at ≡ length before) × IsOtherByte before rest
IsFault NoMemory before rest = ⊥

-- the bytes are parts, joined, and then a rest that begins with the fault
pub record IsStopped (bytes : List ℕ) (fault : LexFault) (parts : List Part) (rest : List ℕ) : Type 0 where
  pub joined : flat_map spelling_of parts ++ rest ≡ bytes
  pub each : AreParts [] parts rest
  pub found : 0 < length rest
  pub why : IsFault fault (flat_map spelling_of parts) rest

-- a file that has a fault is cut into gaps and spellings up to there
abbrev pub FaultsAreThere : Type 0
FaultsAreThere = (bytes : List ℕ) (fault : LexFault) → tokens_of bytes ≡ Err fault → (parts : List Part) × (rest : List ℕ) × IsStopped bytes fault parts rest

-- and a file that is cut so has this fault
abbrev pub StopsAreFaults : Type 0
StopsAreFaults = (bytes : List ℕ) (fault : LexFault) (parts : List Part) (rest : List ℕ) → IsStopped bytes fault parts rest → tokens_of bytes ≡ Err fault

-- no sign that stands at the front is longer than the one that is taken, and that one stands there
pub record IsLongestSign (bytes : List ℕ) : Type 0 where
  pub stands : 0 < sign_length bytes → is_among signs (take (sign_length bytes) bytes) ≡ true
  pub longest : (s : List ℕ) → is_among signs s ≡ true → starts_with nat_eq bytes s ≡ true → length s ≤ sign_length bytes

abbrev pub LongestSignIsTaken : Type 0
LongestSignIsTaken = (bytes : List ℕ) → IsLongestSign bytes
