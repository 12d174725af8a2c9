-- Classes of bytes (ISO/IEC 9899:2011, 5.2.1).
use Rattle.std.specs.Prelude.{ℕ, Bool, ◌==◌, ◌||◌}
use Rattle.std.specs.Char.{is_ascii_alphanumeric}

-- the codes of bytes that definitions name
abbrev pub tab : ℕ
tab = 9

abbrev pub newline : ℕ
newline = 10

abbrev pub carriage_return : ℕ
carriage_return = 13

abbrev pub space : ℕ
space = 32

abbrev pub double_quote : ℕ
double_quote = 34

abbrev pub hash : ℕ
hash = 35

abbrev pub dollar : ℕ
dollar = 36

abbrev pub apostrophe : ℕ
apostrophe = 39

abbrev pub backslash : ℕ
backslash = 92

abbrev pub underscore : ℕ
underscore = 95

-- what may stand before a directive on its line
abbrev pub is_indent : ℕ → Bool
is_indent b = (b == space) || (b == tab)

abbrev pub is_blank : ℕ → Bool
is_blank b = is_indent b || (b == carriage_return) || (b == newline)

abbrev pub is_newline : ℕ → Bool
is_newline b = b == newline

-- a letter, a digit or an underscore
abbrev pub is_word_byte : ℕ → Bool
is_word_byte b = is_ascii_alphanumeric b || (b == underscore)
