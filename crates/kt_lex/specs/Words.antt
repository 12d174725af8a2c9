-- Tokens without quotes or values: identifiers and keywords (ISO/IEC 9899:2011, 6.4.1 and 6.4.2), rule words, signs (6.4.6).
use Rattle.std.specs.Prelude.{ℕ, Bool, ◌==◌, if◌then◌else◌, nat_eq, List, [], ◌∷◌, codes}
use Rattle.std.specs.List.{prefix_len, starts_with, list_any}
use Rattle.std.specs.Str.{bytes_eq}
use Rattle.kt_lex.specs.Bytes.{is_word_byte}

-- how many letters, digits and underscores stand at the front
unfoldable pub word_length : List ℕ → ℕ
word_length bytes = prefix_len is_word_byte bytes

-- the word is one of these
unfoldable pub is_among : List (List ℕ) → List ℕ → Bool
is_among words word = list_any (λ w. bytes_eq w word) words

unfoldable pub keywords : List (List ℕ)
keywords =
    codes "char" ∷ codes "int" ∷ codes "long" ∷ codes "void" ∷ codes "struct" ∷ codes "const" ∷ codes "static"
    ∷ codes "if" ∷ codes "else" ∷ codes "while" ∷ codes "do" ∷ codes "for" ∷ codes "return" ∷ codes "break"
    ∷ codes "continue" ∷ codes "sizeof" ∷ codes "pthread_mutex_t" ∷ codes "NULL" ∷ codes "EOF"
    ∷ codes "PTHREAD_MUTEX_INITIALIZER" ∷ codes "E_NOTELOCALS" ∷ codes "E_PTRARRAY" ∷ codes "INIT" ∷ []

-- the words that stand behind a dollar sign
unfoldable pub rule_words : List (List ℕ)
rule_words = codes "in" ∷ codes "out" ∷ codes "base" ∷ codes "oldsym" ∷ codes "xform" ∷ codes "new" ∷ []

unfoldable pub signs_of_two : List (List ℕ)
signs_of_two =
    codes "->" ∷ codes "::" ∷ codes "==" ∷ codes "!=" ∷ codes "<=" ∷ codes ">=" ∷ codes "++" ∷ codes "--" ∷ codes "+="
    ∷ codes "-=" ∷ codes "*=" ∷ codes "/=" ∷ codes "%=" ∷ codes "&&" ∷ codes "||" ∷ []

-- each byte is a sign
unfoldable pub signs_of_one : List ℕ
signs_of_one = codes "{}()[];,.:?=<>+-*/%!&"

-- how many bytes the sign at the front has, or 0
unfoldable pub sign_length : List ℕ → ℕ
sign_length [] = 0
sign_length (b ∷ rest) =
    if list_any (starts_with nat_eq (b ∷ rest)) signs_of_two then 2
    else (if list_any (λ sign. sign == b) signs_of_one then 1
    else 0)
