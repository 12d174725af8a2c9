-- What stands between tokens besides blanks: comments (ISO/IEC 9899:2011, 6.4.9) and the lines of `#include` (6.10.2).
use Rattle.std.specs.Prelude.{ℕ, Bool, not, suc, if◌then◌else◌, nat_eq, List, [], ◌∷◌, drop, Option, Some, None, codes}
use Rattle.std.specs.Option.{option_map}
use Rattle.std.specs.List.{prefix_len, starts_with}
use Rattle.kt_lex.specs.Bytes.{is_indent, is_newline}

-- how many bytes stand before the end of the line, or of the file
unfoldable pub line_length : List ℕ → ℕ
line_length bytes = prefix_len (λ b. not (is_newline b)) bytes

-- how many bytes stand before the first `*/`, if there is one
unfoldable pub comment_length : List ℕ → Option ℕ
comment_length [] = None
comment_length (b ∷ rest) =
    if starts_with nat_eq (b ∷ rest) (codes "*/") then Some 0 else option_map suc (comment_length rest)

-- how many spaces and tabs stand at the front
unfoldable pub indent_length : List ℕ → ℕ
indent_length bytes = prefix_len is_indent bytes

-- what follows the `#` of a directive is spaces and tabs, and then `include`
unfoldable pub is_include : List ℕ → Bool
is_include bytes = starts_with nat_eq (drop (indent_length bytes) bytes) (codes "include")
