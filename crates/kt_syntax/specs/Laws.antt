-- What is read is what is spelled: the laws of reading C files.
use Rattle.std.specs.Prelude.{◌≡◌, ℕ, List, [], Ok}
use Rattle.kt_grammar.specs.Marks.{Mark, symbols_of, IsShallow}
use Rattle.kt_grammar.specs.Cut.{cut}
use Rattle.kt_syntax.specs.Tree.{External}
use Rattle.kt_syntax.specs.Spelling.{externals}
use Rattle.kt_syntax.specs.Reading.{file_at}

-- a file that is spelled is read back, unless a token of it is too deep
abbrev pub FileIsReadBack : Type 0
FileIsReadBack = (n : ℕ) (xs : List External) (marks : List Mark) → externals xs marks → file_at n (symbols_of marks) ≡ cut n marks [] (Ok (xs, []))

-- a file that is spelled within a limit is read
abbrev pub FileIsRead : Type 0
FileIsRead = (n : ℕ) (xs : List External) (marks : List Mark) → externals xs marks → IsShallow n marks → file_at n (symbols_of marks) ≡ Ok (xs, [])
