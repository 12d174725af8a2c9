-- A C file that is refused at a symbol is so whatever stands behind that symbol.
use Rattle.std.specs.Prelude.{ℕ}
use Rattle.kt_grammar.specs.Local.{RefusesAlike}
use Rattle.kt_syntax.specs.Reading.{file_at}

abbrev pub FileIsLocal : Type 0
FileIsLocal = (n : ℕ) → RefusesAlike (file_at n)
