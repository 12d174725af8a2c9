-- What is read of a file is what is spelled, and what is not read breaks off where it is told: the laws of reading C files.
use Rattle.std.specs.Prelude.{◌≡◌, ℕ, List, [], Ok, Err}
use Rattle.kt_grammar.specs.declared.fault.Fault.{Fault}
use Rattle.kt_grammar.specs.declared.symbol.Symbol.{Symbol}
use Rattle.kt_grammar.specs.Marks.{Mark}
use Rattle.kt_grammar.specs.Laws.{FaultStands}
use Rattle.kt_syntax.specs.Tree.{External}
use Rattle.kt_syntax.specs.Spelling.{externals}
use Rattle.kt_syntax.specs.Reading.{file_at}
use Rattle.kt_syntax.specs.File.{IsSpelled}

-- a file that is read is one, to its end, no token of it too deep
abbrev pub FileStands : Type 0
FileStands = (n : ℕ) (symbols : List Symbol) (xs : List External) (rest : List Symbol) → file_at n symbols ≡ Ok (xs, rest) → (rest ≡ []) × IsSpelled n symbols xs

-- what spells some file
abbrev pub some_file : List Mark → Type 0
some_file marks = (xs : List External) × externals xs marks

-- Where no file is read, what stands before the place of the fault begins one, no token of it too deep; where the fault
-- is depth, one goes on there with the symbol there, which is too deep in it.
abbrev pub FileFaultStands : Type 0
FileFaultStands = (n : ℕ) (symbols : List Symbol) (fault : Fault) → file_at n symbols ≡ Err fault → FaultStands n some_file symbols fault
