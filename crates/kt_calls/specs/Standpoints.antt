-- Reading a format byte by byte.
use Rattle.std.specs.Prelude.{ℕ, Bool, false, List, [], ◌∷◌, ◌++◌, Option, Some, None}
use Rattle.kt_tree.specs.Kinds.{Scope}
use Rattle.kt_typing.specs.declared.format.Conversion.{Conversion}
use Rattle.kt_typing.specs.Formats.{Standpoint, Between, Percent, Long, before, format_from, are_taken}
use Rattle.kt_calls.specs.declared.format.Standpoint.{Standpoint as StandpointCode}
use Rattle.kt_calls.specs.declared.format.Standpoint.TheVariants as code

abbrev pub standpoint_of : StandpointCode → Standpoint
standpoint_of code.Between = Between
standpoint_of code.Percent = Percent
standpoint_of code.Long = Long

-- the pieces of what is left, where a byte was read as this: a piece, or a step to another standpoint
abbrev pub read_as : Option Conversion → StandpointCode → List ℕ → Option (List Conversion)
read_as None s rest = format_from (standpoint_of s) rest
read_as (Some c) s rest = before c (format_from (standpoint_of s) rest)

abbrev pub read_so : Option (Option Conversion × StandpointCode) → List ℕ → Option (List Conversion)
read_so None rest = None
read_so (Some p) rest = read_as p.0 p.1 rest

-- the pieces take these types, if there are any left
abbrev pub are_taken_behind : Scope → List Conversion → Option (List ℕ) → Bool
are_taken_behind s cs None = false
are_taken_behind s cs (Some ts) = are_taken s cs ts

-- pieces, and one more, where there is one
abbrev pub with_piece : List Conversion → Option Conversion → List Conversion
with_piece cs None = cs
with_piece cs (Some c) = cs ++ c ∷ []
