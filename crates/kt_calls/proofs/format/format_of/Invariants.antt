use Rattle.std.proofs.Common.{◌≡◌, drop}
use Rattle.kt_typing.specs.Formats.{format_from, format_of}
use Rattle.kt_calls.specs.Arguments.{joined}
use Rattle.kt_calls.specs.Standpoints.{standpoint_of}
use Rattle.kt_calls.proofs.format.format_of.Given as goal

abbrev pub invariant-loop-b : goal.invariant-loop-b
invariant-loop-b l = joined l.pieces.items (format_from (standpoint_of l.standpoint) (drop l.b-index l.format)) ≡ format_of l.format
