use Rattle.std.proofs.Common.{◌≡◌, drop}
use Rattle.kt_typing.specs.Formats.{are_taken}
use Rattle.kt_operands.specs.Views.{scope_of}
use Rattle.kt_calls.proofs.format.are_taken.Given as goal

abbrev pub invariant-loop-piece : goal.invariant-loop-piece
invariant-loop-piece l = are_taken (scope_of l.env) (drop l.piece-index l.pieces) l.rest ≡ are_taken (scope_of l.env) l.pieces l.types
