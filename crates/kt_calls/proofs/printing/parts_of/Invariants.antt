use Rattle.std.proofs.Common.{◌≡◌, ◌++◌, [], drop}
use Rattle.kt_typing.specs.Formats.{parts_of}
use Rattle.kt_calls.proofs.printing.parts_of.Given as goal

abbrev pub invariant-loop-piece : goal.invariant-loop-piece
invariant-loop-piece l = l.writing.parts ++ parts_of l.writing.plain (drop l.piece-index l.pieces) ≡ parts_of [] l.pieces
