use Rattle.std.proofs.Common.{◌≡◌, ◌++◌, [], drop}
use Rattle.kt_names.specs.Builtins.{parts_of}
use Rattle.kt_terms.proofs.printf.parts_of.Given as goal

abbrev pub invariant-loop-piece : goal.invariant-loop-piece
invariant-loop-piece l = l.writing.parts ++ parts_of l.writing.plain (drop l.piece-index l.pieces) ≡ parts_of [] l.pieces
