use Rattle.std.proofs.Common.{◌≡◌, ◌++◌, drop}
use Rattle.kt_terms.specs.Arguments.{wanted_by}
use Rattle.kt_terms.proofs.printf.wanted_by.Given as goal

abbrev pub invariant-loop-piece : goal.invariant-loop-piece
invariant-loop-piece l = l.wanted ++ wanted_by (drop l.piece-index l.pieces) ≡ wanted_by l.pieces
