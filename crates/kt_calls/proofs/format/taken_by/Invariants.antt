use Rattle.std.proofs.Common.{◌≡◌, ◌+◌, ◌≤◌, drop}
use Rattle.kt_typing.specs.Formats.{taken_by}
use Rattle.kt_calls.proofs.format.taken_by.Given as goal

abbrev pub invariant-loop-piece : goal.invariant-loop-piece
invariant-loop-piece l = (l.taken + taken_by (drop l.piece-index l.pieces) ≡ taken_by l.pieces) × (l.taken ≤ l.piece-index)
