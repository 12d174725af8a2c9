use Rattle.std.proofs.Common.{◌≡◌, ◌++◌, map, drop}
use Rattle.kt_sched.specs.GeneratedJob.{joined}
use Rattle.kt_sched.proofs.generated.joined.Given as goal

-- with the rest of the pieces it is all of them
abbrev pub invariant-loop-piece : goal.invariant-loop-piece
invariant-loop-piece l = l.text.items ++ joined (map (λ piece. piece.now) (drop l.piece-index l.pieces)) ≡ joined (map (λ piece. piece.now) l.pieces)
