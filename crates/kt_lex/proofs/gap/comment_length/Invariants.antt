use Rattle.std.proofs.Common.{◌≡◌, drop}
use Rattle.kt_lex.specs.Gaps.{comment_length}
use Rattle.kt_lex.proofs.Scans.{shifted}
use Rattle.kt_lex.proofs.gap.comment_length.Given as goal

-- the first `*/` is the first one behind the bytes that were passed
abbrev pub invariant-loop-at : goal.invariant-loop-at
invariant-loop-at l = comment_length l.bytes ≡ shifted l.at (comment_length (drop l.at l.bytes))
