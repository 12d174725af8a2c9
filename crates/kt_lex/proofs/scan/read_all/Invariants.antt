use Rattle.std.proofs.Common.{length}
use Rattle.kt_lex.proofs.Reading.{IsRead}
use Rattle.kt_lex.proofs.scan.read_all.Given as goal

abbrev pub invariant-loop-rest : goal.invariant-loop-rest
invariant-loop-rest l = IsRead l.bytes l.place l.tokens.items l.rest

abbrev pub decreases-loop-rest : goal.decreases-loop-rest
decreases-loop-rest l = length l.rest
