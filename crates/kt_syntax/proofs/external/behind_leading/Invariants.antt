use Rattle.std.proofs.Common.{◌≡◌, ◌≤◌, length, drop}
use Rattle.kt_syntax.specs.Reading.{count_leading}
use Rattle.kt_syntax.proofs.external.behind_leading.Given as goal

abbrev pub invariant-loop-rest : goal.invariant-loop-rest
invariant-loop-rest l = (drop (count_leading l.rest) l.rest ≡ drop (count_leading l.symbols) l.symbols) × (length l.rest ≤ length l.symbols)

abbrev pub decreases-loop-rest : goal.decreases-loop-rest
decreases-loop-rest l = length l.rest
