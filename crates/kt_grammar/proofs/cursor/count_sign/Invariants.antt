use Rattle.std.proofs.Common.{◌≡◌, ◌+◌, length}
use Rattle.kt_grammar.specs.Cursor.{count_sign}
use Rattle.kt_grammar.proofs.cursor.count_sign.Given as goal

abbrev pub invariant-loop-rest : goal.invariant-loop-rest
invariant-loop-rest l = (l.count + count_sign l.sign l.rest ≡ count_sign l.sign l.symbols) × (l.count + length l.rest ≡ length l.symbols)

abbrev pub decreases-loop-rest : goal.decreases-loop-rest
decreases-loop-rest l = length l.rest
