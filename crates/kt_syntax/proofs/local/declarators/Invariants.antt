use Rattle.std.proofs.Common.{◌≤◌, [], length, map}
use Rattle.kt_grammar.specs.Cursor.{listed_at}
use Rattle.kt_syntax.specs.Reading.{local_at}
use Rattle.kt_syntax.specs.Tree.{local_of}
use Rattle.kt_syntax.proofs.Loops.{IsUnderWay}
use Rattle.kt_syntax.proofs.local.declarators.Given as goal

abbrev pub invariant-loop-done : goal.invariant-loop-done
invariant-loop-done l = IsUnderWay (listed_at (local_at l.depth)) (listed_at (local_at l.depth) (length l.symbols) [] l.symbols) (map local_of l.done) l.rest × (length l.rest ≤ length l.symbols)

abbrev pub decreases-loop-done : goal.decreases-loop-done
decreases-loop-done l = length l.rest
