use Rattle.std.proofs.Common.{◌≤◌, [], length}
use Rattle.kt_grammar.specs.Cursor.{listed_at}
use Rattle.kt_syntax.specs.Reading.{parameter_at}
use Rattle.kt_syntax.proofs.Loops.{IsUnderWay}
use Rattle.kt_syntax.proofs.declarator.parameters.Given as goal

abbrev pub invariant-loop-done : goal.invariant-loop-done
invariant-loop-done l = IsUnderWay (listed_at parameter_at) (listed_at parameter_at (length l.symbols) [] l.symbols) l.done l.rest × (length l.rest ≤ length l.symbols)

abbrev pub decreases-loop-done : goal.decreases-loop-done
decreases-loop-done l = length l.rest
