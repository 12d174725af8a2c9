use Rattle.std.proofs.Common.{[], length, map}
use Rattle.kt_grammar.specs.Cursor.{until_at}
use Rattle.kt_syntax.specs.Tree.{external_of}
use Rattle.kt_syntax.specs.Reading.{external_at, is_end}
use Rattle.kt_syntax.proofs.Loops.{IsUnderWay}
use Rattle.kt_syntax.proofs.external.externals.Given as goal

abbrev pub invariant-loop-rest : goal.invariant-loop-rest
invariant-loop-rest l = IsUnderWay (until_at is_end (external_at l.depth)) (until_at is_end (external_at l.depth) (length l.symbols) [] l.symbols) (map external_of l.done) l.rest

abbrev pub decreases-loop-rest : goal.decreases-loop-rest
decreases-loop-rest l = length l.rest
