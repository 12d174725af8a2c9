use Rattle.std.proofs.Common.{◌+◌, ◌*◌, ◌≤◌, [], length, map}
use Rattle.kt_grammar.specs.declared.sign.Sign.TheVariants as signs
use Rattle.kt_grammar.specs.Cursor.{begins_sign, until_at}
use Rattle.kt_syntax.specs.Tree.{statement_of}
use Rattle.kt_syntax.specs.Reading.{blocks, entry_at}
use Rattle.kt_syntax.proofs.Loops.{IsUnderWay}
use Rattle.kt_syntax.proofs.statement.+statements.Given as goal

abbrev pub decreases-block : goal.decreases-block
decreases-block l = 7 * l.depth

abbrev pub decreases-conditional : goal.decreases-conditional
decreases-conditional l = 7 * l.depth + 2

abbrev pub decreases-counted : goal.decreases-counted
decreases-counted l = 7 * l.depth + 1

abbrev pub decreases-entries : goal.decreases-entries
decreases-entries l = 7 * l.depth + 6

abbrev pub decreases-entry : goal.decreases-entry
decreases-entry l = 7 * l.depth + 5

abbrev pub decreases-looped : goal.decreases-looped
decreases-looped l = 7 * l.depth + 1

abbrev pub decreases-otherwise : goal.decreases-otherwise
decreases-otherwise l = 7 * l.depth + 1

abbrev pub decreases-part : goal.decreases-part
decreases-part l = 7 * l.depth

abbrev pub decreases-repeated : goal.decreases-repeated
decreases-repeated l = 7 * l.depth + 1

abbrev pub decreases-statement : goal.decreases-statement
decreases-statement l = 7 * l.depth + 4

abbrev pub decreases-worded : goal.decreases-worded
decreases-worded l = 7 * l.depth + 3

abbrev pub invariant-entries-loop-alloc : goal.invariant-entries-loop-alloc
invariant-entries-loop-alloc l =
    IsUnderWay (until_at (begins_sign signs.CloseBrace) (entry_at l.depth (blocks l.depth))) (until_at (begins_sign signs.CloseBrace) (entry_at l.depth (blocks l.depth)) (length l.symbols) [] l.symbols) (map statement_of l.done) l.rest
    × (length l.rest ≤ length l.symbols)

abbrev pub decreases-entries-loop-alloc : goal.decreases-entries-loop-alloc
decreases-entries-loop-alloc l = length l.rest
