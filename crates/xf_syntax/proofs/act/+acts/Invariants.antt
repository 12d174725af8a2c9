use Rattle.std.proofs.Common.{◌+◌, ◌*◌, ◌≤◌, [], length}
use Rattle.kt_grammar.specs.declared.sign.Sign.TheVariants as signs
use Rattle.kt_grammar.specs.Cursor.{begins_sign, until_at}
use Rattle.xf_syntax.specs.Reading.{blocks, act_at}
use Rattle.xf_syntax.proofs.Loops.{ActsUnderWay}
use Rattle.xf_syntax.proofs.act.+acts.Given as goal

abbrev pub decreases-block : goal.decreases-block
decreases-block l = 5 * l.depth

abbrev pub decreases-part : goal.decreases-part
decreases-part l = 5 * l.depth

abbrev pub decreases-compound : goal.decreases-compound
decreases-compound l = 5 * l.depth + 1

abbrev pub decreases-otherwise : goal.decreases-otherwise
decreases-otherwise l = 5 * l.depth + 1

abbrev pub decreases-conditional : goal.decreases-conditional
decreases-conditional l = 5 * l.depth + 2

abbrev pub decreases-act : goal.decreases-act
decreases-act l = 5 * l.depth + 3

abbrev pub decreases-acts : goal.decreases-acts
decreases-acts l = 5 * l.depth + 4

abbrev pub invariant-acts-loop-alloc : goal.invariant-acts-loop-alloc
invariant-acts-loop-alloc l =
    ActsUnderWay l.depth (blocks l.depth) (until_at (begins_sign signs.CloseBrace) (act_at l.depth (blocks l.depth)) (length l.symbols) [] l.symbols) l.done l.rest
    × (length l.rest ≤ length l.symbols)

abbrev pub decreases-acts-loop-alloc : goal.decreases-acts-loop-alloc
decreases-acts-loop-alloc l = length l.rest
