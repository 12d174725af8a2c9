use Rattle.std.proofs.Common.{◌+◌, ◌*◌, length}
use Rattle.kt_grammar.proofs.Loops.{IsClimbed, IsChained, IsPostfixed, IsListed}
use Rattle.kt_grammar.proofs.+expressions.Given as goal

abbrev pub decreases-levels::deep : goal.decreases-levels::deep
decreases-levels::deep l = 16 * l.depth

abbrev pub decreases-unary::arguments : goal.decreases-unary::arguments
decreases-unary::arguments l = 16 * l.depth + 1

abbrev pub decreases-postfix::once : goal.decreases-postfix::once
decreases-postfix::once l = 16 * l.depth + 1

abbrev pub decreases-levels::assignment : goal.decreases-levels::assignment
decreases-levels::assignment l = 16 * l.depth + 1

abbrev pub decreases-levels::choice : goal.decreases-levels::choice
decreases-levels::choice l = 16 * l.depth + 1

abbrev pub decreases-levels::chain : goal.decreases-levels::chain
decreases-levels::chain l = 16 * l.depth + 1

abbrev pub decreases-postfix::postfix : goal.decreases-postfix::postfix
decreases-postfix::postfix l = 16 * l.depth + 2

abbrev pub decreases-unary::behind_head : goal.decreases-unary::behind_head
decreases-unary::behind_head l = 16 * l.depth + 3

abbrev pub decreases-unary::unary : goal.decreases-unary::unary
decreases-unary::unary l = 16 * l.depth + 4

abbrev pub decreases-levels::tail : goal.decreases-levels::tail
decreases-levels::tail l = 16 * l.depth + 5

abbrev pub decreases-levels::level : goal.decreases-levels::level
decreases-levels::level l = 16 * l.depth + 6

abbrev pub decreases-unary::listed : goal.decreases-unary::listed
decreases-unary::listed l = 16 * l.depth + 7

abbrev pub invariant-levels::level-loop-above : goal.invariant-levels::level-loop-above
invariant-levels::level-loop-above l = IsClimbed l.dialect l.depth l.least l.above l.x l.rest l.symbols

abbrev pub decreases-levels::level-loop-above : goal.decreases-levels::level-loop-above
decreases-levels::level-loop-above l = l.above

abbrev pub invariant-levels::chain-loop-operator : goal.invariant-levels::chain-loop-operator
invariant-levels::chain-loop-operator l = IsChained l.dialect l.level_of l.depth l.x l.rest l.fn.depth l.fn.x l.symbols

abbrev pub decreases-levels::chain-loop-operator : goal.decreases-levels::chain-loop-operator
decreases-levels::chain-loop-operator l = l.depth

abbrev pub invariant-postfix::postfix-loop-operator : goal.invariant-postfix::postfix-loop-operator
invariant-postfix::postfix-loop-operator l = IsPostfixed l.dialect l.depth l.x l.rest l.fn.depth l.fn.x l.symbols

abbrev pub decreases-postfix::postfix-loop-operator : goal.decreases-postfix::postfix-loop-operator
decreases-postfix::postfix-loop-operator l = l.depth

abbrev pub invariant-unary::listed-loop-items : goal.invariant-unary::listed-loop-items
invariant-unary::listed-loop-items l = IsListed l.dialect l.depth l.items l.rest l.symbols

abbrev pub decreases-unary::listed-loop-items : goal.decreases-unary::listed-loop-items
decreases-unary::listed-loop-items l = length l.rest
