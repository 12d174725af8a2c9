use Rattle.std.proofs.Common.{◌≤◌, length, map}
use Rattle.kt_grammar.specs.Tree.{term_of}
use Rattle.kt_operands.specs.Views.{environment_of}
use Rattle.kt_operators.specs.Judged.{JudgesParts}
use Rattle.kt_expressions.specs.Arguments.{turned_operands, parts_behind}
use Rattle.kt_expressions.proofs.expression.+expressions.Given as goal

abbrev pub decreases-arguments-loop-i : goal.decreases-arguments-loop-i
decreases-arguments-loop-i l = l.i

abbrev pub invariant-arguments-loop-i : goal.invariant-arguments-loop-i
invariant-arguments-loop-i l =
    (l.from ≤ l.i) × (l.i ≤ length l.items) × JudgesParts turned_operands (parts_behind (environment_of l.env) l.call l.i (map term_of l.items)) l.done
