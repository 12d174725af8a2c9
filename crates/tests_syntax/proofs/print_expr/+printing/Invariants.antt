use Rattle.std.proofs.Common.{◌+◌, ◌*◌}
use Rattle.tests_syntax.proofs.print_expr.+printing.Given as goal

abbrev pub decreases-arguments : goal.decreases-arguments
decreases-arguments l = 4 * l.left + 2

abbrev pub decreases-part : goal.decreases-part
decreases-part l = 4 * l.left + 1

abbrev pub decreases-parts : goal.decreases-parts
decreases-parts l = 4 * l.left + 3

abbrev pub decreases-written : goal.decreases-written
decreases-written l = 4 * l.left
