use Rattle.std.proofs.Common.{◌+◌, ◌*◌}
use Rattle.tests_syntax.proofs.print_file.+printing.Given as goal

abbrev pub decreases-before_last : goal.decreases-before_last
decreases-before_last l = 3 * l.left + 2

abbrev pub decreases-block : goal.decreases-block
decreases-block l = 3 * l.left + 2

abbrev pub decreases-part : goal.decreases-part
decreases-part l = 3 * l.left + 1

abbrev pub decreases-repeated : goal.decreases-repeated
decreases-repeated l = 3 * l.left + 2

abbrev pub decreases-statement : goal.decreases-statement
decreases-statement l = 3 * l.left
