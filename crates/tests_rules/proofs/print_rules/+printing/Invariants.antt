use Rattle.std.proofs.Common.{◌+◌, ◌*◌}
use Rattle.tests_rules.proofs.print_rules.+printing.Given as goal

abbrev pub decreases-act : goal.decreases-act
decreases-act l = 2 * l.left

abbrev pub decreases-acts : goal.decreases-acts
decreases-acts l = 2 * l.left + 1
