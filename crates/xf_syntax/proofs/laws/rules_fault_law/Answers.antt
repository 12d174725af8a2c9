use Rattle.xf_syntax.proofs.RuleFaults.{rules_break}
use Rattle.xf_syntax.proofs.laws.rules_fault_law.Goals as goal

pub returns : goal.returns
returns c = rules_break c.expr_stands_law.ensures c.expr_fault_law.ensures c.expr_goes_on_law.ensures
