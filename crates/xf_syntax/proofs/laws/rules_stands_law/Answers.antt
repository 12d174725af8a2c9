use Rattle.xf_syntax.proofs.RuleStands.{rules_stand}
use Rattle.xf_syntax.proofs.laws.rules_stands_law.Goals as goal

pub returns : goal.returns
returns c = rules_stand c.expr_stands_law.ensures
