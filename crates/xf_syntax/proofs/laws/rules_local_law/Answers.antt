use Rattle.xf_syntax.proofs.RulesLocal.{rules_are_local}
use Rattle.xf_syntax.proofs.laws.rules_local_law.Goals as goal

pub returns : goal.returns
returns c = rules_are_local c.expr_local_law.ensures
