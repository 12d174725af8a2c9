use Rattle.kt_grammar.proofs.ExprFaults.{expr_goes_on}
use Rattle.kt_grammar.proofs.stands.expr_goes_on_law.Goals as goal

pub returns : goal.returns
returns c = expr_goes_on
