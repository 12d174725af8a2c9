use Rattle.kt_grammar.proofs.ExprFaults.{expr_fault_stands}
use Rattle.kt_grammar.proofs.stands.expr_fault_law.Goals as goal

pub returns : goal.returns
returns c = expr_fault_stands
