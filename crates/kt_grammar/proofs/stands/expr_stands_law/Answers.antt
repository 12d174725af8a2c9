use Rattle.kt_grammar.proofs.ExprStands.{expr_stands}
use Rattle.kt_grammar.proofs.stands.expr_stands_law.Goals as goal

pub returns : goal.returns
returns c = expr_stands
