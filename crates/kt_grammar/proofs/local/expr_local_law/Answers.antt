use Rattle.kt_grammar.proofs.ExprLocal.{expr_is_local}
use Rattle.kt_grammar.proofs.local.expr_local_law.Goals as goal

pub returns : goal.returns
returns c = expr_is_local
