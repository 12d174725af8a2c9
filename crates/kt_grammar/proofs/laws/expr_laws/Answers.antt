use Rattle.kt_grammar.proofs.Beginnings.{expr_begins}
use Rattle.kt_grammar.proofs.Back.{expr_is_read_back}
use Rattle.kt_grammar.proofs.laws.expr_laws.Goals as goal

pub returns : goal.returns
returns c = record { read_back = expr_is_read_back; begins = expr_begins }
