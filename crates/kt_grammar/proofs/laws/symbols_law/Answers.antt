use Rattle.kt_grammar.proofs.Known.{tokens_known}
use Rattle.kt_grammar.proofs.laws.symbols_law.Goals as goal

pub returns : goal.returns
returns c = tokens_known c.cut_law.ensures.cut
