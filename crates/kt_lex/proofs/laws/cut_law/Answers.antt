use Rattle.kt_lex.proofs.Cuts.{tokens_are_cut}
use Rattle.kt_lex.proofs.Exactly.{cuts_are_tokens}
use Rattle.kt_lex.proofs.laws.cut_law.Goals as goal

pub returns : goal.returns
returns c = record { cut = tokens_are_cut; exact = cuts_are_tokens }
