use Rattle.kt_lex.proofs.Signs.{is_longest_sign}
use Rattle.kt_lex.proofs.laws.longest_sign_law.Goals as goal

pub returns : goal.returns
returns c = is_longest_sign
