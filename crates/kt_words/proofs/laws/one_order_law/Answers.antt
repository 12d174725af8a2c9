use Rattle.kt_words.proofs.Ordering.{one_order}
use Rattle.kt_words.proofs.laws.one_order_law.Goals as goal

pub returns : goal.returns
returns c program words one other a b = one_order program words one other a b
