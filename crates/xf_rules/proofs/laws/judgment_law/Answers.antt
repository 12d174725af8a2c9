use Rattle.kt_typing.proofs.Firsts.{one-first}
use Rattle.xf_rules.specs.Judgments.{IsWrong}
use Rattle.xf_rules.proofs.Exact.{right, first-there, found-first, first-found}
use Rattle.xf_rules.proofs.laws.judgment_law.Goals as goal

pub returns-clause-right : goal.returns-clause-right
returns-clause-right c = right

pub returns-clause-wrong : goal.returns-clause-wrong
returns-clause-wrong c = first-there

pub returns-clause-one_first : goal.returns-clause-one_first
returns-clause-one_first c j f g = one-first (IsWrong j) f g

pub returns-clause-found : goal.returns-clause-found
returns-clause-found c j f = (found-first j f, first-found j f)
