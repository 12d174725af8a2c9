use Rattle.kt_typing.specs.Forms.{IsFault}
use Rattle.kt_typing.proofs.Exact.{faultless, first-there, found-first, first-found}
use Rattle.kt_typing.proofs.Firsts.{one-first}
use Rattle.kt_typing.proofs.laws.typing_law.Goals as goal

pub returns-clause-faultless : goal.returns-clause-faultless
returns-clause-faultless c e x f is m = faultless e x is f m

pub returns-clause-faulty : goal.returns-clause-faulty
returns-clause-faulty c = first-there

pub returns-clause-one_first : goal.returns-clause-one_first
returns-clause-one_first c e f g = one-first (IsFault e) f g

pub returns-clause-found : goal.returns-clause-found
returns-clause-found c e f = (found-first e f, first-found e f)
