use Rattle.kt_meaning.specs.Laws.{numbered}
use Rattle.kt_genexpr.proofs.Exact.{exact}
use Rattle.kt_genexpr.proofs.laws.exact_law.Goals as goal

pub returns : goal.returns
returns c = λ n code. exact (numbered c.args.version.now n) code
