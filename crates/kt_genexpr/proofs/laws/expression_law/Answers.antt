use Rattle.kt_meaning.specs.Laws.{numbered}
use Rattle.kt_genexpr.proofs.Expressions.{expressions-do-it, codes-generate}
use Rattle.kt_genexpr.proofs.laws.expression_law.Goals as goal

pub returns-clause-does : goal.returns-clause-does
returns-clause-does c = λ n code. expressions-do-it (numbered c.args.version.now n) c.version_law.ensures.program code

pub returns-clause-generates : goal.returns-clause-generates
returns-clause-generates c = codes-generate c.args.version.now c.version_law.ensures.program
