use Rattle.kt_meaning.specs.Laws.{numbered}
use Rattle.kt_codegen.proofs.Statements.{statements-do}
use Rattle.kt_codegen.proofs.laws.statement_law.Goals as goal

pub returns : goal.returns
returns c = λ n code. statements-do (numbered c.args.version.now n) code (c.expression_law.ensures.does n code)
