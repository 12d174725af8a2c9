use Rattle.std.proofs.Common.{IfOk, subst}
use Rattle.kt_grammar.specs.Tree.{term_of}
use Rattle.kt_typing.specs.Environment.{Environment}
use Rattle.kt_typing.specs.Terms.{condition}
use Rattle.kt_operands.specs.Views.{environment_of}
use Rattle.kt_program.specs.Judgments.{Expressed}
use Rattle.kt_statements.specs.Judged.{Judges, tree_made}
use Rattle.kt_statements.proofs.part.condition.Goals as goal

pub returns : goal.returns
returns c =
    subst (λ (env : Environment). IfOk c.told.result (λ r. Judges tree_made (Expressed (condition env (term_of c.args.e.now))) r)) c.here-env.ensures
    (c.told.ensures (condition (environment_of c.here-env.result) (term_of c.args.e.now)) c.condition.ensures)
