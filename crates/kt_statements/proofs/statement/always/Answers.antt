use Rattle.kt_statements.specs.Judged.{tree_made}
use Rattle.kt_statements.proofs.Judged.{always-faulty}
use Rattle.kt_statements.proofs.statement.always.Goals as goal

pub returns-in-Ok : goal.returns-in-Ok
returns-in-Ok c j h = always-faulty tree_made c.args.fault j c.args.e h c.in-Ok.tree c.in-Ok.is
