use Rattle.kt_statements.specs.Judged.{tree_made, lines_made}
use Rattle.kt_statements.proofs.Judged.{three-faulty}
use Rattle.kt_statements.proofs.whole.if_else.Goals as goal

pub returns-in-Err : goal.returns-in-Err
returns-in-Err c j k l x y z =
    three-faulty tree_made lines_made lines_made j k l c.args.test c.args.a c.args.b x y z c.both.result c.both-2.result c.both.ensures c.both-2.ensures c.in-Err.f c.in-Err.is
