use Rattle.kt_statements.specs.Judged.{tree_made, lines_made}
use Rattle.kt_statements.proofs.Judged.{two-faulty}
use Rattle.kt_statements.proofs.whole.if_alone.Goals as goal

pub returns-in-Err : goal.returns-in-Err
returns-in-Err c j k x y = two-faulty tree_made lines_made j k c.args.test c.args.a x y c.both.result c.both.ensures c.in-Err.f c.in-Err.is
