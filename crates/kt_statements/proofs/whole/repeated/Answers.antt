use Rattle.kt_statements.specs.Judged.{tree_made, lines_made}
use Rattle.kt_statements.proofs.Judged.{two-faulty}
use Rattle.kt_statements.proofs.whole.repeated.Goals as goal

pub returns-in-Err : goal.returns-in-Err
returns-in-Err c j k x y = two-faulty lines_made tree_made j k c.args.a c.args.test x y c.both.result c.both.ensures c.in-Err.f c.in-Err.is
