use Rattle.kt_statements.specs.Judged.{option_made, lines_made}
use Rattle.kt_statements.proofs.Judged.{four-faulty, four-right, for-made}
use Rattle.kt_statements.proofs.whole.for_loop.Goals as goal

pub returns-in_ok-for_loop-in-Ok : goal.returns-in_ok-for_loop-in-Ok
returns-in_ok-for_loop-in-Ok c j k l m x y z w =
    for-made c.in-Ok.parts _ (four-right lines_made option_made option_made lines_made j k l m c.args.first c.args.test c.args.step c.args.a x y z w
    c.both.result c.both-2.result c.both-3.result c.both.ensures c.both-2.ensures c.both-3.ensures c.in-Ok.parts c.in-Ok.is) c.in_ok-for_loop-in-Ok.field-0 c.in_ok-for_loop-in-Ok.ensures

pub returns-in-Err : goal.returns-in-Err
returns-in-Err c j k l m x y z w =
    four-faulty lines_made option_made option_made lines_made j k l m c.args.first c.args.test c.args.step c.args.a x y z w
    c.both.result c.both-2.result c.both-3.result c.both.ensures c.both-2.ensures c.both-3.ensures c.in-Err.f c.in-Err.is
