use Rattle.kt_expressions.proofs.Lists.{stops-parts, goes-parts}
use Rattle.kt_expressions.proofs.arguments.part_before.Goals as goal

pub returns-in-Ok : goal.returns-in-Ok
returns-in-Ok c w a ps h k = goes-parts w a ps c.args.x c.args.rest c.in-Ok.first c.in-Ok.others c.put_before.result c.in-Ok.ensures (c.put_before.ensures w a ps) h k

pub returns-in-Err : goal.returns-in-Err
returns-in-Err c w a ps h k = stops-parts w a ps c.args.x c.args.rest c.in-Err.e c.in-Err.ensures h k
