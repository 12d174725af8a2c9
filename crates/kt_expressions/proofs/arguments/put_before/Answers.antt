use Rattle.kt_expressions.proofs.Lists.{one-more}
use Rattle.kt_expressions.proofs.arguments.put_before.Goals as goal

pub returns : goal.returns
returns c w a ps h k = one-more w a ps c.args.x c.args.rest c.push.new.self c.in_ok-push.ensures.items h k
