use Rattle.kt_names.proofs.Nodes.{operated-by}
use Rattle.kt_names.proofs.node.operated.Goals as goal

pub returns : goal.returns
returns c = operated-by c.args.operation c.args.ty _ _ c.in_ok-operands.ensures
