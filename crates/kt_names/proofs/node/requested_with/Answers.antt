use Rattle.kt_names.proofs.Nodes.{requested-is}
use Rattle.kt_names.proofs.node.requested_with.Goals as goal

pub returns : goal.returns
returns c = requested-is c.args.request c.args.ty c.args.operands
