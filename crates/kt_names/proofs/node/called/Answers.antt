use Rattle.kt_names.proofs.Nodes.{called-is}
use Rattle.kt_names.proofs.node.called.Goals as goal

pub returns : goal.returns
returns c = called-is c.args.function c.args.arguments
