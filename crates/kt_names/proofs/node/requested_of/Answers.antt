use Rattle.kt_names.proofs.Nodes.{requested-by}
use Rattle.kt_names.proofs.node.requested_of.Goals as goal

pub returns-in-Ok : goal.returns-in-Ok
returns-in-Ok c = requested-by c.args.request c.args.ty _ _ c.in-Ok.ensures
