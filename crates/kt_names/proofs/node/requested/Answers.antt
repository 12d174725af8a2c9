use Rattle.kt_names.proofs.Nodes.{requested-by}
use Rattle.kt_names.proofs.node.requested.Goals as goal

pub returns : goal.returns
returns c = requested-by c.args.request c.args.ty _ _ c.new.ensures
