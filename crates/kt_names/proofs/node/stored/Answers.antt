use Rattle.std.proofs.Common.{Some}
use Rattle.kt_tree.specs.declared.expr.Request.TheVariants as request
use Rattle.kt_names.proofs.Nodes.{requested-by}
use Rattle.kt_names.proofs.node.stored.Goals as goal

pub returns : goal.returns
returns c = requested-by request.Store (Some c.args.ty) _ _ c.in_ok-operands.ensures
