use Rattle.kt_types.proofs.Fixed.{is_fixed}
use Rattle.kt_types.proofs.table.layout_law.Goals as goal

pub returns : goal.returns
returns c = is_fixed c.table.inside c.args.table.now c.table.view_is c.table.invariant c.args.ty
