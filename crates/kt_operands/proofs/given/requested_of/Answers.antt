use Rattle.std.proofs.Common.{[], ◌∷◌, refl, sym, ap}
use Rattle.kt_tree.specs.Tree.{expressions_of}
use Rattle.kt_operands.specs.Views.{value_of}
use Rattle.kt_operands.proofs.given.requested_of.Goals as goal

pub returns-in-Ok : goal.returns-in-Ok
returns-in-Ok c = c.requested_with.ensures (value_of c.args.a ∷ []) refl (ap expressions_of (sym c.in-Ok.ensures))
