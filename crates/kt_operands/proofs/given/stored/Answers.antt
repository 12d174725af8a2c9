use Rattle.std.proofs.Common.{[], ◌∷◌, refl, sym, ap}
use Rattle.kt_tree.specs.Tree.{expressions_of}
use Rattle.kt_operands.specs.Views.{value_of}
use Rattle.kt_operands.proofs.given.stored.Goals as goal

pub returns : goal.returns
returns c = c.requested_with.ensures (value_of c.args.pointer ∷ value_of c.args.value ∷ []) refl (ap expressions_of (sym c.in_ok-operands.ensures))
