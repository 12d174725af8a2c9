use Rattle.std.proofs.Common.{[], refl, sym, ap}
use Rattle.kt_tree.specs.Tree.{expressions_of}
use Rattle.kt_operands.proofs.given.requested.Goals as goal

pub returns : goal.returns
returns c = c.requested_with.ensures [] refl (ap expressions_of (sym c.new.ensures))
