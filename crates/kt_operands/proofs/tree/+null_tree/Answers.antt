use Rattle.kt_operands.proofs.Trees.{null_other, null_chosen}
use Rattle.kt_operands.proofs.tree.+null_tree.Goals as goal

pub returns-in_ok-other-in-Choice : goal.returns-in_ok-other-in-Choice
returns-in_ok-other-in-Choice t c =
    null_chosen c.chosen.result c.args.ty c.args.tree c.in-Choice.test c.in-Choice.field-1 c.in-Choice.one c.in-Choice.other c.in_ok-one-in-Choice.one c.in_ok-other-in-Choice.other c.in-Choice.ensures c.in_ok-one-in-Choice.ensures c.in_ok-other-in-Choice.ensures
    c.chosen.ensures

pub returns-in_default : goal.returns-in_default
returns-in_default t c = null_other c.constant.result c.args.ty c.args.tree c.into_inner.result c.into_inner.ensures c.in_default.not-Choice c.constant.ensures
