use Rattle.kt_typing.specs.Rules.{value_beside, chosen}
use Rattle.kt_operands.specs.Views.{environment_of, scope_of, operand_of, value_of, values_of}
use Rattle.kt_operators.proofs.Pairs.{goes_pair}
use Rattle.kt_operators.proofs.choice.chosen_by.Goals as goal

pub returns-in-Ok : goal.returns-in-Ok
returns-in-Ok c =
    let env = environment_of c.args.env.now in
    let s = scope_of c.args.env.now in
    goes_pair values_of operand_of c.args.at (chosen env c.args.at (value_of c.args.test)) (value_beside s (operand_of c.args.a) (operand_of c.args.b)) (value_beside s (operand_of c.args.b) (operand_of c.args.a)) (value_of c.in-Ok.left) (value_of c.in-Ok.right) c.chosen.result c.in-Ok.ensures c.chosen.ensures
