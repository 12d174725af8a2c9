use Rattle.kt_typing.specs.Rules.{value_beside, of_values}
use Rattle.kt_operands.specs.Views.{environment_of, scope_of, operand_of, value_of, values_of}
use Rattle.kt_operators.proofs.Pairs.{goes_pair}
use Rattle.kt_operators.proofs.operator.compared.Goals as goal

pub returns-in-Ok : goal.returns-in-Ok
returns-in-Ok c =
    let env = environment_of c.args.env.now in
    let s = scope_of c.args.env.now in
    goes_pair values_of operand_of c.args.at (of_values env c.args.at c.args.op) (value_beside s (operand_of c.args.a) (operand_of c.args.b)) (value_beside s (operand_of c.args.b) (operand_of c.args.a)) (value_of c.in-Ok.left) (value_of c.in-Ok.right) c.of_values.result c.in-Ok.ensures c.of_values.ensures
