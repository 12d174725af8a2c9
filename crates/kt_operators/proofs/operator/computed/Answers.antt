use Rattle.kt_typing.specs.Operands.{value}
use Rattle.kt_typing.specs.Rules.{of_values}
use Rattle.kt_operands.specs.Views.{environment_of, scope_of, operand_of, value_of, values_of}
use Rattle.kt_operators.proofs.Pairs.{goes_pair}
use Rattle.kt_operators.proofs.operator.computed.Goals as goal

pub returns-in-Ok : goal.returns-in-Ok
returns-in-Ok c =
    let env = environment_of c.args.env.now in
    let s = scope_of c.args.env.now in
    goes_pair values_of operand_of c.args.at (of_values env c.args.at c.args.op) (value s (operand_of c.args.a)) (value s (operand_of c.args.b)) (value_of c.in-Ok.left) (value_of c.in-Ok.right) c.of_values.result c.in-Ok.ensures c.of_values.ensures
