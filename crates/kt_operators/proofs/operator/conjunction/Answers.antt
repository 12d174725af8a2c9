use Rattle.kt_tree.specs.Tree.{Both}
use Rattle.kt_typing.specs.Operands.{scalar}
use Rattle.kt_typing.specs.Rules.{logical}
use Rattle.kt_operands.specs.Views.{environment_of, scope_of, operand_of, value_of, values_of}
use Rattle.kt_operators.proofs.Pairs.{goes_pair}
use Rattle.kt_operators.proofs.operator.conjunction.Goals as goal

pub returns-in-Ok : goal.returns-in-Ok
returns-in-Ok c =
    let env = environment_of c.args.env.now in
    let s = scope_of c.args.env.now in
    goes_pair values_of operand_of c.args.at (logical env c.args.at Both) (scalar s (operand_of c.args.a)) (scalar s (operand_of c.args.b)) (value_of c.in-Ok.left) (value_of c.in-Ok.right) c.both_hold.result c.in-Ok.ensures c.both_hold.ensures
