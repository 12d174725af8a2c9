use Rattle.std.proofs.Common.{true}
use Rattle.kt_typing.specs.Rules.{changed, step_operator, one}
use Rattle.kt_operands.specs.Views.{environment_of, operand_of}
use Rattle.kt_operators.proofs.Parts.{one_stops, one_goes}
use Rattle.kt_operators.proofs.forms.stepped_of.Goals as goal

pub returns-in-Ok : goal.returns-in-Ok
returns-in-Ok c =
    let env = environment_of c.args.env.now in
    one_goes operand_of c.args.at c.args.x (λ x. changed env c.args.at true (step_operator c.args.op) x one) c.in-Ok.y c.stepped.result c.in-Ok.is c.stepped.ensures

pub returns-in-Err : goal.returns-in-Err
returns-in-Err c =
    let env = environment_of c.args.env.now in
    one_stops operand_of c.args.at c.args.x (λ x. changed env c.args.at true (step_operator c.args.op) x one) c.in-Err.e c.in-Err.is
