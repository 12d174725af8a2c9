use Rattle.kt_typing.specs.Rules.{pointed}
use Rattle.kt_operands.specs.Views.{environment_of, operand_of}
use Rattle.kt_operators.proofs.Parts.{one_stops, one_goes}
use Rattle.kt_operators.proofs.forms.pointed_of.Goals as goal

pub returns-in-Ok : goal.returns-in-Ok
returns-in-Ok c =
    let env = environment_of c.args.env.now in
    one_goes operand_of c.args.at c.args.x (pointed env c.args.at c.args.f.now) c.in-Ok.y c.pointed.result c.in-Ok.is c.pointed.ensures

pub returns-in-Err : goal.returns-in-Err
returns-in-Err c =
    let env = environment_of c.args.env.now in
    one_stops operand_of c.args.at c.args.x (pointed env c.args.at c.args.f.now) c.in-Err.e c.in-Err.is
