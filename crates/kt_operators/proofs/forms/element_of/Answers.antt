use Rattle.std.proofs.Common.{sym}
use Rattle.kt_typing.specs.Rules.{element}
use Rattle.kt_operands.specs.Views.{environment_of, operand_of}
use Rattle.kt_operators.proofs.Parts.{two_stops, two_goes}
use Rattle.kt_operators.proofs.forms.element_of.Goals as goal

pub returns-in-Ok : goal.returns-in-Ok
returns-in-Ok c =
    let env = environment_of c.args.env.now in
    two_goes operand_of c.args.at c.args.a c.args.i (element env c.args.at) c.in-Ok.left c.in-Ok.right c.element.result (sym c.in-Ok.ensures) c.element.ensures

pub returns-in-Err : goal.returns-in-Err
returns-in-Err c =
    let env = environment_of c.args.env.now in
    two_stops operand_of c.args.at c.args.a c.args.i (element env c.args.at) c.in-Err.e (sym c.in-Err.ensures)
