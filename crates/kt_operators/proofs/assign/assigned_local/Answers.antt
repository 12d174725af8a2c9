use Rattle.std.proofs.Common.{false}
use Rattle.kt_typing.specs.Rules.{convert, set_local}
use Rattle.kt_operands.specs.Views.{environment_of, scope_of, operand_of, value_of}
use Rattle.kt_operators.proofs.Steps.{stops_value, goes_value}
use Rattle.kt_operators.proofs.assign.assigned_local.Goals as goal

pub returns-in-Ok : goal.returns-in-Ok
returns-in-Ok c =
    let env = environment_of c.args.env.now in
    let s = scope_of c.args.env.now in
    goes_value operand_of c.args.at (set_local env c.args.at false c.args.local) (convert s c.args.ty (operand_of c.args.y)) (value_of c.in-Ok.value) c.set_local.result c.in-Ok.ensures c.set_local.ensures

pub returns-in-Err : goal.returns-in-Err
returns-in-Err c =
    let env = environment_of c.args.env.now in
    let s = scope_of c.args.env.now in
    stops_value value_of operand_of c.args.at (set_local env c.args.at false c.args.local) (convert s c.args.ty (operand_of c.args.y)) c.in-Err.e c.in-Err.ensures
