use Rattle.std.proofs.Common.{Some, [], ◌∷◌}
use Rattle.kt_tree.specs.declared.expr.Request.TheVariants as request
use Rattle.kt_tree.specs.Kinds.{int_type}
use Rattle.kt_typing.specs.Rules.{convert, requested}
use Rattle.kt_operands.specs.Views.{environment_of, scope_of, operand_of, value_of}
use Rattle.kt_operators.proofs.Steps.{stops_value, goes_value}
use Rattle.kt_calls.proofs.thread.begun_at.Goals as goal

pub returns-in-Ok : goal.returns-in-Ok
returns-in-Ok c =
    let env = environment_of c.args.env.now in
    goes_value operand_of c.args.at (λ v. requested env c.args.at (request.Create c.args.function) (Some int_type) (v ∷ [])) (convert (scope_of c.args.env.now) c.args.ty (operand_of c.args.y)) (value_of c.in-Ok.value) c.requested_of.result c.in-Ok.ensures c.requested_of.ensures

pub returns-in-Err : goal.returns-in-Err
returns-in-Err c =
    let env = environment_of c.args.env.now in
    stops_value value_of operand_of c.args.at (λ v. requested env c.args.at (request.Create c.args.function) (Some int_type) (v ∷ [])) (convert (scope_of c.args.env.now) c.args.ty (operand_of c.args.y)) c.in-Err.e c.in-Err.ensures
