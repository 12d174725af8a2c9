use Rattle.std.proofs.Common.{Ok, sym, ap}
use Rattle.kt_typing.specs.Operands.{valued}
use Rattle.kt_typing.specs.Rules.{convert}
use Rattle.kt_operands.specs.Views.{scope_of, operand_of, value_of}
use Rattle.kt_operators.proofs.Steps.{stops_value, goes_value}
use Rattle.kt_expressions.proofs.statement.converted_to.Goals as goal

pub returns-in-Ok : goal.returns-in-Ok
returns-in-Ok c =
    goes_value operand_of c.args.at (λ v. Ok (valued c.args.at v.ty v.tree)) (convert (scope_of c.args.env.now) c.args.ty (operand_of c.args.x)) (value_of c.in-Ok.value) (Ok c.valued.result)
    c.in-Ok.ensures (ap Ok (sym c.valued.ensures))

pub returns-in-Err : goal.returns-in-Err
returns-in-Err c =
    stops_value value_of operand_of c.args.at (λ v. Ok (valued c.args.at v.ty v.tree)) (convert (scope_of c.args.env.now) c.args.ty (operand_of c.args.x)) c.in-Err.e c.in-Err.ensures
