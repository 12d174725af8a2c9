use Rattle.std.proofs.Common.{Ok}
use Rattle.kt_tree.specs.Tree.{Evaluated, LocalSet, statement_of, expression_of}
use Rattle.kt_names.specs.Operands.{convert}
use Rattle.kt_names.specs.Views.{environment_of, operand_of}
use Rattle.kt_names.proofs.Parts.{fails, judges-follows}
use Rattle.kt_check.proofs.local.initialised_by.Goals as goal

pub returns-in-Err : goal.returns-in-Err
returns-in-Err c =
    let env = environment_of c.args.env.now in
    let s = convert env c.args.local.1 c.args.own c.args.up (operand_of c.args.operand) in
    fails s (λ v. Ok (Evaluated (LocalSet c.args.local.0 v))) c.in-Err.fault c.in-Err.ensures

pub returns-in-Ok : goal.returns-in-Ok
returns-in-Ok c =
    let env = environment_of c.args.env.now in
    let s = convert env c.args.local.1 c.args.own c.args.up (operand_of c.args.operand) in
    judges-follows statement_of c.local_taken.result s (λ v. Ok (Evaluated (LocalSet c.args.local.0 v))) (expression_of c.in-Ok.value) c.in-Ok.ensures c.local_taken.ensures
