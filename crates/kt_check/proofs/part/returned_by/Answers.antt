use Rattle.std.proofs.Common.{Ok, Some}
use Rattle.kt_tree.specs.Tree.{Expression, Returned, expression_of}
use Rattle.kt_names.specs.Operands.{convert}
use Rattle.kt_names.specs.Views.{environment_of, operand_of}
use Rattle.kt_names.proofs.Parts.{fails, follows}
use Rattle.kt_check.proofs.part.returned_by.Goals as goal

pub returns-in-Err : goal.returns-in-Err
returns-in-Err c =
    fails (convert (environment_of c.args.env.now) c.args.t c.args.at c.args.at (operand_of c.args.operand)) (λ (v : Expression). Ok (Returned (Some v))) c.in-Err.fault c.in-Err.ensures

pub returns-in-Ok : goal.returns-in-Ok
returns-in-Ok c =
    follows (convert (environment_of c.args.env.now) c.args.t c.args.at c.args.at (operand_of c.args.operand)) (λ (v : Expression). Ok (Returned (Some v))) (expression_of c.in-Ok.value) c.in-Ok.ensures
