use Rattle.std.proofs.Common.{Ok, Some}
use Rattle.kt_tree.specs.declared.expr.Request.TheVariants as request
use Rattle.kt_tree.specs.Tree.{Requested, More, NoMore, expression_of}
use Rattle.kt_names.specs.Operands.{Valued, convert}
use Rattle.kt_names.specs.Views.{environment_of, operand_of}
use Rattle.kt_names.proofs.Parts.{fails}
use Rattle.kt_terms.proofs.assign.assign_cell.Goals as goal

pub returns-in-Err : goal.returns-in-Err
returns-in-Err c =
    let env = environment_of c.args.env.now in
    let t = c.args.p.ty in
    fails (convert env t c.args.right c.args.at (operand_of c.args.e))
    (λ v. Ok (Valued t (Requested request.Store (Some (env.place t)) (More (expression_of c.args.p.expression) (More v NoMore))))) c.in-Err.fault c.in-Err.ensures
