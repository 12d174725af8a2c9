use Rattle.kt_grammar.specs.Tree.{term_of}
use Rattle.kt_tree.specs.Tree.{expression_of}
use Rattle.kt_names.specs.Scopes.{scalar_of}
use Rattle.kt_names.specs.Terms.{typing, first_token}
use Rattle.kt_names.specs.Views.{environment_of, operand_of}
use Rattle.kt_names.proofs.Parts.{fails, judges-follows}
use Rattle.kt_check.proofs.part.condition_in.Goals as goal

pub returns-in-Err : goal.returns-in-Err
returns-in-Err c =
    let env = environment_of c.args.env.now in
    let e = term_of c.args.e.now in
    fails (typing env e) (scalar_of env (first_token e)) c.in-Err.fault c.in-Err.ensures

pub returns-in-Ok : goal.returns-in-Ok
returns-in-Ok c =
    let env = environment_of c.args.env.now in
    let e = term_of c.args.e.now in
    judges-follows expression_of c.scalar_of.result (typing env e) (scalar_of env (first_token e)) (operand_of c.in-Ok.operand) c.in-Ok.ensures (rw c.first_token-at.ensures at c.scalar_of.ensures)
