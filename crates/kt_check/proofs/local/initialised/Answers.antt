use Rattle.std.proofs.Common.{Ok, ap}
use Rattle.kt_grammar.specs.Tree.{term_of}
use Rattle.kt_tree.specs.Tree.{Evaluated, LocalSet, statement_of}
use Rattle.kt_names.specs.Checked.{and_then}
use Rattle.kt_names.specs.Operands.{Operand, convert}
use Rattle.kt_names.specs.Terms.{typing, first_token}
use Rattle.kt_names.specs.Views.{environment_of, operand_of}
use Rattle.kt_names.proofs.Parts.{fails, judges-follows}
use Rattle.kt_check.proofs.local.initialised.Goals as goal

pub returns-in-Err : goal.returns-in-Err
returns-in-Err c =
    let env = environment_of c.args.env.now in
    let e = term_of c.args.e.now in
    fails (typing env e) (λ (o : Operand). and_then (convert env c.args.local.1 (first_token e) c.args.up o) (λ v. Ok (Evaluated (LocalSet c.args.local.0 v)))) c.in-Err.fault c.in-Err.ensures

pub returns-in-Ok : goal.returns-in-Ok
returns-in-Ok c =
    let env = environment_of c.args.env.now in
    let e = term_of c.args.e.now in
    judges-follows statement_of c.initialised_by.result (typing env e)
    (λ (o : Operand). and_then (convert env c.args.local.1 (first_token e) c.args.up o) (λ v. Ok (Evaluated (LocalSet c.args.local.0 v))))
    (operand_of c.in-Ok.operand) c.in-Ok.ensures (rw c.first_token-own.ensures at c.initialised_by.ensures)
