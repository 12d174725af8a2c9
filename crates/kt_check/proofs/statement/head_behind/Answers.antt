use Rattle.std.proofs.Common.{map}
use Rattle.std.specs.Option.{option_map}
use Rattle.kt_grammar.specs.Tree.{term_of}
use Rattle.kt_tree.specs.Tree.{expression_of, statement_of}
use Rattle.kt_names.specs.Statements.{here, perhaps, condition}
use Rattle.kt_names.specs.Scopes.{heading_tested, head_of, state_of, body_of}
use Rattle.kt_names.proofs.Parts.{fails, judges-follows}
use Rattle.kt_check.proofs.statement.head_behind.Goals as goal

pub returns-in-Err : goal.returns-in-Err
returns-in-Err c =
    let env = here (body_of c.args.body.now) (state_of c.args.scopes.now) in
    fails (perhaps (condition env) (option_map term_of c.args.tested.now)) (heading_tested env (map statement_of c.args.first) (option_map term_of c.args.stepped.now)) c.in-Err.fault c.in-Err.ensures

pub returns-in-Ok : goal.returns-in-Ok
returns-in-Ok c =
    let env = here (body_of c.args.body.now) (state_of c.args.scopes.now) in
    judges-follows head_of c.head_with.result (perhaps (condition env) (option_map term_of c.args.tested.now)) (heading_tested env (map statement_of c.args.first) (option_map term_of c.args.stepped.now))
    (option_map expression_of c.in-Ok.test) c.in-Ok.ensures c.head_with.ensures
