use Rattle.std.proofs.Common.{map}
use Rattle.std.specs.Option.{option_map}
use Rattle.kt_grammar.specs.Tree.{term_of}
use Rattle.kt_tree.specs.Tree.{expression_of, statement_of}
use Rattle.kt_names.specs.Statements.{here, perhaps, effect_of}
use Rattle.kt_names.specs.Scopes.{heading, state_of, body_of}
use Rattle.kt_names.proofs.Parts.{fails, follows}
use Rattle.kt_check.proofs.statement.head_with.Goals as goal

pub returns-in-Err : goal.returns-in-Err
returns-in-Err c =
    fails (perhaps (effect_of (here (body_of c.args.body.now) (state_of c.args.scopes.now))) (option_map term_of c.args.e.now))
    (heading (map statement_of c.args.first) (option_map expression_of c.args.test)) c.in-Err.fault c.in-Err.ensures

pub returns-in-Ok : goal.returns-in-Ok
returns-in-Ok c =
    follows (perhaps (effect_of (here (body_of c.args.body.now) (state_of c.args.scopes.now))) (option_map term_of c.args.e.now))
    (heading (map statement_of c.args.first) (option_map expression_of c.args.test)) (option_map expression_of c.in-Ok.step) c.in-Ok.ensures
