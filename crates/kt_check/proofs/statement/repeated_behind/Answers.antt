use Rattle.std.proofs.Common.{Ok}
use Rattle.std.specs.Option.{option_map}
use Rattle.kt_grammar.specs.Tree.{term_of}
use Rattle.kt_tree.specs.Tree.{Expression, Evaluated, Repeated, expression_of, statement_of}
use Rattle.kt_names.specs.Statements.{here, condition, effect_of, returned}
use Rattle.kt_names.specs.Scopes.{state_of, body_of}
use Rattle.kt_names.proofs.Parts.{fails, judges-follows}
use Rattle.kt_check.proofs.Entries.{paired}
use Rattle.kt_check.proofs.Blocks.{made-beside}
use Rattle.kt_check.proofs.statement.repeated_behind.Goals as goal

pub returns-in-Err : goal.returns-in-Err
returns-in-Err c =
    fails (condition (here (body_of c.args.body.now) (state_of c.args.scopes.now)) (term_of c.args.c.now)) (λ (v : Expression). Ok (Repeated (statement_of c.args.inner) v)) c.in-Err.fault c.in-Err.ensures

pub returns-in-Ok : goal.returns-in-Ok
returns-in-Ok c =
    judges-follows statement_of c.repeat_loop.result (condition (here (body_of c.args.body.now) (state_of c.args.scopes.now)) (term_of c.args.c.now)) (λ (v : Expression). Ok (Repeated (statement_of c.args.inner) v))
    (expression_of c.in-Ok.test) c.in-Ok.ensures c.repeat_loop.ensures
