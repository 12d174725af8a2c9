use Rattle.std.proofs.Common.{Ok}
use Rattle.kt_grammar.specs.Tree.{term_of}
use Rattle.kt_tree.specs.Tree.{Expression, Evaluated, expression_of}
use Rattle.kt_names.specs.Statements.{here, effect_of}
use Rattle.kt_names.specs.Scopes.{state_of, body_of}
use Rattle.kt_names.proofs.Parts.{fails, follows}
use Rattle.kt_check.proofs.statement.evaluated.Goals as goal

pub returns-in-Err : goal.returns-in-Err
returns-in-Err c =
    fails (effect_of (here (body_of c.args.body.now) (state_of c.args.scopes.now)) (term_of c.args.e.now)) (λ (v : Expression). Ok (Evaluated v)) c.in-Err.fault c.in-Err.ensures

pub returns-in-Ok : goal.returns-in-Ok
returns-in-Ok c =
    follows (effect_of (here (body_of c.args.body.now) (state_of c.args.scopes.now)) (term_of c.args.e.now)) (λ (v : Expression). Ok (Evaluated v)) (expression_of c.in-Ok.whole) c.in-Ok.ensures
