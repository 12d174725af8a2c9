use Rattle.std.proofs.Common.{Ok, List, [], ◌∷◌, map}
use Rattle.kt_grammar.specs.Tree.{term_of}
use Rattle.kt_tree.specs.declared.stmt.Stmt.{Stmt}
use Rattle.kt_tree.specs.Tree.{Expression, Evaluated, expression_of, statement_of}
use Rattle.kt_names.specs.Statements.{here, effect_of}
use Rattle.kt_names.specs.Scopes.{state_of, body_of}
use Rattle.kt_names.proofs.Parts.{fails, judges-follows}
use Rattle.kt_check.proofs.Entries.{paired}
use Rattle.kt_check.proofs.statement.started_by.Goals as goal

pub returns-in-Err : goal.returns-in-Err
returns-in-Err c =
    let s = state_of c.args.scopes.now in
    fails (effect_of (here (body_of c.args.body.now) s) (term_of c.args.e.now)) (λ (v : Expression). Ok (Evaluated v ∷ [], s)) c.in-Err.fault c.in-Err.ensures

pub returns-in-Ok : goal.returns-in-Ok
returns-in-Ok c =
    let s = state_of c.args.scopes.now in
    judges-follows (λ (ss : List Stmt). (map statement_of ss, s)) c.one_of.result (effect_of (here (body_of c.args.body.now) s) (term_of c.args.e.now)) (λ (v : Expression). Ok (Evaluated v ∷ [], s))
    (expression_of c.in-Ok.whole) c.in-Ok.ensures
    (paired (λ (ss : List Stmt). map statement_of ss) s c.one_of.result (Ok (Evaluated (expression_of c.in-Ok.whole) ∷ [])) c.one_of.ensures)
