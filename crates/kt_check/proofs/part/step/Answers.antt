use Rattle.std.proofs.Common.{◌≡◌, Ok, Option, Some, subst, sym}
use Rattle.std.specs.Option.{option_map}
use Rattle.kt_grammar.specs.declared.tree.Expr.{Expr}
use Rattle.kt_grammar.specs.Tree.{term_of}
use Rattle.kt_tree.specs.Tree.{Expression, expression_of}
use Rattle.kt_names.specs.Judges.{Fails}
use Rattle.kt_names.specs.Statements.{here, perhaps, effect_of}
use Rattle.kt_names.specs.Scopes.{state_of, body_of}
use Rattle.kt_names.proofs.Parts.{fails, follows}
use Rattle.kt_check.proofs.part.step.Goals as goal

pub returns-in-Err : goal.returns-in-Err
returns-in-Err c =
    let env = here (body_of c.args.body.now) (state_of c.args.scopes.now) in
    subst (λ (o : Option Expr). Fails c.in-Err.fault (perhaps (effect_of env) (option_map term_of o))) (sym c.in-Some.is)
    (fails (effect_of env (term_of c.in-Some.e)) (λ (y : Expression). Ok (Some y)) c.in-Err.fault c.in-Err.ensures)

pub returns-in-Ok : goal.returns-in-Ok
returns-in-Ok c =
    let env = here (body_of c.args.body.now) (state_of c.args.scopes.now) in
    subst (λ (o : Option Expr). perhaps (effect_of env) (option_map term_of o) ≡ Ok (Some (expression_of c.in-Ok.whole))) (sym c.in-Some.is)
    (follows (effect_of env (term_of c.in-Some.e)) (λ (y : Expression). Ok (Some y)) (expression_of c.in-Ok.whole) c.in-Ok.ensures)
