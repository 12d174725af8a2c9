use Rattle.std.proofs.Common.{ℕ, Option, Some, IfOk, sym, subst}
use Rattle.std.specs.Option.{option_map}
use Rattle.kt_grammar.specs.declared.tree.Expr.{Expr}
use Rattle.kt_grammar.specs.Tree.{term_of}
use Rattle.kt_typing.specs.Terms.{effect, conversion}
use Rattle.kt_program.specs.Judgments.{Expressed}
use Rattle.kt_program.specs.Scopes.{here}
use Rattle.kt_program.specs.Statements.{returned_value, of_expression, returned}
use Rattle.kt_statements.specs.Judged.{Judges, lines_made}
use Rattle.kt_statements.specs.Scopes.{body_of, place_of}
use Rattle.kt_statements.proofs.statement.returned.Goals as goal

pub returns-in_ok-value-in-None-result : goal.returns-in_ok-value-in-None-result
returns-in_ok-value-in-None-result c =
    let h = here (body_of c.args.body.now) (place_of c.args.scopes.now) in
    subst (λ (o : Option Expr). Judges lines_made (returned_value h c.args.at (option_map term_of o) c.args.body.now.result) c.always.result) (sym c.in-Some.is)
    (subst (λ (t : Option ℕ). Judges lines_made (returned_value h c.args.at (option_map term_of (Some c.in-Some.e)) t) c.always.result) (sym c.in-None-result.is)
    (c.always.ensures (Expressed (effect h (term_of c.in-Some.e))) c.in_ok-value-in-None-result.ensures))

pub returns-in_ok-value-in-Some-result : goal.returns-in_ok-value-in-Some-result
returns-in_ok-value-in-Some-result c =
    let h = here (body_of c.args.body.now) (place_of c.args.scopes.now) in
    let e = term_of c.in-Some.e in
    let ty = c.in-Some-result.ty in
    subst (λ (o : Option Expr). IfOk c.returned.result (λ r. Judges lines_made (returned_value h c.args.at (option_map term_of o) c.args.body.now.result) r)) (sym c.in-Some.is)
    (subst (λ (t : Option ℕ). IfOk c.returned.result (λ r. Judges lines_made (returned_value h c.args.at (option_map term_of (Some c.in-Some.e)) t) r)) (sym c.in-Some-result.is)
    (subst (λ (n : ℕ). IfOk c.returned.result (λ r. Judges lines_made (of_expression returned (Expressed (conversion h ty n e))) r)) c.first_token.ensures
    (c.returned.ensures (Expressed (conversion h ty c.first_token.result e)) c.in_ok-value-in-Some-result.ensures)))
