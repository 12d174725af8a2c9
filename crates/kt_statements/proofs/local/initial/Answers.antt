use Rattle.std.proofs.Common.{ℕ, Option, IfOk, sym, subst}
use Rattle.std.specs.Option.{option_map}
use Rattle.kt_grammar.specs.declared.tree.Expr.{Expr}
use Rattle.kt_grammar.specs.Tree.{term_of}
use Rattle.kt_typing.specs.Terms.{conversion}
use Rattle.kt_program.specs.Judgments.{Expressed}
use Rattle.kt_program.specs.Scopes.{here}
use Rattle.kt_program.specs.Statements.{initial, initial_by}
use Rattle.kt_statements.specs.Judged.{Judges, lines_made}
use Rattle.kt_statements.specs.Scopes.{body_of, place_of}
use Rattle.kt_statements.proofs.local.initial.Goals as goal

pub returns-in_ok-value-in-Some : goal.returns-in_ok-value-in-Some
returns-in_ok-value-in-Some c =
    let b = body_of c.args.body.now in
    let p = place_of c.args.scopes.now in
    let e = term_of c.in-Some.e in
    subst (λ (o : Option Expr). IfOk c.set_local.result (λ r. Judges lines_made (initial b p c.args.x c.args.at (option_map term_of o)) r)) (sym c.in-Some.is)
    (subst (λ (t : Option ℕ). IfOk c.set_local.result (λ r. Judges lines_made (initial_by (here b p) c.args.x c.args.at e t) r)) (sym c.local_type-ty.ensures)
    (c.set_local.ensures (Expressed (conversion (here b p) c.local_type-ty.result c.args.at e)) c.in_ok-value-in-Some.ensures))
