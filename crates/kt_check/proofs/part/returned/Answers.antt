use Rattle.std.proofs.Common.{Option, Some, subst, sym}
use Rattle.std.specs.Option.{option_map}
use Rattle.kt_grammar.specs.declared.tree.Expr.{Expr}
use Rattle.kt_grammar.specs.Tree.{term_of}
use Rattle.kt_tree.specs.Tree.{statement_of}
use Rattle.kt_names.specs.Checked.{and_then}
use Rattle.kt_names.specs.Environment.{Environment}
use Rattle.kt_names.specs.Judges.{Judges}
use Rattle.kt_names.specs.Statements.{returned}
use Rattle.kt_names.specs.Terms.{typing, first_token}
use Rattle.kt_names.specs.Scopes.{body_of, state_of, returned_of}
use Rattle.kt_check.proofs.LocalParts.{returned-by}
use Rattle.kt_check.proofs.part.returned.Goals as goal

pub returns-in-Some-result-2 : goal.returns-in-Some-result-2
returns-in-Some-result-2 c =
    let body = body_of c.args.body.now in
    let s = state_of c.args.scopes.now in
    let e = term_of c.in-Some.e in
    let t = c.in-Some-result-2.t in
    subst (λ (o : Option Expr). Judges statement_of c.returned_value.result (returned body s c.args.at (option_map term_of o))) (sym c.in-Some.is)
    (returned-by body s c.args.at e t c.returned_value.result c.in-Some-result-2.is
    (subst (λ (env : Environment). Judges statement_of c.returned_value.result (and_then (typing env e) (returned_of env t (first_token e)))) c.here.ensures c.returned_value.ensures))
