use Rattle.std.proofs.Common.{IfOk, sym, subst}
use Rattle.kt_grammar.specs.Tree.{term_of}
use Rattle.kt_syntax.specs.declared.tree.ForStart.{ForStart}
use Rattle.kt_syntax.specs.Tree as syntax
use Rattle.kt_typing.specs.Terms.{effect}
use Rattle.kt_program.specs.Judgments.{Expressed}
use Rattle.kt_program.specs.Scopes.{here}
use Rattle.kt_program.specs.Statements.{start}
use Rattle.kt_statements.specs.Judged.{Judges, lines_made}
use Rattle.kt_statements.specs.Scopes.{body_of, place_of}
use Rattle.kt_statements.proofs.statement.start.Goals as goal

pub returns-in_ok-value-in-Expr-clause-typed : goal.returns-in_ok-value-in-Expr-clause-typed
returns-in_ok-value-in-Expr-clause-typed c =
    let b = body_of c.args.body.now in
    let p = place_of c.args.scopes.now in
    subst (λ (x : ForStart). IfOk c.evaluated.result (λ r. Judges lines_made (start b p (syntax.start_of x)) r)) (sym c.in-Expr.is)
    (c.evaluated.ensures (Expressed (effect (here b p) (term_of c.in-Expr.e))) c.in_ok-value-in-Expr.ensures)
