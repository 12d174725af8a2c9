use Rattle.std.proofs.Common.{List, map, subst, sym}
use Rattle.kt_syntax.specs.declared.tree.ForStart.{ForStart}
use Rattle.kt_syntax.specs.Tree.{start_of}
use Rattle.kt_tree.specs.declared.stmt.Stmt.{Stmt}
use Rattle.kt_tree.specs.Tree.{Statement, statement_of}
use Rattle.kt_names.specs.Judges.{Judges}
use Rattle.kt_names.specs.Statements.{State, start}
use Rattle.kt_names.specs.Scopes.{state_of, body_of}
use Rattle.kt_check.proofs.statement.start.Goals as goal

pub returns-in-Expr-clause-judged : goal.returns-in-Expr-clause-judged
returns-in-Expr-clause-judged c =
    let s = state_of c.args.scopes.now in
    subst (λ (f : ForStart). Judges {Y = List Statement × State} (λ (ss : List Stmt). (map statement_of ss, s)) c.started_by.result (start (body_of c.args.body.now) s (start_of f))) (sym c.in-Expr.is)
    c.started_by.ensures
