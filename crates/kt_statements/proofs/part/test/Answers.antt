use Rattle.std.proofs.Common.{Option, sym, subst}
use Rattle.std.specs.Option.{option_map}
use Rattle.kt_grammar.specs.declared.tree.Expr.{Expr}
use Rattle.kt_grammar.specs.Tree.{term_of}
use Rattle.kt_typing.specs.Terms.{condition}
use Rattle.kt_program.specs.Judgments.{Expressed}
use Rattle.kt_program.specs.Scopes.{here}
use Rattle.kt_program.specs.Statements.{perhaps}
use Rattle.kt_statements.specs.Judged.{Judges, option_made}
use Rattle.kt_statements.specs.Scopes.{body_of, place_of}
use Rattle.kt_statements.proofs.part.test.Goals as goal

pub returns-in_ok-tree-in-Some : goal.returns-in_ok-tree-in-Some
returns-in_ok-tree-in-Some c =
    let env = here (body_of c.args.body.now) (place_of c.args.scopes.now) in
    subst (λ (o : Option Expr). Judges option_made (perhaps (λ e. Expressed (condition env e)) (option_map term_of o)) c.there.result) (sym c.in-Some.is)
    (c.there.ensures (Expressed (condition env (term_of c.in-Some.e))) c.in_ok-tree-in-Some.ensures)
