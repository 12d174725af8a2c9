use Rattle.std.proofs.Common.{Option, IfOk, map, sym, subst}
use Rattle.std.specs.Option.{option_map}
use Rattle.kt_syntax.specs.declared.tree.Body.{Body as Written}
use Rattle.kt_syntax.specs.Tree.{statement_of, statements_of, definition_of}
use Rattle.kt_program.specs.Statements.{entries}
use Rattle.kt_statements.specs.Functions.{body_at}
use Rattle.kt_statements.specs.Judged.{Judges, lines_made}
use Rattle.kt_statements.specs.Scopes.{body_of, place_of}
use Rattle.kt_statements.proofs.body.definition.Goals as goal

pub returns-in_ok-lines-in-Some-clause-typed : goal.returns-in_ok-lines-in-Some-clause-typed
returns-in_ok-lines-in-Some-clause-typed c =
    let b = body_of c.args.body.now in
    let p = place_of c.args.scopes.now in
    subst (λ (o : Option Written). IfOk c.block.result (λ r. Judges lines_made (body_at b p (option_map definition_of o)) r)) (sym c.in-Some.is)
    (c.block.ensures (entries b p (statements_of (map statement_of c.in-Some.d.entries))) c.in_ok-lines-in-Some.ensures.typed)
