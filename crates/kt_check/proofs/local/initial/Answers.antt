use Rattle.std.proofs.Common.{Ok, Option, subst, sym}
use Rattle.std.specs.Option.{option_map}
use Rattle.kt_grammar.specs.declared.tree.Expr.{Expr}
use Rattle.kt_names.specs.Statements.{initial}
use Rattle.kt_names.specs.Scopes.{body_of, state_of}
use Rattle.kt_grammar.specs.Tree.{term_of}
use Rattle.kt_tree.specs.Tree.{Evaluated, LocalSet, statement_of}
use Rattle.kt_names.specs.Checked.{and_then}
use Rattle.kt_names.specs.Environment.{Environment}
use Rattle.kt_names.specs.Judges.{Judges}
use Rattle.kt_names.specs.Operands.{Operand, convert}
use Rattle.kt_names.specs.Terms.{typing, first_token}
use Rattle.kt_check.proofs.local.initial.Goals as goal

pub returns-in-Some : goal.returns-in-Some
returns-in-Some c =
    let e = term_of c.in-Some.e in
    subst (λ (o : Option Expr). Judges statement_of c.initialised.result (initial (body_of c.args.body.now) (state_of c.args.scopes.now) c.args.local.0 c.args.local.1 c.args.up (option_map term_of o))) (sym c.in-Some.is)
    (subst
    (λ (env : Environment). Judges statement_of c.initialised.result
    (and_then (typing env e) (λ (o : Operand). and_then (convert env c.args.local.1 (first_token e) c.args.up o) (λ v. Ok (Evaluated (LocalSet c.args.local.0 v))))))
    c.here.ensures c.initialised.ensures)
