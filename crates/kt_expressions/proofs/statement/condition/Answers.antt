use Rattle.std.proofs.Common.{Ok, Err, refl, subst}
use Rattle.kt_grammar.specs.Tree.{term_of}
use Rattle.kt_typing.specs.declared.standing.Use.TheVariants as use_as
use Rattle.kt_typing.specs.Operands.{scalar}
use Rattle.kt_typing.specs.Rules.{wrong, with_value}
use Rattle.kt_typing.specs.Terms.{form, of_one, tested}
use Rattle.kt_operands.specs.Views.{environment_of, operand_of}
use Rattle.kt_operators.specs.Judged.{Judges}
use Rattle.kt_operators.proofs.Parts.{one_stops, one_goes}
use Rattle.kt_expressions.proofs.statement.condition.Goals as goal

pub returns-in-Ok : goal.returns-in-Ok
returns-in-Ok c =
    let env = environment_of c.args.env.now in
    let a = form env use_as.Value (term_of c.args.e.now) in
    subst (λ n. Judges operand_of (of_one env n use_as.Value a (λ x. with_value n (scalar env.scope x) (tested env n))) c.condition_of.result) c.first_token-at.ensures
    (one_goes operand_of c.first_token-at.result (Ok c.in-Ok.x) (λ x. with_value c.first_token-at.result (scalar env.scope x) (tested env c.first_token-at.result)) c.in-Ok.x c.condition_of.result refl c.condition_of.ensures (wrong env use_as.Value) a (c.in-Ok.ensures a c.expression-typed.ensures))

pub returns-in-Err : goal.returns-in-Err
returns-in-Err c =
    let env = environment_of c.args.env.now in
    let a = form env use_as.Value (term_of c.args.e.now) in
    subst (λ n. Judges operand_of (of_one env n use_as.Value a (λ x. with_value n (scalar env.scope x) (tested env n))) (Err c.in-Err.e)) c.first_token-at.ensures
    (one_stops operand_of c.first_token-at.result (Err c.in-Err.e) (λ x. with_value c.first_token-at.result (scalar env.scope x) (tested env c.first_token-at.result)) c.in-Err.e refl (wrong env use_as.Value) a (c.in-Err.ensures a c.expression-typed.ensures))
