use Rattle.std.proofs.Common.{Ok, Err, refl}
use Rattle.kt_grammar.specs.Tree.{term_of}
use Rattle.kt_typing.specs.declared.standing.Use.TheVariants as use_as
use Rattle.kt_typing.specs.Operands.{valued}
use Rattle.kt_typing.specs.Rules.{wrong, with_value, convert}
use Rattle.kt_typing.specs.Terms.{form}
use Rattle.kt_operands.specs.Views.{environment_of, operand_of}
use Rattle.kt_operators.proofs.Parts.{one_stops, one_goes}
use Rattle.kt_expressions.proofs.statement.conversion.Goals as goal

pub returns-in-Ok : goal.returns-in-Ok
returns-in-Ok c =
    let env = environment_of c.args.env.now in
    let a = form env use_as.Value (term_of c.args.e.now) in
    (one_goes operand_of c.args.at (Ok c.in-Ok.x) (λ x. with_value c.args.at (convert env.scope c.args.ty x) (λ v. Ok (valued c.args.at v.ty v.tree))) c.in-Ok.x c.converted_to.result refl c.converted_to.ensures (wrong env use_as.Value) a (c.in-Ok.ensures a c.expression-typed.ensures))

pub returns-in-Err : goal.returns-in-Err
returns-in-Err c =
    let env = environment_of c.args.env.now in
    let a = form env use_as.Value (term_of c.args.e.now) in
    (one_stops operand_of c.args.at (Err c.in-Err.e) (λ x. with_value c.args.at (convert env.scope c.args.ty x) (λ v. Ok (valued c.args.at v.ty v.tree))) c.in-Err.e refl (wrong env use_as.Value) a (c.in-Err.ensures a c.expression-typed.ensures))
