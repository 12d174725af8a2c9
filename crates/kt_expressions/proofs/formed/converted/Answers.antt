use Rattle.std.proofs.Common.{Bool, ℕ, Option, subst}
use Rattle.kt_typing.specs.declared.standing.Use.TheVariants as use_as
use Rattle.kt_typing.specs.Rules.{wrong, cast}
use Rattle.kt_typing.specs.Terms.{of_one, is_allocation}
use Rattle.kt_grammar.specs.Tree.{term_of}
use Rattle.kt_operands.specs.Views.{environment_of, operand_of}
use Rattle.kt_operators.specs.Judged.{Judges}
use Rattle.kt_expressions.proofs.formed.converted.Goals as goal

pub returns : goal.returns
returns c a h =
    let env = environment_of c.args.env.now in
    subst (λ (t : Option ℕ). Judges operand_of (of_one env c.args.at use_as.Value a (cast env c.args.at (is_allocation (term_of c.args.a.now)) t)) c.cast_of.result) c.type_named-ty.ensures
    (subst (λ (b : Bool). Judges operand_of (of_one env c.args.at use_as.Value a (cast env c.args.at b c.type_named-ty.result)) c.cast_of.result) c.is_allocation-allocates.ensures
    (c.cast_of.ensures (wrong env use_as.Value) a (c.part_of-operand.ensures a h)))
