use Rattle.std.proofs.Common.{subst}
use Rattle.kt_typing.specs.declared.standing.Use.TheVariants as use_as
use Rattle.kt_typing.specs.Rules.{wrong, element}
use Rattle.kt_typing.specs.Terms.{of_two}
use Rattle.kt_operands.specs.Views.{environment_of, operand_of}
use Rattle.kt_operators.specs.Judged.{Judges}
use Rattle.kt_expressions.proofs.formed.element.Goals as goal

pub returns : goal.returns
returns c a b h k =
    let env = environment_of c.args.env.now in
    subst (λ n. Judges operand_of (of_two env n use_as.Indexed a use_as.Value b (element env n)) c.element_of.result) c.first_token-at.ensures
    (c.element_of.ensures (wrong env use_as.Indexed) (wrong env use_as.Value) a b (c.part_of-whole.ensures a h) (c.part_of-index.ensures b k))
