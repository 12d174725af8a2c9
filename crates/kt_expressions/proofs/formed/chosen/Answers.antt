use Rattle.std.proofs.Common.{subst}
use Rattle.kt_typing.specs.declared.standing.Use.TheVariants as use_as
use Rattle.kt_typing.specs.Rules.{wrong, choice}
use Rattle.kt_typing.specs.Terms.{of_three}
use Rattle.kt_operands.specs.Views.{environment_of, operand_of}
use Rattle.kt_operators.specs.Judged.{Judges}
use Rattle.kt_expressions.proofs.formed.chosen.Goals as goal

pub returns : goal.returns
returns c a b d h k l =
    let env = environment_of c.args.env.now in
    subst (λ n. Judges operand_of (of_three env n use_as.Value a b d (choice env n)) c.chosen_of.result) c.first_token-at.ensures
    (c.chosen_of.ensures (wrong env use_as.Value) a b d (c.part_of-test.ensures a h) (c.part_of-one.ensures b k) (c.part_of-other.ensures d l))
