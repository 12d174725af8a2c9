use Rattle.std.proofs.Common.{subst}
use Rattle.kt_typing.specs.declared.standing.Use.TheVariants as use_as
use Rattle.kt_typing.specs.Rules.{wrong, assignment}
use Rattle.kt_typing.specs.Terms.{of_two}
use Rattle.kt_operands.specs.Views.{environment_of, operand_of}
use Rattle.kt_operators.specs.Judged.{Judges}
use Rattle.kt_expressions.proofs.formed.assigned.Goals as goal

pub returns : goal.returns
returns c a b h k =
    let env = environment_of c.args.env.now in
    subst (λ n. Judges operand_of (of_two env n use_as.Value a use_as.Value b (assignment env n c.args.op)) c.assigned_of.result) c.first_token-at.ensures
    (c.assigned_of.ensures (wrong env use_as.Value) (wrong env use_as.Value) a b (c.part_of-place.ensures a h) (c.part_of-value.ensures b k))
