use Rattle.std.proofs.Common.{subst}
use Rattle.kt_typing.specs.declared.standing.Use.TheVariants as use_as
use Rattle.kt_typing.specs.Rules.{wrong, member}
use Rattle.kt_typing.specs.Terms.{of_one}
use Rattle.kt_operands.specs.Views.{environment_of, operand_of}
use Rattle.kt_operators.specs.Judged.{Judges}
use Rattle.kt_expressions.proofs.formed.member.Goals as goal

pub returns : goal.returns
returns c a h =
    let env = environment_of c.args.env.now in
    subst (λ n. Judges operand_of (of_one env n use_as.Whole a (member env n c.args.f.now)) c.member_of.result) c.first_token-at.ensures
    (c.member_of.ensures (wrong env use_as.Whole) a (c.part_of-whole.ensures a h))
