use Rattle.std.proofs.Common.{subst}
use Rattle.kt_typing.specs.Rules.{wrong, unary}
use Rattle.kt_typing.specs.Terms.{of_one}
use Rattle.kt_operands.specs.Views.{environment_of, operand_of}
use Rattle.kt_operators.specs.Judged.{Judges}
use Rattle.kt_expressions.proofs.formed.prefixed.Goals as goal

pub returns : goal.returns
returns c a h =
    let env = environment_of c.args.env.now in
    subst (λ u. Judges operand_of (of_one env c.args.at u a (unary env c.args.at c.args.op)) c.prefixed_of.result) c.operand_use-to.ensures
    (c.prefixed_of.ensures (wrong env c.operand_use-to.result) a (c.part_of-operand.ensures a h))
