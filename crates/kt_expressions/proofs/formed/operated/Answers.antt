use Rattle.std.proofs.Common.{subst}
use Rattle.kt_typing.specs.Rules.{wrong, operator}
use Rattle.kt_typing.specs.Terms.{of_two}
use Rattle.kt_operands.specs.Views.{environment_of, operand_of}
use Rattle.kt_operators.specs.Judged.{Judges}
use Rattle.kt_expressions.proofs.formed.operated.Goals as goal

pub returns : goal.returns
returns c a b h k =
    let env = environment_of c.args.env.now in
    subst (λ n. Judges operand_of (of_two env n c.args.to a c.args.to b (operator env n c.args.op)) c.operated_of.result) c.first_token-at.ensures
    (c.operated_of.ensures (wrong env c.args.to) (wrong env c.args.to) a b (c.part_of-left.ensures a h) (c.part_of-right.ensures b k))
