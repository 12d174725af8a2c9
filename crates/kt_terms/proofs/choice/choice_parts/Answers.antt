use Rattle.kt_names.specs.Views.{environment_of, operand_of, value_of, values_of}
use Rattle.kt_names.specs.Operands.{scalar}
use Rattle.kt_names.specs.Rules.{arm_values}
use Rattle.kt_names.proofs.Parts.{judges-pair}
use Rattle.kt_terms.proofs.choice.choice_parts.Goals as goal

pub returns : goal.returns
returns c =
    let env = environment_of c.args.env.now in
    judges-pair value_of values_of c.scalar.result c.arm_values.result c.both.result
    (scalar env c.args.at c.args.at (operand_of c.args.c))
    (arm_values env c.args.at c.args.pair.at c.args.pair.other (operand_of c.args.pair.left) (operand_of c.args.pair.right))
    c.both.ensures c.scalar.ensures c.arm_values.ensures
