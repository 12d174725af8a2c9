use Rattle.kt_names.specs.Views.{environment_of, operand_of, value_of}
use Rattle.kt_names.specs.Operands.{scalar}
use Rattle.kt_names.proofs.Parts.{judges-pair}
use Rattle.kt_names.proofs.pair.Pair.scalars.Goals as goal

pub returns : goal.returns
returns c =
    let env = environment_of c.args.env.now in
    judges-pair value_of value_of c.scalar.result c.scalar-2.result c.both.result
    (scalar env c.args.self.at c.args.up (operand_of c.args.self.left))
    (scalar env c.args.self.other c.args.up (operand_of c.args.self.right))
    c.both.ensures c.scalar.ensures c.scalar-2.ensures
