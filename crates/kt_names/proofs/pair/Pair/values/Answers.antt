use Rattle.kt_names.specs.Views.{environment_of, operand_of, value_of}
use Rattle.kt_names.specs.Operands.{value}
use Rattle.kt_names.proofs.Parts.{judges-pair}
use Rattle.kt_names.proofs.pair.Pair.values.Goals as goal

pub returns : goal.returns
returns c =
    let env = environment_of c.args.env.now in
    judges-pair value_of value_of c.value.result c.value-2.result c.both.result
    (value env c.args.self.at c.args.up (operand_of c.args.self.left))
    (value env c.args.self.other c.args.up (operand_of c.args.self.right))
    c.both.ensures c.value.ensures c.value-2.ensures
