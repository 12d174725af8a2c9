use Rattle.kt_names.specs.Views.{environment_of, operand_of, value_of}
use Rattle.kt_names.specs.Operands.{pointer, integer}
use Rattle.kt_names.proofs.Parts.{judges-pair}
use Rattle.kt_names.proofs.pair.Pair.indexed.Goals as goal

pub returns : goal.returns
returns c =
    let env = environment_of c.args.env.now in
    judges-pair value_of value_of c.pointer.result c.integer.result c.both.result
    (pointer env c.args.self.at c.args.up (operand_of c.args.self.left))
    (integer env c.args.self.other c.args.up (operand_of c.args.self.right))
    c.both.ensures c.pointer.ensures c.integer.ensures
