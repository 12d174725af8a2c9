use Rattle.kt_typing.specs.Rules.{wrong}
use Rattle.kt_operands.specs.Views.{environment_of}
use Rattle.kt_expressions.proofs.arguments.argument_before.Goals as goal

pub returns : goal.returns
returns c a ps h k = c.part_before.ensures (wrong (environment_of c.args.env.now) c.args.to) a ps (c.part_of.ensures a h) k
