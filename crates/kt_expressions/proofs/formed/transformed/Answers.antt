use Rattle.kt_typing.specs.declared.standing.Use.TheVariants as use_as
use Rattle.kt_typing.specs.Rules.{wrong}
use Rattle.kt_operands.specs.Views.{environment_of}
use Rattle.kt_expressions.proofs.formed.transformed.Goals as goal

pub returns : goal.returns
returns c a h = c.transformed_of.ensures (wrong (environment_of c.args.env.now) use_as.Value) a (c.part_of-operand.ensures a h)
