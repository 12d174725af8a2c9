use Rattle.std.proofs.Common.{subst}
use Rattle.kt_typing.specs.Rules.{wrong}
use Rattle.kt_operands.specs.Views.{environment_of, operand_of}
use Rattle.kt_operators.specs.Judged.{Judges}
use Rattle.kt_operators.proofs.Parts.{part_stops, part_goes}
use Rattle.kt_expressions.proofs.part.part_of.Goals as goal

pub returns-in-Ok : goal.returns-in-Ok
returns-in-Ok c a h = part_goes operand_of (wrong (environment_of c.args.env.now) c.args.to) a c.in-Ok.y c.used.result (subst (Judges operand_of a) c.in-Ok.is h) c.used.ensures

pub returns-in-Err : goal.returns-in-Err
returns-in-Err c a h = part_stops operand_of (wrong (environment_of c.args.env.now) c.args.to) a c.in-Err.e (subst (Judges operand_of a) c.in-Err.is h)
