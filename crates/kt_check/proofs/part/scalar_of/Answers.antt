use Rattle.std.proofs.Common.{Ok, ap, ◌∙◌}
use Rattle.kt_names.specs.Operands.{Value, scalar}
use Rattle.kt_names.specs.Views.{environment_of, operand_of, value_of}
use Rattle.kt_names.proofs.Parts.{fails, follows}
use Rattle.kt_check.proofs.part.scalar_of.Goals as goal

pub returns-in-Err : goal.returns-in-Err
returns-in-Err c =
    fails (scalar (environment_of c.args.env.now) c.args.at c.args.at (operand_of c.args.operand)) (λ (v : Value). Ok v.expression) c.in-Err.fault c.in-Err.ensures

pub returns-in-Ok : goal.returns-in-Ok
returns-in-Ok c =
    follows (scalar (environment_of c.args.env.now) c.args.at c.args.at (operand_of c.args.operand)) (λ (v : Value). Ok v.expression) (value_of c.in-Ok.value) c.in-Ok.ensures
