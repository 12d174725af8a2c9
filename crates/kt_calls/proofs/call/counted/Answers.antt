use Rattle.std.proofs.Common.{subst}
use Rattle.kt_typing.specs.Forms.{Ruled}
use Rattle.kt_operands.specs.Views.{environment_of, operand_of}
use Rattle.kt_operators.specs.Judged.{Judges}
use Rattle.kt_calls.specs.Rules.{rule_of}
use Rattle.kt_calls.proofs.call.counted.Goals as goal

pub returns : goal.returns
returns c ps h =
    subst (λ always. Judges operand_of (Ruled always ps (rule_of (environment_of c.args.env.now) c.args.at c.args.rule)) c.ruled.result) c.miscounted.ensures (c.ruled.ensures ps h)
