use Rattle.std.proofs.Common.{Err, sym, subst}
use Rattle.kt_typing.specs.Forms.{Ruled}
use Rattle.kt_operands.specs.Views.{environment_of, operand_of}
use Rattle.kt_operators.specs.Judged.{Judges, JudgesParts}
use Rattle.kt_operators.proofs.Parts.{whole-stops, whole-goes}
use Rattle.kt_calls.specs.Arguments.{operands_of}
use Rattle.kt_calls.specs.Rules.{rule_of}
use Rattle.kt_calls.proofs.Calls.{despite-judged}
use Rattle.kt_calls.proofs.rule.ruled.Goals as goal

pub returns-in-Ok : goal.returns-in-Ok
returns-in-Ok c ps h =
    let rule = rule_of (environment_of c.args.env.now) c.args.at c.args.rule in
    subst (Judges operand_of (Ruled c.args.always ps rule)) (sym c.despite.ensures)
    (despite-judged c.args.always ps rule c.applied.result
    (whole-goes operand_of operands_of ps rule c.in-Ok.xs c.applied.result (subst (JudgesParts operands_of ps) c.in-Ok.is h) c.applied.ensures))

pub returns-in-Err : goal.returns-in-Err
returns-in-Err c ps h =
    let rule = rule_of (environment_of c.args.env.now) c.args.at c.args.rule in
    subst (Judges operand_of (Ruled c.args.always ps rule)) (sym c.despite-in-Err.ensures)
    (despite-judged c.args.always ps rule (Err c.in-Err.e)
    (whole-stops operand_of operands_of ps rule c.in-Err.e (subst (JudgesParts operands_of ps) c.in-Err.is h)))
