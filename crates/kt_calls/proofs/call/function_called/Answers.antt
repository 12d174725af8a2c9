use Rattle.std.proofs.Common.{◌≡◌, length, ap, ◌∙◌, subst, arith}
use Rattle.kt_typing.specs.Calls.{function_called, miscounted}
use Rattle.kt_typing.specs.Forms.{Ruled}
use Rattle.kt_operands.specs.Views.{environment_of, operand_of}
use Rattle.kt_operators.specs.Judged.{Judges}
use Rattle.kt_calls.specs.Rules.{rule_of}
use Rattle.kt_calls.specs.declared.rule.Rule.TheVariants as rule
use Rattle.kt_calls.proofs.call.function_called.Goals as goal

pub returns-in-None : goal.returns-in-None
returns-in-None c ps h =
    subst (λ head. Judges operand_of (function_called (environment_of c.args.env.now) c.args.at c.args.function c.args.count ps head) c.faulty.result) c.in-None.ensures (c.faulty.ensures ps h)

pub returns-in-Some : goal.returns-in-Some
returns-in-Some c ps h =
    let env = environment_of c.args.env.now in
    let same : c.len.result ≡ length c.in-Some.head.now.parameters.items = omega (arith, c.in-Some.head.now.parameters.ok.0) in
    subst (λ head. Judges operand_of (function_called env c.args.at c.args.function c.args.count ps head) c.ruled.result) c.in-Some.ensures
    (subst (λ always. Judges operand_of (Ruled always ps (rule_of env c.args.at (rule.Function c.args.function c.in-Some.head))) c.ruled.result)
    (c.miscounted-always.ensures ∙ ap (λ n. miscounted c.args.at n c.args.count) same) (c.ruled.ensures ps h))
