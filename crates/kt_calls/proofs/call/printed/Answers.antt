use Rattle.std.proofs.Common.{◌≡◌, ◌+◌, List, Option, Some, None, ap, ◌∙◌, subst, arith}
use Rattle.kt_typing.specs.declared.format.Conversion.{Conversion}
use Rattle.kt_typing.specs.Calls.{printed}
use Rattle.kt_typing.specs.Formats.{format_of, taken_by}
use Rattle.kt_operands.specs.Views.{environment_of, operand_of}
use Rattle.kt_operators.specs.Judged.{Judges}
use Rattle.kt_calls.proofs.Calls.{printed-judged}
use Rattle.kt_calls.proofs.call.printed.Goals as goal

pub returns-in-Ok-Some : goal.returns-in-Ok-Some
returns-in-Ok-Some c ps h =
    let pieces = c.in-Ok-Some.pieces.items in
    let is : Some pieces ≡ format_of c.args.format.now = rw c.in-Ok-Some.field-0-is at c.in-Ok-Some.ensures in
    let taken : c.taken_by-taken.result ≡ taken_by pieces = c.taken_by-taken.ensures.taken ∙ ap taken_by c.as_slice.ensures.value in
    printed-judged (environment_of c.args.env.now) c.args.at c.args.count c.counted.result ps (format_of c.args.format.now) pieces c.as_slice-in-Ok-Some.result.now (c.taken_by-taken.result + 1)
    is c.as_slice-in-Ok-Some.ensures.value (omega arith) (c.counted.ensures ps h)

pub returns-in-Ok-None : goal.returns-in-Ok-None
returns-in-Ok-None c ps h =
    let is : None ≡ format_of c.args.format.now = rw c.in-Ok-None.field-0-is at c.in-Ok-None.ensures in
    subst (λ (o : Option (List Conversion)). Judges operand_of (printed (environment_of c.args.env.now) c.args.at c.args.count ps o) c.ruled.result) is (c.ruled.ensures ps h)
