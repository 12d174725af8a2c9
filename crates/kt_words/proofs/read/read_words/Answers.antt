use Rattle.std.proofs.Common.{◌≡◌, subst}
use Rattle.kt_words.specs.Form.{texts}
use Rattle.kt_words.specs.Reading.{told, HasNoSense}
use Rattle.kt_words.specs.declared.fault.WordFault.TheVariants.{Words}
use Rattle.kt_words.proofs.Ordering.{no_form, no_sense}
use Rattle.kt_words.proofs.Passing.{passed}
use Rattle.kt_words.proofs.read.read_words.Goals as goal

pub returns-in_err-values-clause-refused : goal.returns-in_err-values-clause-refused
returns-in_err-values-clause-refused c h =
    let fault : c.in_err-values.field-0.0 ≡ Words = passed _ _ c.from_residual.ensures.1 h in
    no_form c.args.program (texts c.args.words.now) (c.in_err-values.ensures.err (cc))

pub returns-clause-refused : goal.returns-clause-refused
returns-clause-refused c h =
    no_sense c.args.program (texts c.args.words.now) (told c.in_ok-values.field-0.values.items) (texts c.in_ok-values.field-0.files.items) c.in_ok-values.ensures.ok
    (subst (λ values. HasNoSense (told values) (texts c.in_ok-values.field-0.files.items)) c.as_slice.ensures.value (c.order_of.ensures.err h))
