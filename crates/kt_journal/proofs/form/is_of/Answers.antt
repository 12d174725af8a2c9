use Rattle.std.proofs.Common.{◌∙◌, sym}
use Rattle.kt_journal.specs.declared.form.Part.TheVariants.{Number}
use Rattle.kt_journal.proofs.Turning.{form_short, form_end, other-way}
use Rattle.kt_journal.proofs.form.is_of.Goals as goal

pub returns-in-None : goal.returns-in-None
returns-in-None c = sym (form_short c.args.form.now c.loop-part.part-index c.loop-part.rest Number c.loop-part-test.true c.in-None.is) ∙ c.loop-part.invariant

pub returns : goal.returns
returns c =
    other-way _ _ c.is_none.ensures ∙ sym (form_end c.args.form.now c.loop-part.part-index c.loop-part.rest c.loop-part-test.false) ∙ c.loop-part.invariant
