use Rattle.std.proofs.Common.{◌≡◌, drop}
use Rattle.kt_journal.specs.Grammar.{is_of}
use Rattle.kt_journal.specs.Reading.{form_of, split, words_in}
use Rattle.kt_journal.proofs.form.is_of.Given as goal

-- the rest is of the rest of the form exactly where the line is of the form
abbrev pub invariant-loop-part : goal.invariant-loop-part
invariant-loop-part l = is_of (form_of (drop l.part-index l.form)) (words_in l.rest) ≡ is_of (form_of l.form) (split l.line)
