use Rattle.std.proofs.Common.{length}
use Rattle.kt_words.specs.Form.{texts}
use Rattle.kt_words.specs.Reading.{Continues, told}
use Rattle.kt_words.proofs.form.gather.Given as goal

-- what is given so far and what the rest gives is what the words give
abbrev pub invariant-loop-rest : goal.invariant-loop-rest
invariant-loop-rest l = Continues l.program (texts l.words) (told l.given.values.items) (texts l.given.files.items) (texts l.rest)

abbrev pub decreases-loop-rest : goal.decreases-loop-rest
decreases-loop-rest l = length l.rest
