use Rattle.std.proofs.Common.{ap}
use Rattle.kt_journal.specs.Reading.{words_in}
use Rattle.kt_journal.proofs.Turning.{stretch-four}
use Rattle.kt_journal.proofs.line.stretch.Goals as goal

pub returns-in-Some : goal.returns-in-Some
returns-in-Some c =
    stretch-four c.args.line.now c.first_word.result.0.now c.first_word-2.result.0.now c.first_word-3.result.0.now c.in_ok-rest.field-0.now c.in_ok-rest-2.field-0.now
    c.in-Some.field-0.now c.first_word.result.1 c.first_word-2.result.1 c.first_word-3.result.1 c.first_word.ensures c.first_word-2.ensures c.first_word-3.ensures
    (ap words_in c.in_ok-rest.was) (ap words_in c.in_ok-rest-2.was) (ap words_in c.in-Some.is)
