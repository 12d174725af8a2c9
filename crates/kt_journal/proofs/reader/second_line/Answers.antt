use Rattle.std.proofs.Common.{codes}
use Rattle.kt_text.specs.Lines.{line_of}
use Rattle.kt_journal.proofs.SoFar.{front-found, front-none}
use Rattle.kt_journal.proofs.reader.second_line.Goals as goal

pub returns-in-Some : goal.returns-in-Some
unfolding line_of
returns-in-Some c = front-found c.args.bytes.now c.in-Some.rest.now (codes "kit 2\n") c.in-Some.ensures.cases.0 c.in-Some.ensures.cases.1

pub returns-in-None : goal.returns-in-None
unfolding line_of
returns-in-None c = λ stands. front-none c.args.bytes.now stands.0 (codes "kit 2\n") c.in-None.ensures.cases stands.1
