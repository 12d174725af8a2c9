use Rattle.std.proofs.Common.{ap, sym}
use Rattle.kt_text.specs.Lines.{line_of}
use Rattle.kt_journal.specs.Journal.{kit_words}
use Rattle.kt_journal.proofs.writer.first_line.Goals as goal

pub returns-in-First : goal.returns-in-First
unfolding line_of
returns-in-First c = ap (λ kit. line_of (kit_words kit)) (sym c.in-First.is)

pub returns-in-Second : goal.returns-in-Second
unfolding line_of
returns-in-Second c = ap (λ kit. line_of (kit_words kit)) (sym c.in-Second.is)
