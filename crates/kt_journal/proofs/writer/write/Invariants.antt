use Rattle.std.proofs.Common.{◌≡◌, ◌≤◌, ◌++◌, drop}
use Rattle.kt_world.specs.Plain.{job_of}
use Rattle.kt_journal.specs.Written.{entries_from, journal_of}
use Rattle.kt_journal.proofs.Writing.{text_in}
use Rattle.kt_journal.proofs.writer.write.Given as goal

-- with the lines of what is left it is the journal
abbrev pub invariant-loop-mark : goal.invariant-loop-mark
invariant-loop-mark l = record {
  text : l.text.items ++ text_in (entries_from l.kit (job_of l.job) l.version l.made l.rest (drop l.mark-index l.marks)) ≡ journal_of (job_of l.job) l.turns l.marks;
  few : l.version ≤ l.mark-index;
}
