use Rattle.std.proofs.Common.{◌≡◌, ◌++◌, replicate, drop}
use Rattle.kt_play.specs.Journal.{lines_from, journal_of}
use Rattle.kt_play.proofs.journal.journal.Given as goal

-- what is written, and the lines of what is left, are the journal
abbrev pub invariant-loop-mark : goal.invariant-loop-mark
invariant-loop-mark l =
    l.text.items ++ lines_from l.made (replicate l.left 0) (drop l.mark-index l.marks) ≡ journal_of (replicate l.turns 0) l.marks
