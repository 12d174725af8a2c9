use Rattle.std.specs.List.{AllByRecursion}
use Rattle.std.proofs.Common.{take}
use Rattle.kt_journal.specs.Kept.{IsKept}
use Rattle.kt_journal.proofs.laws.marks_law.Given as goal

abbrev pub invariant-loop-mark : goal.invariant-loop-mark
invariant-loop-mark l = AllByRecursion IsKept (take l.mark-index l.marks)
