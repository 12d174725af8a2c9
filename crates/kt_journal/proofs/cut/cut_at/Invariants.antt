use Rattle.std.proofs.Common.{◌≡◌, false, take}
use Rattle.kt_journal.proofs.Splitting.{has}
use Rattle.kt_journal.proofs.cut.cut_at.Given as goal

abbrev pub invariant-loop-i : goal.invariant-loop-i
invariant-loop-i l = has l.byte (take l.i l.bytes) ≡ false
