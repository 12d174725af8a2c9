use Rattle.std.proofs.Common.{length}
use Rattle.kt_journal.proofs.SoFar.{IsRead}
use Rattle.kt_journal.proofs.reader.read_entries.Given as goal

abbrev pub invariant-loop-behind : goal.invariant-loop-behind
invariant-loop-behind l = IsRead l.kit l.text l.rest l.turns.items

abbrev pub decreases-loop-behind : goal.decreases-loop-behind
decreases-loop-behind l = length l.rest
