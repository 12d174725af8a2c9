use Rattle.std.proofs.Common.{◌≡◌, ◌++◌, replicate}
use Rattle.kt_journal.proofs.line.push_all.Given as goal

abbrev pub invariant-made : goal.invariant-made
invariant-made l = l.turns.items ≡ l.initial.turns.items ++ replicate l.counter l.thread
