use Rattle.std.proofs.Common.{◌≡◌, ◌≤◌, ◌++◌, [], drop, replicate}
use Rattle.kt_journal.specs.Written.{with_turns}
use Rattle.kt_journal.proofs.Writing.{text_in}
use Rattle.kt_journal.proofs.writer.push_turns.Given as goal

-- with the lines of the turns that are not written yet it is what all of them make
abbrev pub invariant-loop-turn : goal.invariant-loop-turn
invariant-loop-turn l = record {
  text : l.text.items ++ text_in (with_turns (replicate l.count l.thread ++ drop l.turn-index l.turns) []) ≡ l.initial.text.items ++ text_in (with_turns l.turns []);
  few : l.count ≤ l.turn-index;
}
