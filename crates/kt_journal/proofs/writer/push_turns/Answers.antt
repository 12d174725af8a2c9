use Rattle.std.proofs.Common.{ap, arith}
use Rattle.kt_journal.proofs.Writing.{step_same, step_other}
use Rattle.kt_journal.proofs.writer.push_turns.Goals as goal
use Rattle.kt_journal.proofs.writer.push_turns.Goals.{then-turn-thread, else-turn-thread+in_ok-push_stretch}

pub loop-turn-preserved : goal.loop-turn-preserved
loop-turn-preserved c =
    elim c.if-turn-thread.branch [
      | then-turn-thread w ↦ record {
        text =
            step_same c.loop-turn.text.items _ c.if-turn-thread.text.items c.loop-turn.count c.loop-turn.thread c.if-turn-thread.count c.if-turn-thread.thread
            c.loop-turn.turn-index c.args.turns.now (ap (λ v. v.items) w.text-is) w.thread-is w.count-is c.loop-turn-test.true w.if-turn-thread.true
            c.loop-turn.invariant.text;
        few = omega arith;
      }
      | else-turn-thread+in_ok-push_stretch w ↦ record {
        text =
            step_other c.loop-turn.text.items _ w.push_stretch.new.text.items c.if-turn-thread.text.items c.loop-turn.count c.loop-turn.thread c.if-turn-thread.count
            c.if-turn-thread.thread c.loop-turn.turn-index c.args.turns.now (ap (λ v. v.items) w.text-is) w.thread-is w.count-is c.loop-turn-test.true
            w.if-turn-thread.false w.in_ok-push_stretch.ensures c.loop-turn.invariant.text;
        few = omega arith;
      }
    ]
