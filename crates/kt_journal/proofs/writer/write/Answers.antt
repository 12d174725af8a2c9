use Rattle.std.proofs.Common.{arith}
use Rattle.kt_world.specs.declared.mark.Mark.TheVariants.{Ask}
use Rattle.std.specs.Option.{option_copied}
use Rattle.kt_world.specs.Plain.{job_of}
use Rattle.kt_journal.proofs.Writing.{step_mark}
use Rattle.kt_journal.proofs.writer.write.Goals as goal

pub loop-mark-preserved : goal.loop-mark-preserved
loop-mark-preserved c = record {
  text =
      step_mark c.kit_of-kit.result (job_of c.args.job.now) c.loop-mark.text.items _ c.push_turns.new.text.items c.push_mark.new.text.items c.split_at.result.0.now c.split_at.result.1.now
      c.loop-mark.version c.version_after-version.result c.loop-mark.made c.turn_of-turn.result c.saturating_sub-count.result c.min.result (option_copied c.version_at.result) c.loop-mark.rest.now c.args.marks.now c.loop-mark.mark-index
      (Ask 0 0 0) c.loop-mark-test.true c.version_at.ensures c.version_after-version.ensures.version c.turn_of-turn.ensures c.saturating_sub-count.ensures c.min.ensures c.split_at.ensures.front c.split_at.ensures.back
      c.in_ok-push_turns.ensures c.in_ok-push_mark.ensures c.loop-mark.invariant.text;
  few = omega (arith, c.version_after-version.ensures.within);
}
