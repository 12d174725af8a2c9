use Rattle.std.proofs.Common.{◌-◌}
use Rattle.kt_lone.specs.Plain.{job_of}
use Rattle.kt_machine.proofs.RunLemmas.{IsUnderWay}
use Rattle.kt_machine.proofs.turns.take_turns.Given as goal

abbrev pub invariant-loop-how : goal.invariant-loop-how
invariant-loop-how l = IsUnderWay (job_of l.job) l.codes l.machine

abbrev pub decreases-loop-how : goal.decreases-loop-how
decreases-loop-how l = l.job.budget - l.machine.shared.turns
