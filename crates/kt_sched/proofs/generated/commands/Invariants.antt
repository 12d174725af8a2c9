use Rattle.std.proofs.Common.{◌≡◌}
use Rattle.kt_sched.specs.GeneratedJob.{commands}
use Rattle.kt_sched.proofs.generated.commands.Given as goal

abbrev pub invariant-loop-i : goal.invariant-loop-i
invariant-loop-i l = l.text.items ≡ commands l.i
