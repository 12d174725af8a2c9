use Rattle.std.proofs.Common.{◌≡◌, nat_le}
use Rattle.std.specs.Prelude.{find}
use Rattle.kt_sched.specs.Enabled.{enabled_threads}
use Rattle.kt_sched.proofs.Numbers.{rest_from}
use Rattle.kt_sched.proofs.flags.first_from.Given as goal

abbrev pub invariant-loop-thread : goal.invariant-loop-thread
invariant-loop-thread l = find (λ t. nat_le l.start t) (rest_from l.enabled l.thread) ≡ find (λ t. nat_le l.start t) (enabled_threads l.enabled)
