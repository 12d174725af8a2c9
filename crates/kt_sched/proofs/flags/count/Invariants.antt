use Rattle.std.proofs.Common.{◌≡◌, ◌+◌, ◌≤◌, length}
use Rattle.kt_sched.specs.Enabled.{enabled_threads}
use Rattle.kt_sched.proofs.Numbers.{rest_from}
use Rattle.kt_sched.proofs.flags.count.Given as goal

abbrev pub invariant-loop-is_enabled : goal.invariant-loop-is_enabled
invariant-loop-is_enabled l = (l.count ≤ l.is_enabled-index) × (l.count + length (rest_from l.enabled l.is_enabled-index) ≡ length (enabled_threads l.enabled))
