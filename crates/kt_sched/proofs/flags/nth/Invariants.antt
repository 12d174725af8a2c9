use Rattle.std.proofs.Common.{◌≡◌}
use Rattle.kt_sched.specs.Enabled.{enabled_threads}
use Rattle.kt_sched.proofs.Numbers.{IsLeft, rest_from}
use Rattle.kt_sched.proofs.flags.nth.Given as goal

abbrev pub invariant-loop-is_enabled : goal.invariant-loop-is_enabled
invariant-loop-is_enabled l = (l.thread ≡ l.is_enabled-index) × IsLeft (rest_from l.enabled l.is_enabled-index) l.left (enabled_threads l.enabled) l.before
