use Rattle.kt_sched.proofs.Numbers.{among-flag, enabled-rising}
use Rattle.kt_sched.proofs.flags.enabled_law.Goals as goal

pub returns-clause-flags : goal.returns-clause-flags
returns-clause-flags c = among-flag c.args.enabled.now

pub returns-clause-rising : goal.returns-clause-rising
returns-clause-rising c = enabled-rising c.args.enabled.now
