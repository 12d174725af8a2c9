use Rattle.std.proofs.Common.{◌<◌}
use Rattle.std.proofs.Math.Nat.{mod-lt}
use Rattle.kt_sched.proofs.Numbers.{some-enabled}
use Rattle.kt_sched.proofs.choice.pick_mixed.Goals as goal

pub nonzero_rem-x : goal.nonzero_rem-x
nonzero_rem-x c = rw c.count-count.ensures (some-enabled c.args.enabled.now c.requires)

pub nth-requires : goal.nth-requires
nth-requires c =
    let some : 0 < c.count-count.result = rw c.count-count.ensures (some-enabled c.args.enabled.now c.requires) in
    rw (← c.count-count.ensures) (mod-lt _ some)

pub returns-clause-thread : goal.returns-clause-thread
returns-clause-thread c = rw (← c.count-count.ensures) c.nth.ensures.thread
