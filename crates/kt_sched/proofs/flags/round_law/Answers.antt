use Rattle.kt_sched.proofs.Round.{fewest-steps}
use Rattle.kt_sched.proofs.flags.round_law.Goals as goal

pub returns : goal.returns
returns c = fewest-steps c.args.enabled.now c.args.last c.told-enabled
