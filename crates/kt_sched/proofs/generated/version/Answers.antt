use Rattle.kt_sched.specs.GeneratedJob.{up_to_a_new_key, up_to_the_sum, up_to_the_summary}
use Rattle.kt_sched.proofs.generated.version.Goals as goal

pub returns : goal.returns
unfolding up_to_a_new_key up_to_the_sum up_to_the_summary
returns c = c.joined.ensures
