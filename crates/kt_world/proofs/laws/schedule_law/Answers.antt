use Rattle.kt_world.specs.Plain.{job_of}
use Rattle.kt_world.proofs.Choosing.{a-list, one-list}
use Rattle.kt_world.proofs.laws.schedule_law.Goals as goal

pub returns : goal.returns
returns c = record { some = a-list (job_of c.args.job.now); one = one-list (job_of c.args.job.now) }
