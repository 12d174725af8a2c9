-- A job of the code as plain data.
use Rattle.std.specs.Prelude.{map}
use Rattle.xf_plan.specs.Plain.{plan_of}
use Rattle.kt_world.specs.declared.job.Job.{Job}
use Rattle.kt_world.specs.Job as plain

abbrev pub job_of : Job → plain.Job
job_of job = record { versions = job.versions; plans = map plan_of job.plans; after = job.after; budget = job.budget; input = job.input }
