-- A job of the code as plain data.
use Rattle.kt_lone.specs.declared.job.Job.{Job}
use Rattle.kt_lone.specs.Job as plain

abbrev pub job_of : Job → plain.Job
job_of job = record { versions = job.versions; after = job.after; budget = job.budget; input = job.input }
