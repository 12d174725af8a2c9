use Rattle.kt_lone.specs.Plain.{job_of}
use Rattle.kt_machine.proofs.SameRuns.{worlds-same}
use Rattle.kt_machine.proofs.laws.same_law.Goals as goal

pub returns : goal.returns
returns c = λ are typed may. worlds-same (job_of c.args.job.now) c.args.codes.now are typed c.args.turns.now may
