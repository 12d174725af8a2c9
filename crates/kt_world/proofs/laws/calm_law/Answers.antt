use Rattle.kt_world.specs.Plain.{job_of}
use Rattle.kt_world.specs.Trees.{tree_engine}
use Rattle.kt_world.proofs.Calming.{calm-turns-are-one-step}
use Rattle.kt_world.proofs.laws.calm_law.Goals as goal

pub returns : goal.returns
returns c = let job = job_of c.args.job.now in calm-turns-are-one-step (tree_engine job) job
