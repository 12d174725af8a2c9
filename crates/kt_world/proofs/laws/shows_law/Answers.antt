use Rattle.kt_world.specs.Plain.{job_of}
use Rattle.kt_world.specs.Trees.{tree_engine}
use Rattle.kt_world.proofs.Showing.{same-goes-on, what-is-shown-is-told}
use Rattle.kt_world.proofs.laws.shows_law.Goals as goal

pub returns : goal.returns
returns t c =
    let trees = tree_engine (job_of c.args.job.now) in
    record { tells = λ e. what-is-shown-is-told e trees; goes_on = λ e. same-goes-on e trees }
