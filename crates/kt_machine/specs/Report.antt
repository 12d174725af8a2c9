-- What a run of one thread did: so many turns of thread 0, how it ended, its output, and the journal's marks.
use Rattle.std.specs.Prelude.{◌≡◌, ℕ, ◌<◌, ◌≤◌, List, length, replicate}
use Rattle.kt_lone.specs.declared.mark.End.{End}
use Rattle.kt_lone.specs.declared.mark.Mark.{Mark}
use Rattle.kt_lone.specs.Job.{Job}
use Rattle.kt_lone.specs.Turn.{world, IsComplete}

pub record HasRun (job : Job) (turns : ℕ) (how : End) (output : List ℕ) (marks : List Mark) : Type 0 where
  pub complete : IsComplete job (replicate turns 0) how
  pub output_is : output ≡ (world job (replicate turns 0)).shared.output
  pub marks_are : marks ≡ (world job (replicate turns 0)).shared.marks

-- what is asked of a job: one version or more, few requests, and some turns
pub record IsWellFormedJob (job : Job) : Type 0 where
  pub some : 0 < length job.versions
  pub few : length job.versions ≤ 16
  pub requests : length job.after ≤ 64
  pub some_turns : 0 < job.budget
  pub few_turns : job.budget ≤ 10000000
