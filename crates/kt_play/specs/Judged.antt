-- Judging texts: why a text is no version, and texts are no job; what is asked of a job that runs.
use Rattle.std.specs.Prelude.{◌≡◌, ℕ, List}
use Rattle.kt_machine.specs.Report.{IsWellFormedJob}
use Rattle.kt_lone.specs.Job.{Job}
use Rattle.kt_lone.specs.Typed.{IsTypedJob}
use Rattle.kt_play.specs.declared.refusal.NoJob.{NoJob}
use Rattle.kt_play.specs.declared.refusal.NoJob.TheVariants.{File, NoMemory}
use Rattle.kt_play.specs.Job.{IsOutside}
use Rattle.kt_play.specs.Text.{IsFaultOf}

-- the n-th file has not the text of a version
abbrev pub IsNoVersion : NoJob → List ℕ → ℕ → Type 0
IsNoVersion (File m cause) bytes n = (m ≡ n) × IsFaultOf bytes cause
IsNoVersion NoMemory bytes n = Unit {0}

-- the texts are those of no job
abbrev pub IsNoJob : NoJob → List (List ℕ) → Type 0
IsNoJob (File m cause) files = IsOutside files m cause
IsNoJob NoMemory files = Unit {0}

-- what a run asks of a job: few versions and requests, versions that are programs, an input of bytes
pub record IsReadyJob (job : Job) : Type 0 where
  pub well_formed : IsWellFormedJob job
  pub typed : IsTypedJob job
