-- What has become of a job that was accepted, and of the two sinks.
use Rattle.std.specs.Prelude.{◌≡◌, ℕ, ◌⊎◌, List, Result, Ok, Err}
use Rattle.kt_edge.specs.Writes.{Takes, FailsIn}
use Rattle.kt_lone.specs.declared.mark.End.{End}
use Rattle.kt_lone.specs.Job.{Job}
use Rattle.kt_play.specs.declared.report.RunFault.{RunFault}
use Rattle.kt_play.specs.declared.report.RunFault.TheVariants.{Write, NoMemory}
use Rattle.kt_play.specs.Call.{Sinks}
use Rattle.kt_play.specs.Run.{IsRun}

-- ---- the sinks

-- the output sink failed before the journal was begun, or it took the output whole and the log failed
abbrev pub FailsToWrite : Sinks → (output journal : List ℕ) → Type 0
FailsToWrite sinks output journal = (FailsIn sinks.out output × sinks.log_untouched) ⊎ (Takes sinks.out output × FailsIn sinks.log journal)

-- the output and then the journal of a run that ended so were written, or a sink failed, or nothing was written
abbrev pub IsWritten : Result End RunFault → End → Sinks → (output journal : List ℕ) → Type 0
IsWritten (Ok how) ended sinks output journal = (how ≡ ended) × Takes sinks.out output × Takes sinks.log journal
IsWritten (Err Write) ended sinks output journal = FailsToWrite sinks output journal
IsWritten (Err NoMemory) ended sinks output journal = sinks.out_untouched × sinks.log_untouched

-- ---- the job

-- a run of the job ended so, and its output and then its journal were written whole
pub record IsWhole (job : Job) (how : End) (sinks : Sinks) : Type 0 where
  pub turns : List ℕ
  pub output : List ℕ
  pub journal : List ℕ
  pub run : IsRun job turns how output journal
  pub output_taken : Takes sinks.out output
  pub journal_taken : Takes sinks.log journal

-- a run of the job ended, and the sink that failed holds a front of what it was to take
pub record IsPart (job : Job) (sinks : Sinks) : Type 0 where
  pub how : End
  pub turns : List ℕ
  pub output : List ℕ
  pub journal : List ℕ
  pub run : IsRun job turns how output journal
  pub fails : FailsToWrite sinks output journal

-- what has become of the job
abbrev pub IsOutcome : Result End RunFault → Job → Sinks → Type 0
IsOutcome (Ok how) job sinks = IsWhole job how sinks
IsOutcome (Err Write) job sinks = IsPart job sinks
IsOutcome (Err NoMemory) job sinks = sinks.out_untouched × sinks.log_untouched
