-- The run that words, files and input ask for.
use Rattle.std.specs.Prelude.{◌≡◌, ℕ, List}
use Rattle.kt_lone.specs.declared.mark.End.{End}
use Rattle.kt_lone.specs.Job.{Job}
use Rattle.kt_lone.specs.Turn.{world, IsComplete}
use Rattle.kt_play.specs.Given.{Given, HoldAll, HoldsInput}
use Rattle.kt_play.specs.Job.{IsJobText}
use Rattle.kt_play.specs.Journal.{journal_of}
use Rattle.kt_play.specs.Refused.{IsNamed}

-- these turns are a complete list of the job's, which ends so, with this output and this journal
pub record IsRun (job : Job) (turns : List ℕ) (how : End) (output journal : List ℕ) : Type 0 where
  pub complete : IsComplete job turns how
  pub output_is : output ≡ (world job turns).shared.output
  pub journal_is : journal ≡ journal_of turns (world job turns).shared.marks

-- the files of these names and the input have the texts of this job, where they are told
pub record HasJob (given : Given) (job : Job) (names : List (List ℕ)) : Type 0 where
  pub files : List (List ℕ)
  pub input : List ℕ
  pub holds : HoldAll given.told names files
  pub holds_input : HoldsInput given.left_before input
  pub text : IsJobText files input job

-- the words are an order, and what they name has the texts of this job, where it is told
abbrev pub IsAccepted : List (List ℕ) → Given → Job → Type 0
IsAccepted words given job = IsNamed words (HasJob given job)
