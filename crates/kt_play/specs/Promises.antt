-- What a call of `play` promises, over the call and its answer.
use Rattle.std.specs.Prelude.{◌≡◌, ◌<◌, ◌⊎◌, ◌↔◌, ℕ, List, Some, None, length, slice_get, take}
use Rattle.std.specs.Io.KnownBytes.{IsAtEnd}
use Rattle.kt_edge.specs.Count.{Rose}
use Rattle.kt_edge.specs.FileMap.{Lacks}
use Rattle.kt_edge.specs.Writes.{TakesOrFails}
use Rattle.kt_lone.specs.declared.mark.End.{End}
use Rattle.kt_lone.specs.Job.{Job}
use Rattle.kt_lone.specs.Turn.{IsComplete}
use Rattle.kt_play.specs.declared.refusal.Refusal.{Refusal}
use Rattle.kt_play.specs.declared.status.Cause.{Cause}
use Rattle.kt_play.specs.declared.status.Which.{Which}
use Rattle.kt_play.specs.declared.status.Which.TheVariants.{File, Input}
use Rattle.kt_play.specs.declared.status.Status.{Status}
use Rattle.kt_play.specs.declared.status.Status.TheVariants.{Words, ReadFault, TooLong, Refused, WriteFault, NoMemory}
use Rattle.kt_play.specs.Call.{Call, ReadsWell, WritesWell}
use Rattle.kt_play.specs.Given.{TellAll}
use Rattle.kt_play.specs.Job.{AreShort, IsShortInput, IsFirstLong, IsFirstOutside, IsJobText}
use Rattle.kt_play.specs.Order.{order_of}
use Rattle.kt_play.specs.Outcome.{IsWhole, IsPart}
use Rattle.kt_play.specs.Refused.{IsNamed, IsUnread, IsTooLong, IsRefusedFor}
use Rattle.kt_play.specs.Run.{IsAccepted}
use Rattle.kt_play.specs.Status.{status_of, refusal_answer, refusal_line}

-- ---- what a run wrote

-- the sinks took the output and the journal of a run that ended so, of the job that the words name
pub record HasPlayed (call : Call) (how : End) : Type 0 where
  pub job : Job
  pub accepted : IsAccepted call.words call.given job
  pub whole : IsWhole job how call.sinks

-- a run of the job that the words name ended, and a sink failed
pub record HasFailed (call : Call) : Type 0 where
  pub job : Job
  pub accepted : IsAccepted call.words call.given job
  pub part : IsPart job call.sinks

-- ---- what is told before the call

-- the words name files that are told, as the input is, and this holds of their bytes and of the input's
pub record IsTold (call : Call) (P : List (List ℕ) → List ℕ → Type 0) : Type 0 where
  pub names : List (List ℕ)
  pub order : order_of call.words ≡ Some names
  pub files : List (List ℕ)
  pub tells : TellAll call.given.told names files
  pub input : List ℕ
  pub left : call.given.left_before ≡ Some input
  pub fact : P files input

-- files and input are the texts of this job
abbrev pub TellsJob : Call → Job → Type 0
TellsJob call job = IsTold call (λ files input. IsJobText files input job)

-- a file is the first that is not what it has to be, for this cause, and the input is within its limit
abbrev pub TellsOutside : Call → ℕ → Cause → Type 0
TellsOutside call file cause = IsTold call (λ files input. IsFirstOutside files file cause × IsShortInput input)

-- the files are within the limit, and the input is too long
abbrev pub TellsLongInput : Call → Type 0
TellsLongInput call = IsTold call (λ files input. AreShort files × (1048576 < length input))

-- the file of that number is the first that is too long; nothing need be told of those behind it, nor of the input
abbrev pub TellsLong : Call → ℕ → Type 0
TellsLong call file = IsNamed call.words (λ names. (files : List (List ℕ)) × TellAll call.given.told (take file names) files × IsFirstLong files file)

-- the files told lack one that the words name
abbrev pub LacksFile : Call → Type 0
LacksFile call = IsNamed call.words (λ names. (place : ℕ) × (name : List ℕ) × (slice_get names place ≡ Some name) × Lacks call.given.told name)

-- ---- answers that a want of memory may come in place of

abbrev pub AnswersOrLacksMemory : Status → Status → Type 0
AnswersOrLacksMemory wanted answer = (answer ≡ wanted) ⊎ (answer ≡ NoMemory)

-- the answer is the end of a complete list of turns of the job
abbrev pub EndsOrLacksMemory : Job → Status → Type 0
EndsOrLacksMemory job answer =
    (answer ≡ NoMemory) ⊎ ((how : End) × (turns : List ℕ) × IsComplete job turns how × (answer ≡ status_of how))

-- some file could not be read, or is too long
abbrev pub IsUnreadOrLacksMemory : Status → Type 0
IsUnreadOrLacksMemory answer =
    ((n : ℕ) × (answer ≡ ReadFault (File n))) ⊎ (((n : ℕ) × (answer ≡ TooLong (File n))) ⊎ (answer ≡ NoMemory))

-- ---- the promises

pub record KeepsPromises (call : Call) (answer : Status) : Type 0 where
  -- the headline: the output and the journal of a run of the job were written, and the run ended so
  pub headline : (how : End) → answer ≡ status_of how → HasPlayed call how
  -- completeness: a job that is told is run to its end, where nothing fails
  pub complete : (job : Job) → TellsJob call job → ReadsWell call.given → WritesWell call.sinks → EndsOrLacksMemory job answer
  -- words are refused exactly where they are no order
  pub words : (answer ≡ Words) ↔ (order_of call.words ≡ None)
  -- what is said to be unread is: a file, or the input
  pub unread : (which : Which) → answer ≡ ReadFault which → IsNamed call.words (IsUnread call.given which)
  -- where the files told lack one that the words name, some file is said to be unread or too long
  pub missing : LacksFile call → IsUnreadOrLacksMemory answer
  -- what is said to be too long is: the first such file, or the input
  pub too_long : (which : Which) → answer ≡ TooLong which → IsNamed call.words (IsTooLong call.given which)
  -- the first file that is too long is said to be
  pub long : (file : ℕ) → TellsLong call file → ¬ Rose call.given.faults_before call.given.faults_after → AnswersOrLacksMemory (TooLong (File file)) answer
  -- an input that is too long is said to be
  pub long_input : TellsLongInput call → ReadsWell call.given → AnswersOrLacksMemory (TooLong Input) answer
  -- the file that is refused is the first that is not what it has to be, for this cause
  pub refused : (file : ℕ) (cause : Cause) → answer ≡ Refused file cause → IsNamed call.words (IsRefusedFor call.given file cause)
  -- the first file that is not what it has to be is refused, for its cause
  pub outside : (file : ℕ) (cause : Cause) → TellsOutside call file cause → ReadsWell call.given → AnswersOrLacksMemory (Refused file cause) answer
  -- after a refusal its line alone was written, or the log failed
  pub line : (why : Refusal) → answer ≡ refusal_answer why → call.sinks.out_untouched × TakesOrFails call.sinks.log (refusal_line why)
  -- for want of memory nothing was written
  pub no_memory : answer ≡ NoMemory → call.sinks.out_untouched × call.sinks.log_untouched
  -- where a sink failed it holds a front: output first, then the journal
  pub write_fault : answer ≡ WriteFault → HasFailed call
  -- the files told stay as they are
  pub same_files : call.given.told_after ≡ call.given.told
  -- after a run nothing of the input is left
  pub input_read : (how : End) → answer ≡ status_of how → IsAtEnd call.given.left_after
  pub input_read_too : answer ≡ WriteFault → IsAtEnd call.given.left_after
