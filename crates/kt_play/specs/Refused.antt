-- Why words, files and input ask for no run.
use Rattle.std.specs.Prelude.{◌≡◌, ◌≢◌, ℕ, ◌<◌, List, Some, None, IfSome, length}
use Rattle.kt_edge.specs.declared.ends.ReadEnd.{ReadEnd}
use Rattle.kt_edge.specs.declared.ends.ReadEnd.TheVariants as end
use Rattle.kt_edge.specs.Count.{Rose}
use Rattle.kt_play.specs.declared.refusal.NoJob.{NoJob}
use Rattle.kt_play.specs.declared.refusal.NoJob.TheVariants as no_job
use Rattle.kt_play.specs.declared.refusal.Refusal.{Refusal}
use Rattle.kt_play.specs.declared.refusal.Refusal.TheVariants as refusal
use Rattle.kt_play.specs.declared.refusal.UnreadFile.{UnreadFile}
use Rattle.kt_play.specs.declared.refusal.Unready.{Unready}
use Rattle.kt_play.specs.declared.refusal.Unready.TheVariants.{Refused, NoMemory}
use Rattle.kt_play.specs.declared.status.Cause.{Cause}
use Rattle.kt_play.specs.declared.status.Which.{Which}
use Rattle.kt_play.specs.declared.status.Which.TheVariants.{File, Input}
use Rattle.kt_play.specs.Given.{Given, HoldAll, HoldsInput}
use Rattle.kt_play.specs.Job.{AreShort, IsShortInput, IsFirstOutside}
use Rattle.kt_play.specs.Order.{order_of}
use Rattle.kt_play.specs.Reading.{IsUnreadFile, IsLongFile}

-- the words are an order, and P holds of the names of its files
pub record IsNamed (words : List (List ℕ)) (P : List (List ℕ) → Type 0) : Type 0 where
  pub names : List (List ℕ)
  pub order : order_of words ≡ Some names
  pub fact : P names

-- ---- causes, by the names of the order's files

-- all files were read and are within the limit, and this holds of the input
pub record IsBehindFiles (given : Given) (fact : Type 0) (names : List (List ℕ)) : Type 0 where
  pub files : List (List ℕ)
  pub holds : HoldAll given.told names files
  pub short : AreShort files
  pub input : fact

-- this could not be read: a file, or the input, whose count of faults rose
abbrev pub IsUnread : Given → Which → List (List ℕ) → Type 0
IsUnread given (File n) names = IsUnreadFile given.told given.faults_before given.faults_after n names
IsUnread given Input names = IsBehindFiles given (Rose given.input_faults_before given.input_faults_after) names

-- this is too long: the first such file, or the input, where they are told
abbrev pub IsTooLong : Given → Which → List (List ℕ) → Type 0
IsTooLong given (File n) names = IsLongFile given.told n names
IsTooLong given Input names = IsBehindFiles given (IfSome given.left_before (λ rest. 1048576 < length rest)) names

-- the file of that number is the first that is not what it has to be, for this cause, where files are told
pub record IsRefusedFor (given : Given) (n : ℕ) (cause : Cause) (names : List (List ℕ)) : Type 0 where
  pub files : List (List ℕ)
  pub input : List ℕ
  pub holds : HoldAll given.told names files
  pub holds_input : HoldsInput given.left_before input
  pub short_input : IsShortInput input
  pub outside : IsFirstOutside files n cause

-- ---- refusals

-- the cause of a refusal
abbrev pub IsCause : Refusal → List (List ℕ) → Given → Type 0
IsCause refusal.Words words given = order_of words ≡ None
IsCause (refusal.Read which) words given = IsNamed words (IsUnread given which)
IsCause (refusal.Long which) words given = IsNamed words (IsTooLong given which)
IsCause (refusal.File n cause) words given = IsNamed words (IsRefusedFor given n cause)

-- why there is no job to run: words that are no order are refused without memory
abbrev pub IsUnready : Unready → List (List ℕ) → Given → Type 0
IsUnready (Refused why) words given = IsCause why words given
IsUnready NoMemory words given = order_of words ≢ None

-- ---- from each stage to a refusal

abbrev pub of_file_end : ℕ → ReadEnd → Unready
of_file_end n end.Failed = Refused (refusal.Read (File n))
of_file_end n end.TooLong = Refused (refusal.Long (File n))
of_file_end n end.NoMemory = NoMemory

-- a file that was not read
abbrev pub of_file : UnreadFile → Unready
of_file unread = of_file_end unread.number unread.end

-- an input that was not read
abbrev pub of_input : ReadEnd → Unready
of_input end.Failed = Refused (refusal.Read Input)
of_input end.TooLong = Refused (refusal.Long Input)
of_input end.NoMemory = NoMemory

-- texts that are no job
abbrev pub of_no_job : NoJob → Unready
of_no_job (no_job.File n cause) = Refused (refusal.File n cause)
of_no_job no_job.NoMemory = NoMemory
