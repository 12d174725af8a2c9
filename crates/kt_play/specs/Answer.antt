-- What `play` does on the way to its promises: it runs a job, or turns the words, files and input away, or lacks memory.
use Rattle.std.specs.Prelude.{◌≡◌, ◌≢◌, ◌⊎◌, None, Result}
use Rattle.std.specs.Io.KnownBytes.{IsAtEnd}
use Rattle.kt_edge.specs.Writes.{TakesOrFails}
use Rattle.kt_lone.specs.declared.mark.End.{End}
use Rattle.kt_lone.specs.Job.{Job}
use Rattle.kt_play.specs.declared.refusal.Refusal.{Refusal}
use Rattle.kt_play.specs.declared.report.RunFault.{RunFault}
use Rattle.kt_play.specs.declared.status.Status.{Status}
use Rattle.kt_play.specs.declared.status.Status.TheVariants.{NoMemory}
use Rattle.kt_play.specs.Call.{Call}
use Rattle.kt_play.specs.Order.{order_of}
use Rattle.kt_play.specs.Outcome.{IsOutcome}
use Rattle.kt_play.specs.Refused.{IsCause}
use Rattle.kt_play.specs.Run.{IsAccepted}
use Rattle.kt_play.specs.Status.{refusal_answer, refusal_line, run_answer}

-- a job was accepted, its input read to the end, and this has become of it
pub record IsRan (call : Call) (answer : Status) : Type 0 where
  pub job : Job
  pub accepted : IsAccepted call.words call.given job
  pub at_end : IsAtEnd call.given.left_after
  pub run : Result End RunFault
  pub outcome : IsOutcome run job call.sinks
  pub answered : answer ≡ run_answer run

-- nothing was run, for this cause, and its line was written, or the log failed
pub record IsTurnedAway (call : Call) (answer : Status) : Type 0 where
  pub why : Refusal
  pub cause : IsCause why call.words call.given
  pub answered : answer ≡ refusal_answer why
  pub line : TakesOrFails call.sinks.log (refusal_line why)
  pub unwritten : call.sinks.out_untouched

-- memory was wanting before a job was accepted or a refusal told; words that are no order are refused without memory
pub record LacksMemory (call : Call) (answer : Status) : Type 0 where
  pub order : order_of call.words ≢ None
  pub answered : answer ≡ NoMemory
  pub unwritten : call.sinks.out_untouched
  pub unlogged : call.sinks.log_untouched

abbrev pub IsAnswer : Call → Status → Type 0
IsAnswer call answer = IsRan call answer ⊎ (IsTurnedAway call answer ⊎ LacksMemory call answer)
