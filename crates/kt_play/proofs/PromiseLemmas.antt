-- From an answer to the promises of `play`.
use Rattle.std.specs.Prelude.{◌≡◌}
use Rattle.kt_syntax.specs.Answer.{OneAnswer}
use Rattle.kt_play.specs.declared.refusal.Refusal.TheVariants as refusal
use Rattle.kt_play.specs.declared.status.Status.{Status}
use Rattle.kt_play.specs.Answer.{IsAnswer}
use Rattle.kt_play.specs.Call.{Call}
use Rattle.kt_play.specs.Promises.{KeepsPromises}
use Rattle.kt_play.proofs.Completeness as told
use Rattle.kt_play.proofs.Headline as run
use Rattle.kt_play.proofs.LongLemmas as files
use Rattle.kt_play.proofs.Refusals as causes

pub promises : OneAnswer → (call : Call) (s : Status) → IsAnswer call s → call.given.told_after ≡ call.given.told → KeepsPromises call s
promises one call s a same = record {
  headline = run.headline call s a;
  complete = told.complete one call s a;
  words = causes.words call s a;
  unread = λ which. causes.cause_of call s a (refusal.Read which);
  missing = files.missing call s a;
  too_long = λ which. causes.cause_of call s a (refusal.Long which);
  long = files.long call s a;
  long_input = told.long_input call s a;
  refused = λ file cause. causes.cause_of call s a (refusal.File file cause);
  outside = told.outside one call s a;
  line = run.line call s a;
  no_memory = run.no_memory call s a;
  write_fault = run.write_fault call s a;
  same_files = same;
  input_read = run.input_read call s a;
  input_read_too = run.input_read_too call s a;
}
