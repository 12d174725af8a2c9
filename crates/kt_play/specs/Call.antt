-- A call of `play`: the words, what it is given to read, and its two sinks.
use Rattle.std.specs.Prelude.{◌≡◌, ℕ, List, Option, String}
use Rattle.std.specs.declared.alloc.Global.{Global}
use Rattle.kt_edge.specs.Count.{Rose}
use Rattle.kt_edge.specs.Writes.{Writes, writes_of}
use Rattle.kt_play.specs.Given.{Given}
use Rattle.kt_play.specs.Order.{texts}

-- what was written into the sinks of the output and of the journal, and that each is as it was before
pub record Sinks : Type 1 where
  pub out : Writes
  pub log : Writes
  pub out_untouched : Type 0
  pub log_untouched : Type 0

-- those of two sinks, by their meanings and their counts
abbrev pub sinks_of : {O J : Type 0} → (O → Option (List ℕ)) → (O → ℕ) → (J → Option (List ℕ)) → (J → ℕ) → O → O → J → J → Sinks
sinks_of taken faults log_taken log_faults out out_after log log_after = record {
  out = writes_of taken faults out out_after;
  log = writes_of log_taken log_faults log log_after;
  out_untouched = out_after ≡ out;
  log_untouched = log_after ≡ log;
}

pub record Call : Type 1 where
  pub words : List (List ℕ)
  pub given : Given
  pub sinks : Sinks

abbrev pub call_of : List (String Global) → Given → Sinks → Call
call_of words given sinks = record { words = texts words; given = given; sinks = sinks }

-- ---- failures: a count of faults rose in the call

-- nothing that was read failed
pub record ReadsWell (given : Given) : Type 0 where
  pub files : ¬ Rose given.faults_before given.faults_after
  pub input : ¬ Rose given.input_faults_before given.input_faults_after

-- nothing that was written failed
pub record WritesWell (sinks : Sinks) : Type 0 where
  pub out : ¬ Rose sinks.out.faults_before sinks.out.faults_after
  pub log : ¬ Rose sinks.log.faults_before sinks.log.faults_after
