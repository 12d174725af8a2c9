-- From a run and what was written of it to what has become of the job.
use Rattle.std.specs.Prelude.{◌≡◌, ℕ, List, replicate, Result, Ok, Err}
use Rattle.std.proofs.Common.{ap, subst, sym}
use Rattle.kt_machine.specs.Report.{HasRun}
use Rattle.kt_lone.specs.declared.mark.End.{End}
use Rattle.kt_lone.specs.declared.mark.Mark.{Mark}
use Rattle.kt_lone.specs.Job.{Job}
use Rattle.kt_play.specs.declared.report.RunFault.{RunFault}
use Rattle.kt_play.specs.declared.report.RunFault.TheVariants.{Write, NoMemory}
use Rattle.kt_play.specs.Call.{Sinks}
use Rattle.kt_play.specs.Journal.{journal_of}
use Rattle.kt_play.specs.Outcome.{IsWhole, IsWritten, IsOutcome}
use Rattle.kt_play.specs.Run.{IsRun}

-- the run that a report tells
run_of : (job : Job) (turns : ℕ) (how : End) (output : List ℕ) (marks : List Mark) → HasRun job turns how output marks →
    IsRun job (replicate turns 0) how output (journal_of (replicate turns 0) marks)
run_of job turns how output marks r = record {
  complete = r.complete;
  output_is = r.output_is;
  journal_is = ap (journal_of (replicate turns 0)) r.marks_are;
}

pub outcome : (run : Result End RunFault) (job : Job) (turns : ℕ) (ended : End) (output : List ℕ) (marks : List Mark) (sinks : Sinks) →
    HasRun job turns ended output marks → IsWritten run ended sinks output (journal_of (replicate turns 0) marks) → IsOutcome run job sinks
outcome (Ok how) job turns ended output marks sinks r w =
    subst (λ (k : End). IsWhole job k sinks) (sym w.0) (record {
      turns = replicate turns 0;
      output = output;
      journal = journal_of (replicate turns 0) marks;
      run = run_of job turns ended output marks r;
      output_taken = w.1;
      journal_taken = w.2;
    })
outcome (Err Write) job turns ended output marks sinks r w = record {
  how = ended;
  turns = replicate turns 0;
  output = output;
  journal = journal_of (replicate turns 0) marks;
  run = run_of job turns ended output marks r;
  fails = w;
}
outcome (Err NoMemory) job turns ended output marks sinks r w = w
