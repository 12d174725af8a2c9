-- From an answer to what was run, what was written and what was read.
use Rattle.std.specs.Prelude.{◌≡◌, Result, Ok, Err}
use Rattle.std.specs.Io.KnownBytes.{IsAtEnd}
use Rattle.std.proofs.Common.{inl, inr, subst, sym, ◌∙◌}
use Rattle.kt_edge.specs.Writes.{TakesOrFails}
use Rattle.kt_lone.specs.declared.mark.End.{End}
use Rattle.kt_lone.specs.Job.{Job}
use Rattle.kt_play.specs.declared.refusal.Refusal.{Refusal}
use Rattle.kt_play.specs.declared.report.RunFault.{RunFault}
use Rattle.kt_play.specs.declared.report.RunFault.TheVariants as fault
use Rattle.kt_play.specs.declared.status.Status.{Status}
use Rattle.kt_play.specs.declared.status.Status.TheVariants.{WriteFault, NoMemory}
use Rattle.kt_play.specs.Answer.{IsAnswer}
use Rattle.kt_play.specs.Call.{Call}
use Rattle.kt_play.specs.Outcome.{IsWhole, IsOutcome}
use Rattle.kt_play.specs.Promises.{HasPlayed, HasFailed}
use Rattle.kt_play.specs.Run.{IsAccepted}
use Rattle.kt_play.specs.Status.{status_of, run_answer, refusal_answer, refusal_line}
use Rattle.kt_play.proofs.StatusLemmas.{same_end, same_refusal, same_fault, end_or_refusal, end_or_fault, refusal_or_fault}

-- ---- the headline

played : (call : Call) (job : Job) → IsAccepted call.words call.given job → (run : Result End RunFault) → IsOutcome run job call.sinks → (how : End) →
    run_answer run ≡ status_of how → HasPlayed call how
played call job a (Ok h) o how e = record { job = job; accepted = a; whole = subst (λ (k : End). IsWhole job k call.sinks) (same_end h how e) o }
played call job a (Err f) o how e = absurd (end_or_fault how f (sym e))

pub headline : (call : Call) (s : Status) → IsAnswer call s → (how : End) → s ≡ status_of how → HasPlayed call how
headline call s (inl r) how e = played call r.job r.accepted r.run r.outcome how (sym r.answered ∙ e)
headline call s (inr (inl t)) how e = absurd (end_or_refusal how t.why (sym e ∙ t.answered))
headline call s (inr (inr l)) how e = absurd (end_or_fault how fault.NoMemory (sym e ∙ l.answered))

-- ---- what was written

-- the answer of a run is that to no refusal
pub run_or_refusal : (run : Result End RunFault) (why : Refusal) → run_answer run ≡ refusal_answer why → ⊥
run_or_refusal (Ok how) why e = end_or_refusal how why e
run_or_refusal (Err f) why e = refusal_or_fault why f (sym e)

pub line : (call : Call) (s : Status) → IsAnswer call s → (why : Refusal) → s ≡ refusal_answer why →
    call.sinks.out_untouched × TakesOrFails call.sinks.log (refusal_line why)
line call s (inl r) why e = absurd (run_or_refusal r.run why (sym r.answered ∙ e))
line call s (inr (inl t)) why e =
    (t.unwritten, subst (λ (k : Refusal). TakesOrFails call.sinks.log (refusal_line k)) (same_refusal t.why why (sym t.answered ∙ e)) t.line)
line call s (inr (inr l)) why e = absurd (refusal_or_fault why fault.NoMemory (sym e ∙ l.answered))

nothing : (call : Call) (job : Job) (run : Result End RunFault) → IsOutcome run job call.sinks → run_answer run ≡ NoMemory →
    call.sinks.out_untouched × call.sinks.log_untouched
nothing call job (Ok how) o e = absurd (end_or_fault how fault.NoMemory e)
nothing call job (Err fault.Write) o e = absurd (let f = same_fault fault.Write fault.NoMemory e in cc)
nothing call job (Err fault.NoMemory) o e = o

pub no_memory : (call : Call) (s : Status) → IsAnswer call s → s ≡ NoMemory → call.sinks.out_untouched × call.sinks.log_untouched
no_memory call s (inl r) e = nothing call r.job r.run r.outcome (sym r.answered ∙ e)
no_memory call s (inr (inl t)) e = absurd (refusal_or_fault t.why fault.NoMemory (sym t.answered ∙ e))
no_memory call s (inr (inr l)) e = (l.unwritten, l.unlogged)

failed : (call : Call) (job : Job) → IsAccepted call.words call.given job → (run : Result End RunFault) → IsOutcome run job call.sinks →
    run_answer run ≡ WriteFault → HasFailed call
failed call job a (Ok how) o e = absurd (end_or_fault how fault.Write e)
failed call job a (Err fault.Write) o e = record { job = job; accepted = a; part = o }
failed call job a (Err fault.NoMemory) o e = absurd (let f = same_fault fault.NoMemory fault.Write e in cc)

no_write_fault : (s : Status) → s ≡ NoMemory → s ≡ WriteFault → ⊥
no_write_fault s n e = let f = same_fault fault.NoMemory fault.Write (sym n ∙ e) in cc

pub write_fault : (call : Call) (s : Status) → IsAnswer call s → s ≡ WriteFault → HasFailed call
write_fault call s (inl r) e = failed call r.job r.accepted r.run r.outcome (sym r.answered ∙ e)
write_fault call s (inr (inl t)) e = absurd (refusal_or_fault t.why fault.Write (sym t.answered ∙ e))
write_fault call s (inr (inr l)) e = absurd (no_write_fault s l.answered e)

-- ---- what was read

pub input_read : (call : Call) (s : Status) → IsAnswer call s → (how : End) → s ≡ status_of how → IsAtEnd call.given.left_after
input_read call s (inl r) how e = r.at_end
input_read call s (inr (inl t)) how e = absurd (end_or_refusal how t.why (sym e ∙ t.answered))
input_read call s (inr (inr l)) how e = absurd (end_or_fault how fault.NoMemory (sym e ∙ l.answered))

pub input_read_too : (call : Call) (s : Status) → IsAnswer call s → s ≡ WriteFault → IsAtEnd call.given.left_after
input_read_too call s (inl r) e = r.at_end
input_read_too call s (inr (inl t)) e = absurd (refusal_or_fault t.why fault.Write (sym t.answered ∙ e))
input_read_too call s (inr (inr l)) e = absurd (no_write_fault s l.answered e)
