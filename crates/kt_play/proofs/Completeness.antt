-- What is answered where files and input are told and nothing fails: the end of the job's run, or why there is no job.
use Rattle.std.specs.Prelude.{◌≡◌, ℕ, ◌<◌, ◌⊎◌, List, length, Option, Some, IfSome, Result, Ok, Err}
use Rattle.std.proofs.Common.{inl, inr, subst, sym, ap, ◌∙◌, arith}
use Rattle.kt_syntax.specs.Answer.{OneAnswer}
use Rattle.kt_lone.specs.declared.mark.End.{End}
use Rattle.kt_lone.specs.Job.{Job}
use Rattle.kt_play.specs.declared.refusal.Refusal.{Refusal}
use Rattle.kt_play.specs.declared.refusal.Refusal.TheVariants as refusal
use Rattle.kt_play.specs.declared.report.RunFault.{RunFault}
use Rattle.kt_play.specs.declared.report.RunFault.TheVariants as fault
use Rattle.kt_play.specs.declared.status.Cause.{Cause}
use Rattle.kt_play.specs.declared.status.Which.TheVariants.{File, Input}
use Rattle.kt_play.specs.declared.status.Status.{Status}
use Rattle.kt_play.specs.declared.status.Status.TheVariants.{TooLong, Refused}
use Rattle.kt_play.specs.Answer.{IsAnswer}
use Rattle.kt_play.specs.Call.{Call, ReadsWell, WritesWell}
use Rattle.kt_play.specs.Job.{AreShort, IsShortInput, IsJobText, IsOutside}
use Rattle.kt_play.specs.Outcome.{IsOutcome}
use Rattle.kt_play.specs.Promises.{IsTold, TellsJob, TellsOutside, TellsLongInput, AnswersOrLacksMemory, EndsOrLacksMemory}
use Rattle.kt_play.specs.Refused.{IsCause}
use Rattle.kt_play.specs.Run.{HasJob, IsAccepted}
use Rattle.kt_play.specs.Status.{refusal_answer, run_answer}
use Rattle.kt_play.proofs.OneJob.{one_job, not_outside, one_outside}
use Rattle.kt_play.proofs.Refusals.{at_names, no_name}
use Rattle.kt_play.proofs.ToldLemmas.{one_list, one_input, hold_told, lacking_none, none_long}

module _ (call : Call) (P : List (List ℕ) → List ℕ → Type 0) (t : IsTold call P) where
  -- ---- what is told

  -- a job that was accepted is that of the texts told
  told_job : (job : Job) → IsAccepted call.words call.given job → IsJobText t.files t.input job
  told_job job a =
      let has = at_names call.words (HasJob call.given job) t.names t.order a in
      let same = one_list call.given.told t.names t.files has.files t.tells has.holds in
      let same_input = one_input call.given.left_before t.input has.input t.left has.holds_input in
      subst (λ (b : List (List ℕ)). IsJobText b t.input job) same (subst (λ (i : List ℕ). IsJobText has.files i job) same_input has.text)

  -- why texts within the limit may be refused, where nothing that is read fails
  abbrev MayRefuse : Refusal → Type 0
  MayRefuse refusal.Words = ⊥
  MayRefuse (refusal.Read which) = ⊥
  MayRefuse (refusal.Long (File n)) = ⊥
  MayRefuse (refusal.Long Input) = 1048576 < length t.input
  MayRefuse (refusal.File n why) = IsShortInput t.input × IsOutside t.files n why

  told_cause : (r : Refusal) → AreShort t.files → ReadsWell call.given → IsCause r call.words call.given → MayRefuse r
  told_cause refusal.Words short well cause = no_name call.words t.names t.order cause
  told_cause (refusal.Read (File n)) short well cause =
      let c = at_names call.words _ t.names t.order cause in
      elim c.cause [
        | inl rose ↦ well.files rose
        | inr lacks ↦ lacking_none call.given.told t.names t.files c.place c.name (hold_told call.given.told t.names t.files t.tells) c.named lacks
      ]
  told_cause (refusal.Read Input) short well cause = let c = at_names call.words _ t.names t.order cause in well.input c.input
  told_cause (refusal.Long (File n)) short well cause =
      let c = at_names call.words _ t.names t.order cause in none_long call.given.told n t.names t.files c.files t.tells c.holds c.long short
  told_cause (refusal.Long Input) short well cause =
      let c = at_names call.words _ t.names t.order cause in
      subst (λ (o : Option (List ℕ)). IfSome o (λ (i : List ℕ). 1048576 < length i)) t.left c.input
  told_cause (refusal.File n why) short well cause =
      let c = at_names call.words _ t.names t.order cause in
      let same = one_list call.given.told t.names t.files c.files t.tells c.holds in
      let same_input = one_input call.given.left_before t.input c.input t.left c.holds_input in
      (subst IsShortInput same_input c.short_input, subst (λ (b : List (List ℕ)). IsOutside b n why) same c.outside.1)

-- ---- the end of the run

-- no sink failed, so the run's end is the answer
ran-complete : (call : Call) (s : Status) (job : Job) → WritesWell call.sinks → (run : Result End RunFault) → IsOutcome run job call.sinks →
    s ≡ run_answer run → EndsOrLacksMemory job s
ran-complete call s job well (Ok how) o e = inr (how, o.turns, o.run.complete, e)
ran-complete call s job well (Err fault.Write) o e = absurd (elim o.fails [ inl first ↦ well.out first.0.0 | inr second ↦ well.log second.1.0 ])
ran-complete call s job well (Err fault.NoMemory) o e = inl e

-- the texts of a job are not refused
job-refused : OneAnswer → (call : Call) (job : Job) (t : TellsJob call job) (r : Refusal) → MayRefuse call _ t r → ⊥
job-refused one call job t refusal.Words may = may
job-refused one call job t (refusal.Read which) may = may
job-refused one call job t (refusal.Long (File n)) may = may
job-refused one call job t (refusal.Long Input) may = let short = t.fact.short_input in omega (arith, may, short)
job-refused one call job t (refusal.File n why) may = not_outside one t.files t.input job n why t.fact.text may.1

pub complete : OneAnswer → (call : Call) (s : Status) → IsAnswer call s → (job : Job) → TellsJob call job → ReadsWell call.given → WritesWell call.sinks →
    EndsOrLacksMemory job s
complete one call s (inl r) job t reads writes =
    let same = one_job one t.files t.input r.job job (told_job call _ t r.job r.accepted).text t.fact.text in
    ran-complete call s job writes r.run (subst (λ (k : Job). IsOutcome r.run k call.sinks) same r.outcome) r.answered
complete one call s (inr (inl x)) job t reads writes =
    absurd (job-refused one call job t x.why (told_cause call _ t x.why t.fact.short reads x.cause))
complete one call s (inr (inr l)) job t reads writes = inl l.answered

-- ---- a file that is outside

outside-refused : OneAnswer → (call : Call) (s : Status) (file : ℕ) (cause : Cause) (t : TellsOutside call file cause) (r : Refusal) → MayRefuse call _ t r →
    s ≡ refusal_answer r → s ≡ Refused file cause
outside-refused one call s file cause t refusal.Words may e = absurd may
outside-refused one call s file cause t (refusal.Read which) may e = absurd may
outside-refused one call s file cause t (refusal.Long (File n)) may e = absurd may
outside-refused one call s file cause t (refusal.Long Input) may e = absurd (let short = t.fact.1 in omega (arith, may, short))
outside-refused one call s file cause t (refusal.File n other) may e =
    let same = one_outside one t.files n file other cause may.1 t.fact.0.1 in
    e ∙ ap (λ k. Refused k other) same.0 ∙ ap (Refused file) same.1

pub outside : OneAnswer → (call : Call) (s : Status) → IsAnswer call s → (file : ℕ) (cause : Cause) → TellsOutside call file cause → ReadsWell call.given →
    AnswersOrLacksMemory (Refused file cause) s
outside one call s (inl r) file cause t reads =
    absurd (not_outside one t.files t.input r.job file cause (told_job call _ t r.job r.accepted).text t.fact.0.1)
outside one call s (inr (inl x)) file cause t reads =
    inl (outside-refused one call s file cause t x.why (told_cause call _ t x.why t.fact.0.0 reads x.cause) x.answered)
outside one call s (inr (inr l)) file cause t reads = inr l.answered

-- ---- an input that is too long

input-refused : (call : Call) (s : Status) (t : TellsLongInput call) (r : Refusal) → MayRefuse call _ t r → s ≡ refusal_answer r → s ≡ TooLong Input
input-refused call s t refusal.Words may e = absurd may
input-refused call s t (refusal.Read which) may e = absurd may
input-refused call s t (refusal.Long (File n)) may e = absurd may
input-refused call s t (refusal.Long Input) may e = e
input-refused call s t (refusal.File n why) may e = absurd (let long = t.fact.1 in let short = may.0 in omega (arith, long, short))

pub long_input : (call : Call) (s : Status) → IsAnswer call s → TellsLongInput call → ReadsWell call.given → AnswersOrLacksMemory (TooLong Input) s
long_input call s (inl r) t reads =
    absurd (let long = t.fact.1 in let within = (told_job call _ t r.job r.accepted).short_input in omega (arith, long, within))
long_input call s (inr (inl x)) t reads = inl (input-refused call s t x.why (told_cause call _ t x.why t.fact.0 reads x.cause) x.answered)
long_input call s (inr (inr l)) t reads = inr l.answered
