-- What is answered where a file is lacking or too long; nothing need be told of the input, nor of the files behind it.
use Rattle.std.specs.Prelude.{◌≡◌, ℕ, ◌⊎◌, List}
use Rattle.std.proofs.Common.{inl, inr, ap, ◌∙◌}
use Rattle.kt_edge.specs.Count.{Rose}
use Rattle.kt_play.specs.declared.refusal.Refusal.{Refusal}
use Rattle.kt_play.specs.declared.refusal.Refusal.TheVariants as refusal
use Rattle.kt_play.specs.declared.status.Which.TheVariants.{File, Input}
use Rattle.kt_play.specs.declared.status.Status.{Status}
use Rattle.kt_play.specs.declared.status.Status.TheVariants.{TooLong}
use Rattle.kt_play.specs.Answer.{IsAnswer}
use Rattle.kt_play.specs.Call.{Call}
use Rattle.kt_play.specs.Given.{HoldAll}
use Rattle.kt_play.specs.Job.{AreShort}
use Rattle.kt_play.specs.Promises.{LacksFile, TellsLong, AnswersOrLacksMemory, IsUnreadOrLacksMemory}
use Rattle.kt_play.specs.Refused.{IsCause}
use Rattle.kt_play.specs.Run.{HasJob}
use Rattle.kt_play.specs.Status.{refusal_answer}
use Rattle.kt_play.proofs.Refusals.{at_names, no_name}
use Rattle.kt_play.proofs.ToldLemmas.{lacking_none, one_long, held_long, unread_long}

-- ---- a file that is lacking

-- files that are held are none of those that are lacking
held_or_lacking : (call : Call) (files : List (List ℕ)) (k : LacksFile call) → HoldAll call.given.told k.names files → ⊥
held_or_lacking call files k h = lacking_none call.given.told k.names files k.fact.0 k.fact.1 h k.fact.2 k.fact.3

away-missing : (call : Call) (s : Status) (k : LacksFile call) (r : Refusal) → IsCause r call.words call.given → s ≡ refusal_answer r → IsUnreadOrLacksMemory s
away-missing call s k refusal.Words cause e = absurd (no_name call.words k.names k.order cause)
away-missing call s k (refusal.Read (File m)) cause e = inl (m, e)
away-missing call s k (refusal.Read Input) cause e =
    let c = at_names call.words _ k.names k.order cause in absurd (held_or_lacking call c.files k c.holds)
away-missing call s k (refusal.Long (File m)) cause e = inr (inl (m, e))
away-missing call s k (refusal.Long Input) cause e =
    let c = at_names call.words _ k.names k.order cause in absurd (held_or_lacking call c.files k c.holds)
away-missing call s k (refusal.File m why) cause e =
    let c = at_names call.words _ k.names k.order cause in absurd (held_or_lacking call c.files k c.holds)

pub missing : (call : Call) (s : Status) → IsAnswer call s → LacksFile call → IsUnreadOrLacksMemory s
missing call s (inl r) k =
    let has = at_names call.words (HasJob call.given r.job) k.names k.order r.accepted in absurd (held_or_lacking call has.files k has.holds)
missing call s (inr (inl x)) k = away-missing call s k x.why x.cause x.answered
missing call s (inr (inr l)) k = inr (inr l.answered)

-- ---- a file that is too long

-- files that are held are none of those that are too long
held_or_long : (call : Call) (n : ℕ) (files : List (List ℕ)) (t : TellsLong call n) → HoldAll call.given.told t.names files → AreShort files → ⊥
held_or_long call n files t h short = held_long call.given.told t.names t.fact.0 files n t.fact.1 h t.fact.2 short

away-long : (call : Call) (s : Status) (n : ℕ) (t : TellsLong call n) (r : Refusal) → ¬ Rose call.given.faults_before call.given.faults_after →
    IsCause r call.words call.given → s ≡ refusal_answer r → s ≡ TooLong (File n)
away-long call s n t refusal.Words calm cause e = absurd (no_name call.words t.names t.order cause)
away-long call s n t (refusal.Read (File m)) calm cause e =
    let c = at_names call.words _ t.names t.order cause in
    absurd (elim c.cause [
      | inl rose ↦ calm rose
      | inr lacks ↦ unread_long call.given.told t.names t.fact.0 c.files n c.place c.name t.fact.1 c.holds c.short c.named lacks t.fact.2
    ])
away-long call s n t (refusal.Read Input) calm cause e =
    let c = at_names call.words _ t.names t.order cause in absurd (held_or_long call n c.files t c.holds c.short)
away-long call s n t (refusal.Long (File m)) calm cause e =
    let c = at_names call.words _ t.names t.order cause in
    let same : m ≡ n = one_long call.given.told t.names t.fact.0 c.files n m t.fact.1 c.holds t.fact.2 c.long in
    e ∙ ap (λ (k : ℕ). TooLong (File k)) same
away-long call s n t (refusal.Long Input) calm cause e =
    let c = at_names call.words _ t.names t.order cause in absurd (held_or_long call n c.files t c.holds c.short)
away-long call s n t (refusal.File m why) calm cause e =
    let c = at_names call.words _ t.names t.order cause in absurd (held_or_long call n c.files t c.holds c.outside.0)

pub long : (call : Call) (s : Status) → IsAnswer call s → (n : ℕ) → TellsLong call n → ¬ Rose call.given.faults_before call.given.faults_after →
    AnswersOrLacksMemory (TooLong (File n)) s
long call s (inl r) n t calm =
    let has = at_names call.words (HasJob call.given r.job) t.names t.order r.accepted in absurd (held_or_long call n has.files t has.holds has.text.short)
long call s (inr (inl x)) n t calm = inl (away-long call s n t x.why calm x.cause x.answered)
long call s (inr (inr l)) n t calm = inr l.answered
