use Rattle.std.proofs.Common.{◌≡◌, sym, subst, ap, ◌∙◌, slice_get}
use Rattle.kt_tree.specs.Version.{Program}
use Rattle.kt_meaning.specs.Steps.{Step}
use Rattle.kt_code.specs.declared.private.Private.{Private}
use Rattle.kt_lone.specs.Job.{types_at}
use Rattle.kt_lone.specs.Plain.{job_of}
use Rattle.kt_lone.specs.Turn.{has_ended}
use Rattle.kt_machine.specs.declared.effects.Outcome.{Outcome}
use Rattle.kt_machine.specs.declared.machine.Machine.{Machine}
use Rattle.kt_exec.specs.Renaming.{IsOld}
use Rattle.kt_machine.specs.Acts.{MayReply, own_step}
use Rattle.kt_machine.specs.Engine.{pairs_of, standing_of}
use Rattle.kt_machine.specs.Outside.{OutcomeIn, outcome_of, shown}
use Rattle.kt_machine.proofs.Acting.{both-ok, same-step, settled-left, may-reply, acted-replies, acted-waits, acted-elsewhere}
use Rattle.kt_machine.proofs.Codes.{types-in}
use Rattle.kt_machine.proofs.Heads.{stands-at}
use Rattle.kt_machine.proofs.Threads.{elsewhere-without, head-names, is-without, stands-numbered}
use Rattle.kt_machine.proofs.machine.Machine.act.Goals as goal

pub outcome-requires-clause-names : goal.outcome-requires-clause-names
outcome-requires-clause-names c =
    head-names c.args.codes.now c.args.self.now c.law.ensures.once c.requires.settled (ap (λ s. has_ended (standing_of s)) c.requires.live)

pub reply-requires-clause-settled : goal.reply-requires-clause-settled
reply-requires-clause-settled c =
    settled-left c.args.codes.now c.args.self.now c.outcome.new.self c.outcome.new.self.shared.outside c.outcome.ensures.machine c.in_ok-reply.ensures.grows
    c.requires.settled

pub reply-requires-clause-reply : goal.reply-requires-clause-reply
reply-requires-clause-reply c =
    let m = c.args.self.now in
    let mid = c.outcome.new.self in
    let stands = c.requires.settled.stands (ap (λ s. has_ended (standing_of s)) c.requires.live) in
    let k = stands-at (slice_get c.args.codes.now m.shared.version) m.private m.head stands.head in
    let outcome = c.in_ok-reply.ensures.outcome ∙ ap (λ (o : Outcome). outcome_of (pairs_of mid) o (shown mid.shared.outside)) c.in-Replies.is in
    subst (λ (s : Step Private). MayReply s c.in-Replies.reply)
    (sym (same-step c.args.codes.now m mid (ap (λ (x : Machine). x.private) c.outcome.ensures.machine) (ap (λ (x : Machine). x.shared.version) c.outcome.ensures.machine)))
    (may-reply (pairs_of m) (pairs_of mid) m.head (own_step c.args.codes.now m) c.types-types.result.now (shown m.shared.outside) (shown mid.shared.outside) c.in-Replies.reply k
    c.effect_law.ensures.reply c.requires.ready.shared outcome)

pub reply-requires-clause-names : goal.reply-requires-clause-names
reply-requires-clause-names c =
    subst (λ (o : Outcome). OutcomeIn (IsOld (pairs_of c.outcome.new.self)) o) c.in-Replies.is c.in_ok-reply.ensures.names

pub returns-in-Replies-clause-world : goal.returns-in-Replies-clause-world
returns-in-Replies-clause-world c =
    let m = c.args.self.now in
    let mid = c.outcome.new.self in
    let job = job_of c.args.job.now in
    let on = ap (λ s. has_ended (standing_of s)) c.requires.live in
    let k = stands-numbered c.args.codes.now m c.law.ensures.once c.requires.settled on in
    let outcome = c.in_ok-reply.ensures.outcome ∙ ap (λ (o : Outcome). outcome_of (pairs_of mid) o (shown mid.shared.outside)) c.in-Replies.is in
    let same_types : types_at job m.shared.version ≡ c.types-types.result.now =
    types-in job c.args.codes.now c.requires.codes m.shared.version c.in_force.result.now (ap (slice_get c.args.codes.now) (sym c.version.ensures) ∙ c.in_force.ensures)
    ∙ ap (λ (p : Program). p.types) (sym c.version-2.ensures) ∙ sym c.types-types.ensures in
    both-ok c.reply.result
    (λ is settled. is-without c.args.codes.now c.reply.new.self _ settled
    (acted-replies c.args.codes.now job m mid c.reply.new.self c.types-types.result.now same_types k mid.shared.outside c.outcome.ensures.machine
    c.in_ok-reply.ensures.grows c.requires.settled.names c.in-Replies.reply outcome is))
    c.reply.ensures.world c.reply.ensures.settled

pub returns-in-Waits-clause-settled : goal.returns-in-Waits-clause-settled
returns-in-Waits-clause-settled c =
    settled-left c.args.codes.now c.args.self.now c.outcome.new.self c.outcome.new.self.shared.outside c.outcome.ensures.machine c.in_ok-reply.ensures.grows
    c.requires.settled

pub returns-in-Waits-clause-world : goal.returns-in-Waits-clause-world
returns-in-Waits-clause-world c =
    let m = c.args.self.now in
    let mid = c.outcome.new.self in
    let job = job_of c.args.job.now in
    let on = ap (λ s. has_ended (standing_of s)) c.requires.live in
    let k = stands-numbered c.args.codes.now m c.law.ensures.once c.requires.settled on in
    let outcome = c.in_ok-reply.ensures.outcome ∙ ap (λ (o : Outcome). outcome_of (pairs_of mid) o (shown mid.shared.outside)) c.in-Waits.is in
    let same_types : types_at job m.shared.version ≡ c.types-types.result.now =
    types-in job c.args.codes.now c.requires.codes m.shared.version c.in_force.result.now (ap (slice_get c.args.codes.now) (sym c.version.ensures) ∙ c.in_force.ensures)
    ∙ ap (λ (p : Program). p.types) (sym c.version-2.ensures) ∙ sym c.types-types.ensures in
    is-without c.args.codes.now mid _ (returns-in-Waits-clause-settled c)
    (acted-waits c.args.codes.now job m mid mid c.types-types.result.now same_types k mid.shared.outside c.outcome.ensures.machine
    c.in_ok-reply.ensures.grows c.requires.settled.names outcome (c.in_ok-reply.ensures.kept.0 c.in-Waits.is))

pub elsewhere-requires-clause-settled : goal.elsewhere-requires-clause-settled
elsewhere-requires-clause-settled c =
    settled-left c.args.codes.now c.args.self.now c.outcome.new.self c.outcome.new.self.shared.outside c.outcome.ensures.machine c.in_ok-reply.ensures.grows
    c.requires.settled

pub returns-in-Elsewhere-clause-world : goal.returns-in-Elsewhere-clause-world
returns-in-Elsewhere-clause-world c =
    let m = c.args.self.now in
    let mid = c.outcome.new.self in
    let job = job_of c.args.job.now in
    let on = ap (λ s. has_ended (standing_of s)) c.requires.live in
    let k = stands-numbered c.args.codes.now m c.law.ensures.once c.requires.settled on in
    let outcome = c.in_ok-reply.ensures.outcome ∙ ap (λ (o : Outcome). outcome_of (pairs_of mid) o (shown mid.shared.outside)) c.in-Elsewhere.is in
    let same_types : types_at job m.shared.version ≡ c.types-types.result.now =
    types-in job c.args.codes.now c.requires.codes m.shared.version c.in_force.result.now (ap (slice_get c.args.codes.now) (sym c.version.ensures) ∙ c.in_force.ensures)
    ∙ ap (λ (p : Program). p.types) (sym c.version-2.ensures) ∙ sym c.types-types.ensures in
    both-ok c.elsewhere.result
    (λ is settled. acted-elsewhere c.args.codes.now job m mid c.elsewhere.new.self c.types-types.result.now same_types k mid.shared.outside c.outcome.ensures.machine
    c.in_ok-reply.ensures.grows c.requires.settled.names outcome (c.in_ok-reply.ensures.kept.1 c.in-Elsewhere.is)
    (elsewhere-without c.args.codes.now c.elsewhere.new.self mid.head _ settled is))
    c.elsewhere.ensures.world c.elsewhere.ensures.settled
