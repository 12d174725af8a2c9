use Rattle.std.proofs.Common.{◌+◌, ◌<◌, sym, subst, ap, length}
use Rattle.kt_lone.specs.Plain.{job_of}
use Rattle.kt_lone.specs.Turn.{has_ended}
use Rattle.kt_lone.specs.World.{Shared}
use Rattle.kt_machine.specs.Engine.{standing_of}
use Rattle.kt_machine.proofs.Acting.{on-ok}
use Rattle.kt_machine.proofs.Closings.{decided-restart, decided-refuse, decided-ended}
use Rattle.kt_machine.proofs.Codes.{code-within}
use Rattle.kt_machine.proofs.Threads.{ended-kept, stands-numbered}
use Rattle.kt_machine.proofs.machine.Machine.decide.Goals as goal

pub returns-in-Some-clause-world : goal.returns-in-Some-clause-world
returns-in-Some-clause-world c =
    let m = c.args.self.now in
    let k = stands-numbered c.args.codes.now m c.law.ensures.once c.requires.settled (ap (λ s. has_ended (standing_of s)) c.in-Parked.is) in
    on-ok c.restart.result
    (decided-restart c.args.codes.now c.args.old.now c.args.new.now m c.restart.new.self c.in-Parked.is k c.next_point.result c.in-Some.point
    c.next_point.ensures.point c.in-Some.is)
    c.restart.ensures.world

pub returns-in-None-clause-world : goal.returns-in-None-clause-world
returns-in-None-clause-world c =
    let m = c.args.self.now in
    let k = stands-numbered c.args.codes.now m c.law.ensures.once c.requires.settled (ap (λ s. has_ended (standing_of s)) c.in-Parked.is) in
    on-ok c.refuse.result
    (decided-refuse c.args.codes.now c.args.old.now c.args.new.now m c.refuse.new.self c.in-Parked.is k c.next_point.result
    c.next_point.ensures.point c.in-None.is)
    c.refuse.ensures.world

pub returns-in-Ended-clause-world : goal.returns-in-Ended-clause-world
returns-in-Ended-clause-world c =
    on-ok c.update.result
    (λ shared. decided-ended c.args.codes.now c.args.old.now c.args.new.now c.args.self.now c.update.new.self c.in-Ended.is
    (shared c.args.codes.now) c.update.ensures.thread (c.requires.settled.ended c.in-Ended.is))
    c.update.ensures.shared

pub returns-in-Ended-clause-version : goal.returns-in-Ended-clause-version
returns-in-Ended-clause-version c =
    let v = c.args.self.now.shared.version in
    let within = code-within (job_of c.args.job.now) c.args.codes.now c.requires.codes (v + 1) c.args.new.now c.requires.new in
    on-ok c.update.result (λ shared. subst (λ k. k < length c.args.codes.now) (sym (ap (λ (s : Shared). s.version) (shared c.args.codes.now))) within)
    c.update.ensures.shared

pub returns-in-Ended-clause-settled : goal.returns-in-Ended-clause-settled
returns-in-Ended-clause-settled c =
    on-ok c.update.result (λ (u : _). ended-kept c.args.codes.now c.args.self.now c.update.new.self c.in-Ended.is c.update.ensures.thread c.requires.settled)
    c.update.ensures.pairs
