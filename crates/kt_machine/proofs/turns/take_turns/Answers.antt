use Rattle.std.proofs.Common.{Some, sym, ap, ◌∙◌}
use Rattle.kt_lone.specs.Plain.{job_of}
use Rattle.kt_machine.proofs.RunLemmas.{at_first, is_ready, live, nearer, ran, under-way, version-within}
use Rattle.kt_machine.proofs.turns.take_turns.Goals as goal

pub loop-how-init : goal.loop-how-init
loop-how-init c =
    at_first (job_of c.args.job.now) c.args.codes.now c.requires.codes c.requires.typed c.in_ok-machine.machine
    c.in_ok-machine.ensures.world c.in_ok-machine.ensures.settled

pub turn-requires-clause-version : goal.turn-requires-clause-version
turn-requires-clause-version c =
    version-within (job_of c.args.job.now) c.args.codes.now c.requires.codes c.requires.typed c.loop-how.machine c.loop-how.invariant
    c.requires.job.some

pub turn-requires-clause-live : goal.turn-requires-clause-live
turn-requires-clause-live c =
    live (job_of c.args.job.now) c.args.codes.now c.requires.codes c.requires.typed c.loop-how.machine c.loop-how.invariant
    (sym c.ended.ensures ∙ c.in_default.is)

pub turn-requires-clause-ready : goal.turn-requires-clause-ready
turn-requires-clause-ready c =
    is_ready (job_of c.args.job.now) c.args.codes.now c.requires.codes c.requires.typed c.loop-how.machine c.loop-how.invariant
    (sym c.ended.ensures ∙ c.in_default.is) c.law.ensures.once

pub loop-how-smaller : goal.loop-how-smaller
loop-how-smaller c =
    nearer (job_of c.args.job.now) c.args.codes.now c.requires.codes c.requires.typed c.loop-how.machine c.loop-how.invariant
    (sym c.ended.ensures ∙ c.in_default.is) c.turn.new.self c.in_default-turn.ensures.world c.in_default-turn.ensures.settled

pub loop-how-preserved : goal.loop-how-preserved
loop-how-preserved c =
    under-way (job_of c.args.job.now) c.args.codes.now c.requires.codes c.requires.typed c.loop-how.machine c.loop-how.invariant
    (sym c.ended.ensures ∙ c.in_default.is) c.turn.new.self c.in_default-turn.ensures.world c.in_default-turn.ensures.settled

pub returns-in-Some : goal.returns-in-Some
returns-in-Some c =
    ran (job_of c.args.job.now) c.args.codes.now c.requires.codes c.requires.typed c.loop-how.machine c.loop-how.invariant
    c.report_of.result.turns c.report_of.result.how c.report_of.result.output.items c.report_of.result.marks.items
    (sym c.ended.ensures ∙ c.in-Some.is ∙ ap Some (sym c.report_of.ensures.how)) c.report_of.ensures.turns c.report_of.ensures.output
    c.report_of.ensures.marks
