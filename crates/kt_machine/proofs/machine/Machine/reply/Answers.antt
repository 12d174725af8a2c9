use Rattle.std.proofs.Common.{sym, ap, ◌∙◌, slice_get}
use Rattle.kt_code.specs.Code.{Code}
use Rattle.kt_code.specs.Machine.{step}
use Rattle.kt_code.specs.Settling.{settle}
use Rattle.kt_meaning.specs.Steps.{after_reply}
use Rattle.kt_lone.specs.Turn.{has_ended}
use Rattle.kt_machine.specs.Engine.{standing_of}
use Rattle.kt_machine.specs.Shared.{Shared}
use Rattle.kt_machine.proofs.Acting.{on-ok}
use Rattle.kt_machine.proofs.Threads.{answered-world, goes-act, goes-fits, goes-reply, is-answer, replied-state, settled-gone}
use Rattle.kt_machine.proofs.machine.Machine.reply.Goals as goal

pub go_on-requires : goal.go_on-requires
go_on-requires c =
    let codes = c.args.codes.now in
    let m = c.args.self.now in
    let on = ap (λ s. has_ended (standing_of s)) c.requires.live in
    let p = c.in_force-compiled.result.now in
    let at = ap (slice_get codes) (sym c.version.ensures) ∙ c.in_force-compiled.ensures in
    let free = is-answer c.args.reply c.in-Done.is in
    record {
      act = goes-act codes m c.requires.settled on p at c.args.reply free c.requires.reply c.code.result.now c.code.ensures;
      reply = goes-reply codes m c.requires.settled on p at c.args.reply free c.requires.reply c.code.result.now c.code.ensures;
      fits = goes-fits codes m c.requires.settled on p at c.args.reply free c.requires.reply c.code.result.now c.code.ensures;
    }

pub returns-in-Done : goal.returns-in-Done
returns-in-Done c =
    let codes = c.args.codes.now in
    let m = c.args.self.now in
    let n = c.go_on.new.self in
    let r = c.args.reply in
    let on = ap (λ s. has_ended (standing_of s)) c.requires.live in
    let p = c.in_force-compiled.result.now in
    let at = ap (slice_get codes) (sym c.version.ensures) ∙ c.in_force-compiled.ensures in
    let state = on-ok c.go_on.result (λ e. e ∙ ap (λ (q : Code). settle q (after_reply m.private (step q m.private) r)) c.code.ensures) c.go_on.ensures.state in
    record {
      world = on-ok c.go_on.result
          (λ e. answered-world codes m n r (is-answer r c.in-Done.is) c.go_on.ensures.shared c.go_on.ensures.standing
          (replied-state codes m c.law.ensures.once c.requires.settled on p at r c.requires.names n.private e))
          state;
      settled = settled-gone codes m c.law.ensures.once c.requires.settled on p at r c.requires.names n c.go_on.result c.code.result.now c.code.ensures
          (c.go_on.ensures.standing ∙ c.requires.live) c.go_on.ensures.shared state c.go_on.ensures.head c.go_on.ensures.fits;
      place = on-ok c.go_on.result
          (λ e. record { version = ap (λ (s : Shared). s.version) c.go_on.ensures.shared; turns = ap (λ (s : Shared). s.turns) c.go_on.ensures.shared })
          state;
    }
