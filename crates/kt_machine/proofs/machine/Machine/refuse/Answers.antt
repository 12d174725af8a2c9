use Rattle.std.proofs.Common.{refl, sym, ap, ◌∙◌, slice_get}
use Rattle.kt_code.specs.Code.{Code}
use Rattle.kt_code.specs.Machine.{step}
use Rattle.kt_code.specs.Settling.{settle}
use Rattle.kt_meaning.specs.Steps.{after_reply}
use Rattle.kt_mem.specs.declared.steps.Reply.TheVariants.{Done}
use Rattle.kt_lone.specs.Turn.{has_ended}
use Rattle.kt_lone.specs.World as world
use Rattle.kt_machine.specs.declared.machine.Machine.{Machine}
use Rattle.kt_machine.specs.declared.machine.Standing.TheVariants as standing
use Rattle.kt_machine.specs.Engine.{standing_of}
use Rattle.kt_machine.specs.Shared.{Shared}
use Rattle.kt_machine.proofs.Acting.{both-ok}
use Rattle.kt_machine.proofs.Threads.{gone-live, refused-world, replied-state}
use Rattle.kt_machine.proofs.machine.Machine.refuse.Goals as goal

pub returns-clause-world : goal.returns-clause-world
returns-clause-world c =
    let codes = c.args.codes.now in
    let m = c.args.self.now in
    let on = ap (λ s. has_ended (standing_of s)) c.requires.parked in
    let p = c.in_force-compiled.result.now in
    let at = ap (slice_get codes) (sym c.version.ensures) ∙ c.in_force-compiled.ensures in
    let x = c.go_on.new.self.private in
    let state = c.in_ok-go_on.ensures.state ∙ ap (λ (q : Code). settle q (after_reply m.private (step q m.private) Done)) c.code.ensures in
    both-ok c.mark_refused.result
    (λ shared outside. refused-world codes m c.mark_refused.new.self c.go_on.new.self.shared x c.go_on.new.self.head c.go_on.ensures.shared outside shared
    c.requires.parked (replied-state codes m c.law.ensures.once c.requires.settled on p at Done tt x state))
    c.mark_refused.ensures.shared c.mark_refused.ensures.outside

pub returns-clause-settled : goal.returns-clause-settled
returns-clause-settled c =
    let codes = c.args.codes.now in
    let m = c.args.self.now in
    let on = ap (λ s. has_ended (standing_of s)) c.requires.parked in
    let p = c.in_force-compiled.result.now in
    let at = ap (slice_get codes) (sym c.version.ensures) ∙ c.in_force-compiled.ensures in
    let x = c.go_on.new.self.private in
    let state = c.in_ok-go_on.ensures.state ∙ ap (λ (q : Code). settle q (after_reply m.private (step q m.private) Done)) c.code.ensures in
    let n : Machine = record { shared = c.mark_refused.new.self; private = x; head = c.go_on.new.self.head; standing = standing.Live } in
    both-ok c.mark_refused.result
    (λ shared outside. gone-live codes m c.law.ensures.once c.requires.settled on p at Done tt n c.code.result.now c.code.ensures refl
    (ap (λ (s : world.Shared). s.version) shared ∙ ap (λ (s : Shared). s.version) c.go_on.ensures.shared)
    (outside ∙ ap (λ (s : Shared). s.outside) c.go_on.ensures.shared) state c.in_ok-go_on.ensures.head c.in_ok-go_on.ensures.fits)
    c.mark_refused.ensures.shared c.mark_refused.ensures.outside
