use Rattle.std.proofs.Common.{◌≡◌, ◌∷◌, sym, ap, subst, ◌∙◌}
use Rattle.kt_code.specs.Settling.{Fits, settle}
use Rattle.kt_exec.specs.Apart.{whole}
use Rattle.kt_exec.proofs.Ready.{fits-open}
use Rattle.kt_exec.proofs.Settled.{fits-stands}
use Rattle.kt_exec.proofs.settling.settle.Goals as goal

pub unreachable-requires : goal.unreachable-requires
unreachable-requires c =
    let popped = rw c.in_default.is at c.pop.ensures in
    fits-open c.args.code.now c.args.private.now c.requires popped.0

pub returns-in-Ok-clause-fits : goal.returns-in-Ok-clause-fits
returns-in-Ok-clause-fits c =
    let p = c.args.private.now in
    let code = c.args.code.now in
    let rest = c.settle_apart.new.rest in
    let q = whole c.settle_apart.new.frame rest in
    let popped : p.frames ≡ c.in-Some.frame ∷ c.pop.new.self = rw c.in-Some.is at c.pop.ensures in
    let before : whole c.in-Some.frame (record p { frames = c.pop.new.self }) ≡ p = ap (λ frames. record p { frames = frames }) (sym popped) in
    let fits = fits-stands code p q (c.in_ok-head.ensures.stands ∙ ap (settle code) before) c.requires in
    subst (λ frames. Fits code (record rest { frames = frames })) (sym c.in-Ok.ensures.ok) fits
