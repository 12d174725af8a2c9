use Rattle.std.proofs.Common.{◌≡◌, ◌∷◌, sym, ap, subst}
use Rattle.kt_code.specs.Machine.{step}
use Rattle.kt_code.specs.Settling.{Fits}
use Rattle.kt_exec.specs.Apart.{GoesOn, whole}
use Rattle.kt_exec.proofs.Settled.{fits-after}
use Rattle.kt_exec.proofs.replies.answer.Goals as goal
use Rattle.kt_exec.proofs.replies.answer.Goals.{in-Trapped, in_default}

pub returns-clause-fits : goal.returns-clause-fits
returns-clause-fits c =
    elim c.match-matches.branch [
      | in-Trapped w ↦ absurd cc
      | in_default w ↦
          let p = c.args.private.now in
          let code = c.args.code.now in
          let rest = c.go_on_apart.new.rest in
          let q = whole c.go_on_apart.new.frame rest in
          let popped : p.frames ≡ c.in-Some.frame ∷ c.pop.new.self = rw c.in-Some.is at c.pop.ensures in
          let before : whole c.in-Some.frame (record p { frames = c.pop.new.self }) ≡ p = ap (λ frames. record p { frames = frames }) (sym popped) in
          let on : GoesOn (step code p) c.args.reply q = subst (λ x. GoesOn (step code x) c.args.reply q) before c.in_ok-go_on_apart.ensures in
          let fits = fits-after code p q c.args.reply c.requires.act c.requires.reply c.requires.fits w.in_default.not-Trapped on in
          subst (λ frames. Fits code (record rest { frames = frames })) (sym c.in_ok-push.ensures.ok) fits
    ]
