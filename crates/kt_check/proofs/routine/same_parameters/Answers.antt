use Rattle.std.proofs.Common.{◌≤◌, length, ◌⊎◌, inl, inr, sym, ◌∙◌, rules}
use Rattle.kt_check.specs.Stages.{frame_seen}
use Rattle.kt_check.proofs.Same.{same-ends}
use Rattle.kt_check.proofs.routine.same_parameters.Goals.{then-loop-i-test+else-i-b, else-loop-i-test}
use Rattle.kt_check.proofs.routine.same_parameters.Goals as goal

pub returns : goal.returns
returns c =
    same-ends (frame_seen c.args.frame.now) c.args.a.now c.args.b.now c.loop-i.i c.loop-i.invariant.0 c.loop-i.invariant.1
    (elim c.loop-i-test.branch as (λ _. (length c.args.a.now ≤ c.loop-i.i) ⊎ (length c.args.b.now ≤ c.loop-i.i)) [
      | then-loop-i-test+else-i-b w ↦ inr (search rules)
      | else-loop-i-test w ↦ inl (search rules)
    ])
    ∙ sym c.loop-i.invariant.2
