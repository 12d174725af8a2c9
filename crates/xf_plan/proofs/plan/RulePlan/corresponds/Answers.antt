use Rattle.std.proofs.Common.{◌∙◌, ◌+◌, ◌-◌, Some, ap, sym}
use Rattle.xf_plan.specs.Plain.{plan_of}
use Rattle.xf_plan.proofs.Conversions.{one-more, through-pointers}
use Rattle.xf_plan.proofs.plan.RulePlan.corresponds.Goals as goal

pub loop-preserved : goal.loop-preserved
loop-preserved c =
    let n = c.type_count-end.result in
    let k = c.loop.counter in
    c.loop.invariant
    ∙ through-pointers (plan_of c.args.self.now) (n - k) (n - (k + 1)) c.loop.old c.loop.new c.in-Ptr.a c.in-Ptr-u.b (one-more k n c.loop-test.true) (sym c.in-Some.ensures.found ∙ ap (λ t. Some t) c.in-Ptr.is) (sym c.in-Some-get.ensures.found ∙ ap (λ t. Some t) c.in-Ptr-u.is)
