use Rattle.std.proofs.Common.{◌∙◌, ◌+◌, ◌-◌, Some, ap, sym, arith}
use Rattle.std.proofs.lemmas.Bool.{le-leb}
use Rattle.xf_plan.specs.Plain.{plan_of}
use Rattle.xf_plan.proofs.Conversions.{one-more, through-arrays}
use Rattle.xf_plan.proofs.plan.RulePlan.converts.Goals as goal

pub loop-preserved : goal.loop-preserved
loop-preserved c =
    let n = c.type_count-end.result in
    let k = c.loop.counter in
    c.loop.invariant
    ∙ through-arrays (plan_of c.args.self.now) (n - k) (n - (k + 1)) c.loop.old c.loop.new c.in-Array.a c.in-Array-u.b c.in-Array.n c.in-Array-u.m (one-more k n c.loop-test.true)
    (sym c.in-Some.ensures.found ∙ ap (λ t. Some t) c.in-Array.is) (sym c.in-Some-get.ensures.found ∙ ap (λ t. Some t) c.in-Array-u.is) (le-leb c.in-Array.n c.in-Array-u.m (omega arith))
