use Rattle.std.proofs.Common.{◌≡◌, ◌≤◌, ◌∙◌, Some, slice_get, length, sym, arith}
use Rattle.xf_plan.specs.Correspondence.{types_correspond}
use Rattle.xf_plan.specs.Plain.{plan_of}
use Rattle.xf_plan.proofs.Conversions.{found-at, passed-by, found-nowhere}
use Rattle.xf_plan.proofs.plan.RulePlan.first_corresponding.Goals as goal

pub loop-place-preserved : goal.loop-place-preserved
loop-place-preserved c =
    let is : c.get.result ≡ Some c.in_ok-u.u = c.in_ok-u.was in
    passed-by (types_correspond (plan_of c.args.self.now) c.args.t) c.args.self.now.new.types c.loop-place.place c.in_ok-u.u (sym c.get.ensures.found ∙ is)
    (sym c.types_correspond.ensures ∙ c.if-types_correspond.false) c.loop-place.invariant

pub returns-then-types_correspond : goal.returns-then-types_correspond
returns-then-types_correspond c =
    let is : c.get.result ≡ Some c.in_ok-u.u = c.in_ok-u.was in
    found-at (types_correspond (plan_of c.args.self.now) c.args.t) c.args.self.now.new.types c.loop-place.place c.in_ok-u.u (sym c.get.ensures.found ∙ is)
    (sym c.types_correspond.ensures ∙ c.if-types_correspond.true) c.loop-place.invariant

pub returns : goal.returns
returns c =
    let end : length c.args.self.now.new.types ≤ c.loop-place.place = omega arith in
    found-nowhere (types_correspond (plan_of c.args.self.now) c.args.t) c.args.self.now.new.types c.loop-place.place end c.loop-place.invariant
