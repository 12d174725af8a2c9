use Rattle.std.proofs.Common.{◌≡◌, ◌-◌}
use Rattle.xf_plan.specs.Correspondence.{corresponds, correspond_within}
use Rattle.xf_plan.specs.Plain.{plan_of}
use Rattle.xf_plan.proofs.plan.RulePlan.corresponds.Given as goal

-- of the pointers from where the walk began so many are left
abbrev pub invariant-loop : goal.invariant-loop
invariant-loop l = corresponds (plan_of l.self) l.from l.to ≡ correspond_within (plan_of l.self) (l.end - l.counter) l.old l.new
