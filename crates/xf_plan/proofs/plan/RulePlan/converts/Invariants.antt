use Rattle.std.proofs.Common.{◌≡◌, ◌-◌}
use Rattle.xf_plan.specs.Correspondence.{converts, converts_within}
use Rattle.xf_plan.specs.Plain.{plan_of}
use Rattle.xf_plan.proofs.plan.RulePlan.converts.Given as goal

-- of the arrays from where the walk began so many are left
abbrev pub invariant-loop : goal.invariant-loop
invariant-loop l = converts (plan_of l.self) l.from l.to ≡ converts_within (plan_of l.self) (l.end - l.counter) l.old l.new
