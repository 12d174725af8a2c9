use Rattle.std.proofs.Common.{◌≡◌, drop}
use Rattle.std.specs.List.{position_from}
use Rattle.xf_plan.specs.Correspondence.{types_correspond}
use Rattle.xf_plan.specs.Plain.{plan_of}
use Rattle.xf_plan.proofs.plan.RulePlan.first_corresponding.Given as goal

abbrev pub invariant-loop-place : goal.invariant-loop-place
invariant-loop-place l =
    position_from (types_correspond (plan_of l.self) l.t) l.place (drop l.place l.self.new.types)
    ≡ position_from (types_correspond (plan_of l.self) l.t) 0 l.self.new.types
