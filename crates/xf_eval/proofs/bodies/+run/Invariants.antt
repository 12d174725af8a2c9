use Rattle.std.proofs.Common.{◌≡◌, drop}
use Rattle.xf_plan.specs.Plain.{actions_of}
use Rattle.xf_plan.specs.RuleCode.{after_actions}
use Rattle.xf_eval.specs.Readings.{reading}
use Rattle.xf_eval.proofs.bodies.+run.Given as goal

abbrev pub invariant-after_actions-loop-action : goal.invariant-after_actions-loop-action
invariant-after_actions-loop-action l =
    after_actions (reading l.types l.heap l.locals) l.ty l.value (actions_of (drop l.action-index l.action-items))
    ≡ after_actions (reading l.types l.heap l.locals) l.ty l.fn.before (actions_of l.action-items)
