use Rattle.std.proofs.Common.{◌≡◌, drop, map}
use Rattle.xf_plan.specs.Plain.{local_rule_of}
use Rattle.xf_eval.specs.Asked.{local_rule}
use Rattle.xf_eval.proofs.pre_values.local_rule.Given as goal

abbrev pub invariant-loop-rule : goal.invariant-loop-rule
invariant-loop-rule l =
    local_rule (map local_rule_of (drop l.rule-index l.rule-items)) l.f l.local ≡ local_rule (map local_rule_of l.rule-items) l.f l.local
