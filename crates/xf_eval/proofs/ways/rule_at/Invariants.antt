use Rattle.std.proofs.Common.{◌≡◌, drop}
use Rattle.xf_eval.specs.Parts.{find_rule}
use Rattle.xf_eval.proofs.Rules.{rules_in}
use Rattle.xf_eval.proofs.ways.rule_at.Given as goal

abbrev pub invariant-loop-rule : goal.invariant-loop-rule
invariant-loop-rule l =
    find_rule l.plan.new (rules_in l.r (drop l.rule-index l.rule-items)) l.left ≡ find_rule l.plan.new (rules_in l.r l.rule-items) l.cell
