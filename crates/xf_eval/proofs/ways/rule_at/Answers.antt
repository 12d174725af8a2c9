use Rattle.std.proofs.Common.{◌≡◌, ◌+◌, ◌-◌, ◌<◌, ◌≤◌, ◌∷◌, drop, ap, sym, subst, ◌∙◌}
use Rattle.std.proofs.lemmas.List.{drop_more}
use Rattle.xf_plan.specs.Sources.{width}
use Rattle.xf_eval.specs.Parts.{find_rule}
use Rattle.xf_eval.proofs.Rules.{rules_in, rule-here, rule-behind, rule-other}
use Rattle.xf_eval.proofs.ways.rule_at.Goals as goal
use Rattle.xf_eval.proofs.ways.rule_at.Goals.{then-rule-r+else-left-wide, else-rule-r}

pub returns-then-left-wide : goal.returns-then-left-wide
returns-then-left-wide c =
    let t = c.args.plan.now.new in
    let r = c.args.r in
    let items = c.as_slice-rule-items.result.now in
    let i = c.loop-rule.rule-index in
    let f = c.rule-item.result in
    let rest = drop (i + 1) items in
    let here : drop i items ≡ f ∷ rest = drop_more items i f c.loop-rule-test.true ∙ ap (λ x. x ∷ rest) (sym c.rule-item.is) in
    let near = subst (λ w. c.loop-rule.left < w) c.width-wide.ensures.count c.if-left-wide.true in
    ap (λ rs. find_rule t (rules_in r rs) c.args.cell) (sym c.as_slice-rule-items.ensures) ∙ sym c.loop-rule.invariant
    ∙ ap (λ rs. find_rule t (rules_in r rs) c.loop-rule.left) here ∙ sym (rule-here t r f rest c.loop-rule.left c.if-rule-r.true near)

pub loop-rule-preserved : goal.loop-rule-preserved
loop-rule-preserved c =
    let t = c.args.plan.now.new in
    let r = c.args.r in
    let items = c.as_slice-rule-items.result.now in
    let i = c.loop-rule.rule-index in
    let f = c.rule-item.result in
    let rest = drop (i + 1) items in
    let left = c.loop-rule.left in
    let here : drop i items ≡ f ∷ rest = drop_more items i f c.loop-rule-test.true ∙ ap (λ x. x ∷ rest) (sym c.rule-item.is) in
    let step : find_rule t (rules_in r rest) c.if-rule-r.left ≡ find_rule t (rules_in r (f ∷ rest)) left =
    elim c.if-rule-r.branch [
      | then-rule-r+else-left-wide w ↦
          let wide : w.width-wide.result ≡ width t f.ty = w.width-wide.ensures.count in
          ap (find_rule t (rules_in r rest)) (w.left-is ∙ ap (λ n. left - n) wide)
          ∙ rule-behind t r f rest left w.if-rule-r.true (subst (λ n. n ≤ left) wide w.if-left-wide.false)
      | else-rule-r w ↦ ap (find_rule t (rules_in r rest)) w.left-is ∙ rule-other t r f rest left w.if-rule-r.false
    ] in
    step ∙ ap (λ rs. find_rule t (rules_in r rs) left) (sym here) ∙ c.loop-rule.invariant
