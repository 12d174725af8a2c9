use Rattle.std.proofs.Common.{◌≡◌, ◌+◌, ◌∷◌, drop, map, ap, sym, ◌∙◌}
use Rattle.std.proofs.lemmas.List.{drop_more}
use Rattle.xf_plan.specs.Plain.{local_rule_of}
use Rattle.xf_eval.specs.Asked.{local_rule}
use Rattle.xf_eval.proofs.Running.{rule-on}
use Rattle.xf_eval.proofs.pre_values.local_rule.Goals as goal
use Rattle.xf_eval.proofs.pre_values.local_rule.Goals.{else-rule-f-via-then-rule-f+else-rule-local, else-rule-f-via-else-rule-f}

pub loop-rule-preserved : goal.loop-rule-preserved
loop-rule-preserved c =
    let items = c.as_slice-rule-items.result.now in
    let i = c.loop-rule.rule-index in
    let r = c.rule-item.result in
    let rest = drop (i + 1) items in
    let here : drop i items ≡ r ∷ rest = drop_more items i r c.loop-rule-test.true ∙ ap (λ x. x ∷ rest) (sym c.rule-item.is) in
    let other : r.function ≡ c.args.f → r.local ≡ c.args.local → ⊥ =
    elim c.else-rule-f.branch [ else-rule-f-via-then-rule-f+else-rule-local w ↦ λ f x. w.if-rule-local.false x | else-rule-f-via-else-rule-f w ↦ λ f x. w.if-rule-f.false f ] in
    rule-on r rest c.args.f c.args.local other ∙ ap (λ rs. local_rule (map local_rule_of rs) c.args.f c.args.local) (sym here) ∙ c.loop-rule.invariant
