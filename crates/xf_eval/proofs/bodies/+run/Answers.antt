use Rattle.std.proofs.Common.{◌≡◌, ◌+◌, ◌∷◌, drop, ap, sym, ◌∙◌, Ok}
use Rattle.std.proofs.lemmas.List.{drop_more}
use Rattle.kt_tree.specs.Tree.{expression_of}
use Rattle.xf_plan.specs.Bodies.{Conditional, Compound}
use Rattle.xf_plan.specs.Plain.{action_of, actions_of}
use Rattle.xf_plan.specs.RuleCode.{evaluate, after_actions}
use Rattle.xf_eval.specs.Readings.{reading}
use Rattle.xf_eval.proofs.Branches.{trapped-way, zero-way, other-way}
use Rattle.xf_eval.proofs.Forms.{conditional_form, compound_form}
use Rattle.xf_eval.proofs.Running.{as-action, act-more}
use Rattle.xf_eval.proofs.bodies.+run.Goals as goal

pub after_action-returns-in-Err : goal.after_action-returns-in-Err
after_action-returns-in-Err t c =
    let r = reading c.args.types.now c.args.heap.now c.args.locals.now in
    let s = c.in-Conditional in
    as-action r c.args.ty c.args.before c.args.action.now (Conditional (expression_of s.test) (action_of s.a) (action_of s.b)) _ (ap action_of s.is ∙ conditional_form s.test s.a s.b)
    (trapped-way _ _ _ _ (c.evaluate.ensures ∙ ap (λ e. evaluate r (expression_of e)) c.get-in-Conditional.ensures) c.in-Err.trap (sym c.in-Err.is ∙ c.zero_test.ensures))

pub after_action-returns-in-Ok-true : goal.after_action-returns-in-Ok-true
after_action-returns-in-Ok-true t c =
    let r = reading c.args.types.now c.args.heap.now c.args.locals.now in
    let s = c.in-Conditional in
    as-action r c.args.ty c.args.before c.args.action.now (Conditional (expression_of s.test) (action_of s.a) (action_of s.b)) _ (ap action_of s.is ∙ conditional_form s.test s.a s.b)
    (zero-way _ _ _ _ (c.evaluate.ensures ∙ ap (λ e. evaluate r (expression_of e)) c.get-in-Conditional.ensures) _
    (ap (λ b. Ok b) (sym c.in-Ok-true.field-0-test) ∙ sym c.in-Ok-true.is ∙ c.zero_test.ensures) c.after_boxed.ensures)

pub after_action-returns-in-Ok-false : goal.after_action-returns-in-Ok-false
after_action-returns-in-Ok-false t c =
    let r = reading c.args.types.now c.args.heap.now c.args.locals.now in
    let s = c.in-Conditional in
    as-action r c.args.ty c.args.before c.args.action.now (Conditional (expression_of s.test) (action_of s.a) (action_of s.b)) _ (ap action_of s.is ∙ conditional_form s.test s.a s.b)
    (other-way _ _ _ _ (c.evaluate.ensures ∙ ap (λ e. evaluate r (expression_of e)) c.get-in-Conditional.ensures) _
    (ap (λ b. Ok b) (sym c.in-Ok-false.field-0-test) ∙ sym c.in-Ok-false.is ∙ c.zero_test.ensures) c.after_boxed-in-Ok-false.ensures)

pub after_action-returns-in-Compound : goal.after_action-returns-in-Compound
after_action-returns-in-Compound t c =
    let r = reading c.args.types.now c.args.heap.now c.args.locals.now in
    let s = c.in-Compound in
    as-action r c.args.ty c.args.before c.args.action.now (Compound (actions_of s.actions)) _ (ap action_of s.is ∙ compound_form s.actions) c.after_actions.ensures

pub after_actions-loop-action-preserved : goal.after_actions-loop-action-preserved
after_actions-loop-action-preserved t c =
    let r = reading c.args.types.now c.args.heap.now c.args.locals.now in
    let items = c.as_slice-action-items.result.now in
    let i = c.loop-action.action-index in
    let a = c.action-item.result in
    let rest = drop (i + 1) items in
    let was : c.after_action.result ≡ Ok c.in_ok-value.value = c.in_ok-value.was in
    let here : drop i items ≡ a ∷ rest = drop_more items i a c.loop-action-test.true ∙ ap (λ x. x ∷ rest) (sym c.action-item.is) in
    act-more r c.args.ty c.loop-action.value c.in_ok-value.value a rest (sym c.after_action.ensures ∙ was)
    ∙ ap (λ as'. after_actions r c.args.ty c.loop-action.value (actions_of as')) (sym here) ∙ c.loop-action.invariant
