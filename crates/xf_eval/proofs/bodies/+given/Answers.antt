use Rattle.std.proofs.Common.{ap, sym, ◌∙◌, Ok}
use Rattle.kt_tree.specs.Tree.{expression_of}
use Rattle.xf_plan.specs.Bodies.{Chosen}
use Rattle.xf_plan.specs.Plain.{given_of}
use Rattle.xf_plan.specs.RuleCode.{evaluate}
use Rattle.xf_eval.specs.Readings.{reading}
use Rattle.xf_eval.proofs.Branches.{trapped-way, zero-way, other-way}
use Rattle.xf_eval.proofs.Forms.{chosen_form}
use Rattle.xf_eval.proofs.Running.{as-given}
use Rattle.xf_eval.proofs.bodies.+given.Goals as goal

pub given-returns-in-Err : goal.given-returns-in-Err
given-returns-in-Err t c =
    let r = reading c.args.types.now c.args.heap.now c.args.locals.now in
    let s = c.in-Chosen in
    as-given r c.args.ty c.args.value.now (Chosen (expression_of s.test) (given_of s.a) (given_of s.b)) _ (ap given_of s.is ∙ chosen_form s.test s.a s.b)
    (trapped-way _ _ _ _ (c.evaluate-in-Chosen.ensures ∙ ap (λ e. evaluate r (expression_of e)) c.get-in-Chosen.ensures) c.in-Err.trap (sym c.in-Err.is ∙ c.zero_test.ensures))

pub given-returns-in-Ok-true : goal.given-returns-in-Ok-true
given-returns-in-Ok-true t c =
    let r = reading c.args.types.now c.args.heap.now c.args.locals.now in
    let s = c.in-Chosen in
    as-given r c.args.ty c.args.value.now (Chosen (expression_of s.test) (given_of s.a) (given_of s.b)) _ (ap given_of s.is ∙ chosen_form s.test s.a s.b)
    (zero-way _ _ _ _ (c.evaluate-in-Chosen.ensures ∙ ap (λ e. evaluate r (expression_of e)) c.get-in-Chosen.ensures) _
    (ap (λ b. Ok b) (sym c.in-Ok-true.field-0-test) ∙ sym c.in-Ok-true.is ∙ c.zero_test.ensures) c.given_boxed.ensures)

pub given-returns-in-Ok-false : goal.given-returns-in-Ok-false
given-returns-in-Ok-false t c =
    let r = reading c.args.types.now c.args.heap.now c.args.locals.now in
    let s = c.in-Chosen in
    as-given r c.args.ty c.args.value.now (Chosen (expression_of s.test) (given_of s.a) (given_of s.b)) _ (ap given_of s.is ∙ chosen_form s.test s.a s.b)
    (other-way _ _ _ _ (c.evaluate-in-Chosen.ensures ∙ ap (λ e. evaluate r (expression_of e)) c.get-in-Chosen.ensures) _
    (ap (λ b. Ok b) (sym c.in-Ok-false.field-0-test) ∙ sym c.in-Ok-false.is ∙ c.zero_test.ensures) c.given_boxed-in-Ok-false.ensures)
