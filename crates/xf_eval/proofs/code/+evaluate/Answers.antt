use Rattle.std.proofs.Common.{◌≡◌, ◌+◌, ◌∷◌, drop, ap, sym, ◌∙◌, Ok, refl}
use Rattle.std.proofs.lemmas.List.{drop_more}
use Rattle.kt_tree.specs.Forms.{operation_form, request_form, set_form, swap_form, modify_form, and_form, or_form, choice_form}
use Rattle.kt_tree.specs.Tree.{expression_of, expressions_of, LocalSet, LocalSwapped, Operated, Requested, Modified, Both, Either, Chosen}
use Rattle.kt_meaning.specs.Operations.{apply_operation}
use Rattle.xf_plan.specs.RuleCode.{evaluate_all, requested, truth_of}
use Rattle.xf_eval.specs.Operands.{gathered}
use Rattle.xf_eval.specs.Readings.{reading}
use Rattle.xf_eval.proofs.Branches.{trapped-way, zero-way, other-way}
use Rattle.xf_eval.proofs.Evaluation.{as-form, operated, asked-of, without-operands, gather-more}
use Rattle.xf_eval.proofs.code.+evaluate.Goals as goal

pub evaluate-returns-in-Err : goal.evaluate-returns-in-Err
evaluate-returns-in-Err t c =
    let r = reading c.args.types.now c.args.heap.now c.args.locals.now in
    let s = c.in-Operation in
    as-form r c.args.expr.now (Operated s.op s.ty (expressions_of s.operands)) _ (ap expression_of s.is ∙ operation_form s.op s.ty s.operands)
    (without-operands (apply_operation c.args.types.now s.op s.ty) (evaluate_all r (expressions_of s.operands)) c.in-Err.trap (sym c.in-Err.is ∙ c.operands_of.ensures))

pub evaluate-returns-in-Ok : goal.evaluate-returns-in-Ok
evaluate-returns-in-Ok t c =
    let r = reading c.args.types.now c.args.heap.now c.args.locals.now in
    let s = c.in-Operation in
    as-form r c.args.expr.now (Operated s.op s.ty (expressions_of s.operands)) _ (ap expression_of s.is ∙ operation_form s.op s.ty s.operands)
    (c.apply.ensures ∙ operated r s.op s.ty (expressions_of s.operands) c.in-Ok.operands (sym c.in-Ok.is ∙ c.operands_of.ensures))

pub evaluate-returns-in-Err-operands_of : goal.evaluate-returns-in-Err-operands_of
evaluate-returns-in-Err-operands_of t c =
    let r = reading c.args.types.now c.args.heap.now c.args.locals.now in
    let s = c.in-Request in
    as-form r c.args.expr.now (Requested s.request s.ty (expressions_of s.operands)) _ (ap expression_of s.is ∙ request_form s.request s.ty s.operands)
    (without-operands (requested r s.request s.ty) (evaluate_all r (expressions_of s.operands)) c.in-Err-operands_of.trap (sym c.in-Err-operands_of.is ∙ c.operands_of-in-Request.ensures))

pub evaluate-returns-in-Ok-operands_of : goal.evaluate-returns-in-Ok-operands_of
evaluate-returns-in-Ok-operands_of t c =
    let r = reading c.args.types.now c.args.heap.now c.args.locals.now in
    let s = c.in-Request in
    as-form r c.args.expr.now (Requested s.request s.ty (expressions_of s.operands)) _ (ap expression_of s.is ∙ request_form s.request s.ty s.operands)
    (c.requested.ensures c.args.locals.now
    ∙ asked-of r s.request s.ty (expressions_of s.operands) c.in-Ok-operands_of.operands (sym c.in-Ok-operands_of.is ∙ c.operands_of-in-Request.ensures))

pub evaluate-returns-in-Err-zero_test : goal.evaluate-returns-in-Err-zero_test
evaluate-returns-in-Err-zero_test t c =
    let r = reading c.args.types.now c.args.heap.now c.args.locals.now in
    let s = c.in-And in
    as-form r c.args.expr.now (Both (expression_of s.a) (expression_of s.b)) _ (ap expression_of s.is ∙ and_form s.a s.b)
    (trapped-way _ _ _ _ c.evaluate_boxed.ensures c.in-Err-zero_test.trap (sym c.in-Err-zero_test.is ∙ c.zero_test.ensures))

pub evaluate-returns-in-Ok-true : goal.evaluate-returns-in-Ok-true
evaluate-returns-in-Ok-true t c =
    let r = reading c.args.types.now c.args.heap.now c.args.locals.now in
    let s = c.in-And in
    as-form r c.args.expr.now (Both (expression_of s.a) (expression_of s.b)) _ (ap expression_of s.is ∙ and_form s.a s.b)
    (zero-way _ _ _ _ c.evaluate_boxed.ensures _ (ap (λ b. Ok b) (sym c.in-Ok-true.field-0-test) ∙ sym c.in-Ok-true.is ∙ c.zero_test.ensures) (ap (λ v. Ok v) c.truth.ensures.exact))

pub evaluate-returns-in-Ok-false : goal.evaluate-returns-in-Ok-false
evaluate-returns-in-Ok-false t c =
    let r = reading c.args.types.now c.args.heap.now c.args.locals.now in
    let s = c.in-And in
    as-form r c.args.expr.now (Both (expression_of s.a) (expression_of s.b)) _ (ap expression_of s.is ∙ and_form s.a s.b)
    (other-way _ _ _ _ c.evaluate_boxed.ensures _ (ap (λ b. Ok b) (sym c.in-Ok-false.field-0-test) ∙ sym c.in-Ok-false.is ∙ c.zero_test.ensures)
    (c.truth_of.ensures ∙ ap truth_of c.evaluate_boxed-in-Ok-false.ensures))

pub evaluate-returns-in-Err-zero_test-2 : goal.evaluate-returns-in-Err-zero_test-2
evaluate-returns-in-Err-zero_test-2 t c =
    let r = reading c.args.types.now c.args.heap.now c.args.locals.now in
    let s = c.in-Or in
    as-form r c.args.expr.now (Either (expression_of s.a) (expression_of s.b)) _ (ap expression_of s.is ∙ or_form s.a s.b)
    (trapped-way _ _ _ _ c.evaluate_boxed-in-Or.ensures c.in-Err-zero_test-2.trap (sym c.in-Err-zero_test-2.is ∙ c.zero_test-in-Or.ensures))

pub evaluate-returns-in-Ok-true-zero_test : goal.evaluate-returns-in-Ok-true-zero_test
evaluate-returns-in-Ok-true-zero_test t c =
    let r = reading c.args.types.now c.args.heap.now c.args.locals.now in
    let s = c.in-Or in
    as-form r c.args.expr.now (Either (expression_of s.a) (expression_of s.b)) _ (ap expression_of s.is ∙ or_form s.a s.b)
    (zero-way _ _ _ _ c.evaluate_boxed-in-Or.ensures _ (ap (λ b. Ok b) (sym c.in-Ok-true-zero_test.field-0-test) ∙ sym c.in-Ok-true-zero_test.is ∙ c.zero_test-in-Or.ensures)
    (c.truth_of-in-Ok-true-zero_test.ensures ∙ ap truth_of c.evaluate_boxed-in-Ok-true-zero_test.ensures))

pub evaluate-returns-in-Ok-false-zero_test : goal.evaluate-returns-in-Ok-false-zero_test
evaluate-returns-in-Ok-false-zero_test t c =
    let r = reading c.args.types.now c.args.heap.now c.args.locals.now in
    let s = c.in-Or in
    as-form r c.args.expr.now (Either (expression_of s.a) (expression_of s.b)) _ (ap expression_of s.is ∙ or_form s.a s.b)
    (other-way _ _ _ _ c.evaluate_boxed-in-Or.ensures _ (ap (λ b. Ok b) (sym c.in-Ok-false-zero_test.field-0-test) ∙ sym c.in-Ok-false-zero_test.is ∙ c.zero_test-in-Or.ensures)
    (ap (λ v. Ok v) c.truth-in-Ok-false-zero_test.ensures.exact))

pub evaluate-returns-in-Err-zero_test-3 : goal.evaluate-returns-in-Err-zero_test-3
evaluate-returns-in-Err-zero_test-3 t c =
    let r = reading c.args.types.now c.args.heap.now c.args.locals.now in
    let s = c.in-Choice in
    as-form r c.args.expr.now (Chosen (expression_of s.test) s.field-1 (expression_of s.a) (expression_of s.b)) _ (ap expression_of s.is ∙ choice_form s.test s.field-1 s.a s.b)
    (trapped-way _ _ _ _ c.evaluate_boxed-in-Choice.ensures c.in-Err-zero_test-3.trap (sym c.in-Err-zero_test-3.is ∙ c.zero_test-in-Choice.ensures))

pub evaluate-returns-in-Ok-true-zero_test-2 : goal.evaluate-returns-in-Ok-true-zero_test-2
evaluate-returns-in-Ok-true-zero_test-2 t c =
    let r = reading c.args.types.now c.args.heap.now c.args.locals.now in
    let s = c.in-Choice in
    as-form r c.args.expr.now (Chosen (expression_of s.test) s.field-1 (expression_of s.a) (expression_of s.b)) _ (ap expression_of s.is ∙ choice_form s.test s.field-1 s.a s.b)
    (zero-way _ _ _ _ c.evaluate_boxed-in-Choice.ensures _ (ap (λ b. Ok b) (sym c.in-Ok-true-zero_test-2.field-0-test) ∙ sym c.in-Ok-true-zero_test-2.is ∙ c.zero_test-in-Choice.ensures)
    c.evaluate_boxed-in-Ok-true-zero_test-2.ensures)

pub evaluate-returns-in-Ok-false-zero_test-2 : goal.evaluate-returns-in-Ok-false-zero_test-2
evaluate-returns-in-Ok-false-zero_test-2 t c =
    let r = reading c.args.types.now c.args.heap.now c.args.locals.now in
    let s = c.in-Choice in
    as-form r c.args.expr.now (Chosen (expression_of s.test) s.field-1 (expression_of s.a) (expression_of s.b)) _ (ap expression_of s.is ∙ choice_form s.test s.field-1 s.a s.b)
    (other-way _ _ _ _ c.evaluate_boxed-in-Choice.ensures _ (ap (λ b. Ok b) (sym c.in-Ok-false-zero_test-2.field-0-test) ∙ sym c.in-Ok-false-zero_test-2.is ∙ c.zero_test-in-Choice.ensures)
    c.evaluate_boxed-in-Ok-false-zero_test-2.ensures)

pub evaluate-returns-in-SetLocal : goal.evaluate-returns-in-SetLocal
evaluate-returns-in-SetLocal t c =
    let s = c.in-SetLocal in
    as-form (reading c.args.types.now c.args.heap.now c.args.locals.now) c.args.expr.now (LocalSet s.field-0 (expression_of s.field-1)) _
    (ap expression_of s.is ∙ set_form s.field-0 s.field-1) refl

pub evaluate-returns-in-SwapLocal : goal.evaluate-returns-in-SwapLocal
evaluate-returns-in-SwapLocal t c =
    let s = c.in-SwapLocal in
    as-form (reading c.args.types.now c.args.heap.now c.args.locals.now) c.args.expr.now (LocalSwapped s.field-0 (expression_of s.field-1)) _
    (ap expression_of s.is ∙ swap_form s.field-0 s.field-1) refl

pub evaluate-returns-in-Modify : goal.evaluate-returns-in-Modify
evaluate-returns-in-Modify t c =
    let s = c.in-Modify in
    as-form (reading c.args.types.now c.args.heap.now c.args.locals.now) c.args.expr.now
    (Modified s.field-0 s.field-1 s.field-2 s.field-3 (expression_of s.field-4) (expression_of s.field-5)) _
    (ap expression_of s.is ∙ modify_form s.field-0 s.field-1 s.field-2 s.field-3 s.field-4 s.field-5) refl

pub operands_of-loop-operand-preserved : goal.operands_of-loop-operand-preserved
operands_of-loop-operand-preserved t c =
    let r = reading c.args.types.now c.args.heap.now c.args.locals.now in
    let items = c.as_slice-operand-items.result.now in
    let i = c.loop-operand.operand-index in
    let e = c.operand-item.result in
    let rest = drop (i + 1) items in
    let was : c.evaluate.result ≡ Ok c.in_ok-evaluate.field-0 = c.in_ok-evaluate.was in
    let here : drop i items ≡ e ∷ rest = drop_more items i e c.loop-operand-test.true ∙ ap (λ x. x ∷ rest) (sym c.operand-item.is) in
    ap (λ os. gathered os (evaluate_all r (expressions_of rest))) c.with-values.ensures
    ∙ gather-more r c.loop-operand.values e rest c.in_ok-evaluate.field-0 (sym was ∙ c.evaluate.ensures)
    ∙ ap (λ es. gathered c.loop-operand.values (evaluate_all r (expressions_of es))) (sym here) ∙ c.loop-operand.invariant
