use Rattle.std.proofs.Common.{ap, ◌∙◌}
use Rattle.std.proofs.lemmas.Result.{on_ok_weaker}
use Rattle.kt_tree.specs.Forms.{operation_form, request_form, call_form, set_form, swap_form, modify_form, and_form, or_form, choice_form}
use Rattle.kt_tree.specs.Tree.{expression_of, expressions_of, LocalSet, LocalSwapped, Operated, Requested, Modified, Both, Either, Chosen, Called}
use Rattle.kt_code.specs.declared.instr.Instr.TheVariants as instr
use Rattle.kt_genexpr.specs.Emitting.{code_in}
use Rattle.kt_genexpr.proofs.Backwards.{as-form, last-put, logical-put, choice-put, operated-put, requested-put, called-put, modified-put}
use Rattle.kt_genexpr.proofs.emit.+emit.Goals as goal

pub emit_expr-returns-in_ok-put-in-SetLocal : goal.emit_expr-returns-in_ok-put-in-SetLocal
emit_expr-returns-in_ok-put-in-SetLocal t c =
    let p = c.args.version.now in
    let s = c.in-SetLocal in
    on_ok_weaker c.emit_boxed.result
    (λ h. as-form p c.args.expr.now (LocalSet s.local (expression_of s.value)) _ _ (ap expression_of s.is ∙ set_form s.local s.value)
    (last-put (code_in p (expression_of s.value)) (instr.Set s.local) _ _ _ c.in_ok-put-in-SetLocal.ensures h)) c.emit_boxed.ensures

pub emit_expr-returns-in_ok-put-in-SwapLocal : goal.emit_expr-returns-in_ok-put-in-SwapLocal
emit_expr-returns-in_ok-put-in-SwapLocal t c =
    let p = c.args.version.now in
    let s = c.in-SwapLocal in
    on_ok_weaker c.emit_boxed-in-SwapLocal.result
    (λ h. as-form p c.args.expr.now (LocalSwapped s.local (expression_of s.value)) _ _ (ap expression_of s.is ∙ swap_form s.local s.value)
    (last-put (code_in p (expression_of s.value)) (instr.Swap s.local) _ _ _ c.in_ok-put-in-SwapLocal.ensures h)) c.emit_boxed-in-SwapLocal.ensures

pub emit_expr-returns-in_ok-put-in-Operation : goal.emit_expr-returns-in_ok-put-in-Operation
emit_expr-returns-in_ok-put-in-Operation t c =
    let p = c.args.version.now in
    let s = c.in-Operation in
    on_ok_weaker c.emit_operands.result
    (λ h. as-form p c.args.expr.now (Operated s.op s.ty (expressions_of s.operands)) _ _ (ap expression_of s.is ∙ operation_form s.op s.ty s.operands)
    (operated-put p s.op s.ty (expressions_of s.operands) c.types.result.now c.in_ok-operation-in-Operation.field-0 _ _ _ c.types.ensures c.in_ok-operation-in-Operation.ensures
    c.in_ok-put-in-Operation.ensures h)) c.emit_operands.ensures

pub emit_expr-returns-in_ok-put-in-Request : goal.emit_expr-returns-in_ok-put-in-Request
emit_expr-returns-in_ok-put-in-Request t c =
    let p = c.args.version.now in
    let s = c.in-Request in
    on_ok_weaker c.emit_operands-in-Request.result
    (λ h. as-form p c.args.expr.now (Requested s.asked s.ty (expressions_of s.operands)) _ _ (ap expression_of s.is ∙ request_form s.asked s.ty s.operands)
    (requested-put p s.asked s.ty (expressions_of s.operands) c.types-in-Request.result.now c.in_ok-request-in-Request.field-0 _ _ _ c.types-in-Request.ensures
    c.in_ok-request-in-Request.ensures c.in_ok-put-in-Request.ensures h)) c.emit_operands-in-Request.ensures

pub emit_expr-returns-in_ok-put_load-in-Modify : goal.emit_expr-returns-in_ok-put_load-in-Modify
emit_expr-returns-in_ok-put_load-in-Modify t c =
    let p = c.args.version.now in
    let s = c.in-Modify in
    on_ok_weaker c.emit_boxed-in-Modify-2.result
    (λ h. as-form p c.args.expr.now (Modified s.op s.own s.ty s.old (expression_of s.place) (expression_of s.operand)) _ _
    (ap expression_of s.is ∙ modify_form s.op s.own s.ty s.old s.place s.operand)
    (modified-put p s.op s.own s.ty s.old (expression_of s.place) (expression_of s.operand) c.types-in-Modify.result.now c.in_ok-operation-in-Modify.field-0 _ _ _ _ _ _
    c.types-in-Modify.ensures c.in_ok-operation-in-Modify.ensures c.in_ok-put_store-in-Modify.ensures c.in_ok-put-in-Modify.ensures c.in_ok-emit_boxed-in-Modify.ensures
    c.in_ok-put_load-in-Modify.ensures h)) c.emit_boxed-in-Modify-2.ensures

pub emit_expr-returns-in_ok-put-in-And-2 : goal.emit_expr-returns-in_ok-put-in-And-2
emit_expr-returns-in_ok-put-in-And-2 t c =
    let p = c.args.version.now in
    let s = c.in-And in
    on_ok_weaker c.emit_boxed-in-And-2.result
    (λ h. as-form p c.args.expr.now (Both (expression_of s.a) (expression_of s.b)) _ _ (ap expression_of s.is ∙ and_form s.a s.b)
    (logical-put (λ n. instr.And n) (code_in p (expression_of s.a)) (code_in p (expression_of s.b)) _ _ _ _ _ c.len-end.result c.len.result c.in_ok-passed-in-And.field-0
    c.in_ok-put-in-And.ensures c.in_ok-emit_boxed-in-And.ensures c.in_ok-put-in-And-2.ensures h (c.len-end.ensures ∙ c.args.out.now.ok.0) (c.len.ensures ∙ c.emit_boxed-in-And.new.out.ok.0) c.in_ok-passed-in-And.ensures))
    c.emit_boxed-in-And-2.ensures

pub emit_expr-returns-in_ok-put-in-Or-2 : goal.emit_expr-returns-in_ok-put-in-Or-2
emit_expr-returns-in_ok-put-in-Or-2 t c =
    let p = c.args.version.now in
    let s = c.in-Or in
    on_ok_weaker c.emit_boxed-in-Or-2.result
    (λ h. as-form p c.args.expr.now (Either (expression_of s.a) (expression_of s.b)) _ _ (ap expression_of s.is ∙ or_form s.a s.b)
    (logical-put (λ n. instr.Or n) (code_in p (expression_of s.a)) (code_in p (expression_of s.b)) _ _ _ _ _ c.len-end-in-Or.result c.len-in-Or.result c.in_ok-passed-in-Or.field-0
    c.in_ok-put-in-Or.ensures c.in_ok-emit_boxed-in-Or.ensures c.in_ok-put-in-Or-2.ensures h (c.len-end-in-Or.ensures ∙ c.args.out.now.ok.0) (c.len-in-Or.ensures ∙ c.emit_boxed-in-Or.new.out.ok.0) c.in_ok-passed-in-Or.ensures))
    c.emit_boxed-in-Or-2.ensures

pub emit_expr-returns-in_ok-put-in-Choice-2 : goal.emit_expr-returns-in_ok-put-in-Choice-2
emit_expr-returns-in_ok-put-in-Choice-2 t c =
    let p = c.args.version.now in
    let s = c.in-Choice in
    on_ok_weaker c.emit_boxed-in-Choice-3.result
    (λ h. as-form p c.args.expr.now (Chosen (expression_of s.test) s.field-1 (expression_of s.a) (expression_of s.b)) _ _
    (ap expression_of s.is ∙ choice_form s.test s.field-1 s.a s.b)
    (choice-put (code_in p (expression_of s.test)) (code_in p (expression_of s.a)) (code_in p (expression_of s.b)) _ _ _ _ _ _ c.len-end-in-Choice.result c.len-other.result
    c.len-in-Choice.result c.in_ok-passed-in-Choice.field-0 c.in_ok-passed-in-Choice-2.field-0 c.in_ok-emit_boxed-in-Choice.ensures c.in_ok-put-in-Choice.ensures
    c.in_ok-emit_boxed-in-Choice-2.ensures c.in_ok-put-in-Choice-2.ensures h (c.len-end-in-Choice.ensures ∙ c.args.out.now.ok.0) (c.len-other.ensures ∙ c.emit_boxed-in-Choice.new.out.ok.0) (c.len-in-Choice.ensures ∙ c.emit_boxed-in-Choice-2.new.out.ok.0)
    c.in_ok-passed-in-Choice.ensures c.in_ok-passed-in-Choice-2.ensures)) c.emit_boxed-in-Choice-3.ensures

pub emit_expr-returns-in_ok-put-in-Call : goal.emit_expr-returns-in_ok-put-in-Call
emit_expr-returns-in_ok-put-in-Call t c =
    let p = c.args.version.now in
    let s = c.in-Call in
    on_ok_weaker c.emit_operands-in-Call.result
    (λ h. as-form p c.args.expr.now (Called s.function (expressions_of s.arguments)) _ _ (ap expression_of s.is ∙ call_form s.function s.arguments)
    (called-put p s.function c.len-in-Call.result s.arguments c.in_ok-call-in-Call.field-0 _ _ _ c.len-in-Call.ensures c.in_ok-call-in-Call.ensures
    c.in_ok-put-in-Call.ensures h)) c.emit_operands-in-Call.ensures
