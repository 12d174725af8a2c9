use Rattle.std.proofs.Common.{ap, ◌∙◌}
use Rattle.kt_tree.specs.Forms.{set_form, swap_form, operation_form, request_form, modify_form, and_form, or_form, choice_form, call_form}
use Rattle.kt_tree.specs.Tree.{expression_of, expressions_of, LocalSet, LocalSwapped, Operated, Requested, Modified, Both, Either, Chosen, Called}
use Rattle.kt_stage.proofs.Asking.{as-expression, first, second}
use Rattle.kt_stage.proofs.asks.+asks.Goals as goal

pub expression_asks-returns-in-SetLocal : goal.expression_asks-returns-in-SetLocal
expression_asks-returns-in-SetLocal t c =
    let s = c.in-SetLocal in
    as-expression _ c.args.expr.now (LocalSet s.field-0 (expression_of s.value)) (ap expression_of s.is ∙ set_form s.field-0 s.value) c.boxed_asks.ensures

pub expression_asks-returns-in-SwapLocal : goal.expression_asks-returns-in-SwapLocal
expression_asks-returns-in-SwapLocal t c =
    let s = c.in-SwapLocal in
    as-expression _ c.args.expr.now (LocalSwapped s.field-0 (expression_of s.value)) (ap expression_of s.is ∙ swap_form s.field-0 s.value)
    c.boxed_asks-in-SwapLocal.ensures

pub expression_asks-returns-in-Operation : goal.expression_asks-returns-in-Operation
expression_asks-returns-in-Operation t c =
    let s = c.in-Operation in
    as-expression _ c.args.expr.now (Operated s.field-0 s.field-1 (expressions_of s.operands)) (ap expression_of s.is ∙ operation_form s.field-0 s.field-1 s.operands)
    c.operands_ask.ensures

pub expression_asks-returns-else-is_threaded : goal.expression_asks-returns-else-is_threaded
expression_asks-returns-else-is_threaded t c =
    let s = c.in-Request in
    as-expression _ c.args.expr.now (Requested s.request s.field-1 (expressions_of s.operands)) (ap expression_of s.is ∙ request_form s.request s.field-1 s.operands)
    (second c.if-is_threaded.false c.is_threaded.ensures c.operands_ask-else-is_threaded.ensures)

pub expression_asks-returns-then-boxed_asks : goal.expression_asks-returns-then-boxed_asks
expression_asks-returns-then-boxed_asks t c =
    let s = c.in-Modify in
    as-expression _ c.args.expr.now (Modified s.field-0 s.field-1 s.field-2 s.field-3 (expression_of s.place) (expression_of s.operand))
    (ap expression_of s.is ∙ modify_form s.field-0 s.field-1 s.field-2 s.field-3 s.place s.operand) (first _ c.if-boxed_asks.true c.boxed_asks-in-Modify.ensures)

pub expression_asks-returns-else-boxed_asks : goal.expression_asks-returns-else-boxed_asks
expression_asks-returns-else-boxed_asks t c =
    let s = c.in-Modify in
    as-expression _ c.args.expr.now (Modified s.field-0 s.field-1 s.field-2 s.field-3 (expression_of s.place) (expression_of s.operand))
    (ap expression_of s.is ∙ modify_form s.field-0 s.field-1 s.field-2 s.field-3 s.place s.operand) (second c.if-boxed_asks.false c.boxed_asks-in-Modify.ensures c.boxed_asks-else-boxed_asks.ensures)

pub expression_asks-returns-then-boxed_asks-2 : goal.expression_asks-returns-then-boxed_asks-2
expression_asks-returns-then-boxed_asks-2 t c =
    let s = c.in-And in
    as-expression _ c.args.expr.now (Both (expression_of s.a) (expression_of s.b))
    (ap expression_of s.is ∙ and_form s.a s.b) (first _ c.if-boxed_asks-2.true c.boxed_asks-in-And.ensures)

pub expression_asks-returns-else-boxed_asks-2 : goal.expression_asks-returns-else-boxed_asks-2
expression_asks-returns-else-boxed_asks-2 t c =
    let s = c.in-And in
    as-expression _ c.args.expr.now (Both (expression_of s.a) (expression_of s.b))
    (ap expression_of s.is ∙ and_form s.a s.b) (second c.if-boxed_asks-2.false c.boxed_asks-in-And.ensures c.boxed_asks-else-boxed_asks-2.ensures)

pub expression_asks-returns-then-boxed_asks-3 : goal.expression_asks-returns-then-boxed_asks-3
expression_asks-returns-then-boxed_asks-3 t c =
    let s = c.in-Or in
    as-expression _ c.args.expr.now (Either (expression_of s.a) (expression_of s.b))
    (ap expression_of s.is ∙ or_form s.a s.b) (first _ c.if-boxed_asks-3.true c.boxed_asks-in-Or.ensures)

pub expression_asks-returns-else-boxed_asks-3 : goal.expression_asks-returns-else-boxed_asks-3
expression_asks-returns-else-boxed_asks-3 t c =
    let s = c.in-Or in
    as-expression _ c.args.expr.now (Either (expression_of s.a) (expression_of s.b))
    (ap expression_of s.is ∙ or_form s.a s.b) (second c.if-boxed_asks-3.false c.boxed_asks-in-Or.ensures c.boxed_asks-else-boxed_asks-3.ensures)

pub expression_asks-returns-then-boxed_asks-4 : goal.expression_asks-returns-then-boxed_asks-4
expression_asks-returns-then-boxed_asks-4 t c =
    let s = c.in-Choice in
    as-expression _ c.args.expr.now (Chosen (expression_of s.test) s.field-1 (expression_of s.a) (expression_of s.b))
    (ap expression_of s.is ∙ choice_form s.test s.field-1 s.a s.b) (first _ c.if-boxed_asks-4.true c.boxed_asks-in-Choice.ensures)

pub expression_asks-returns-then-boxed_asks-5 : goal.expression_asks-returns-then-boxed_asks-5
expression_asks-returns-then-boxed_asks-5 t c =
    let s = c.in-Choice in
    as-expression _ c.args.expr.now (Chosen (expression_of s.test) s.field-1 (expression_of s.a) (expression_of s.b))
    (ap expression_of s.is ∙ choice_form s.test s.field-1 s.a s.b) (second c.if-boxed_asks-4.false c.boxed_asks-in-Choice.ensures
    (first _ c.if-boxed_asks-5.true c.boxed_asks-else-boxed_asks-4.ensures))

pub expression_asks-returns-else-boxed_asks-5 : goal.expression_asks-returns-else-boxed_asks-5
expression_asks-returns-else-boxed_asks-5 t c =
    let s = c.in-Choice in
    as-expression _ c.args.expr.now (Chosen (expression_of s.test) s.field-1 (expression_of s.a) (expression_of s.b))
    (ap expression_of s.is ∙ choice_form s.test s.field-1 s.a s.b) (second c.if-boxed_asks-4.false c.boxed_asks-in-Choice.ensures
    (second c.if-boxed_asks-5.false c.boxed_asks-else-boxed_asks-4.ensures c.boxed_asks-else-boxed_asks-5.ensures))

pub expression_asks-returns-in-Call : goal.expression_asks-returns-in-Call
expression_asks-returns-in-Call t c =
    let s = c.in-Call in
    as-expression _ c.args.expr.now (Called s.field-0 (expressions_of s.arguments)) (ap expression_of s.is ∙ call_form s.field-0 s.arguments) c.operands_ask-in-Call.ensures
