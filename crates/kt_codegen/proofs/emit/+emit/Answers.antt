use Rattle.std.proofs.Common.{◌∷◌, [], ap, ◌∙◌, arith}
use Rattle.std.specs.Option.{option_map}
use Rattle.std.proofs.lemmas.Result.{on_ok_weaker}
use Rattle.kt_tree.specs.Forms.{block_form, if_form, loop_form, repeat_form}
use Rattle.kt_tree.specs.Tree.{expression_of, statement_of, statements_of, Compound, Conditional, Looped, Repeated}
use Rattle.kt_code.specs.declared.instr.Instr.TheVariants as instr
use Rattle.kt_genexpr.specs.Emitting.{code_in}
use Rattle.kt_genexpr.proofs.Backwards.{put-length}
use Rattle.kt_codegen.proofs.Emitted.{as-form, if-put, loop-put, repeat-put, block-more, put-longer, tests-longer, turn-longer, mapped-some}
use Rattle.kt_codegen.proofs.emit.+emit.Goals as goal

pub emit_block-loop-place-preserved : goal.emit_block-loop-place-preserved
emit_block-loop-place-preserved t c =
    block-more c.args.version.now c.as_slice-block.result.now c.loop-place.place c.index-block-place.result c.args.next c.args.exit c.args.out.now.items c.loop-place.out.items
    c.emit_stmt.new.out.items (omega arith) (omega arith) c.index-block-place.is c.loop-place.invariant c.in_ok-emit_stmt.ensures

pub emit_stmt-put_tick-requires : goal.emit_stmt-put_tick-requires
emit_stmt-put_tick-requires t c =
    let p = c.args.version.now in
    let s = c.in-Loop in
    let tests = tests-longer p (option_map expression_of s.test) c.args.out.now.items c.put_test.new.out.items c.in_ok-put_test-in-Loop.ensures in
    let turn = turn-longer p (option_map expression_of s.step) (statement_of s.body) c.len-end-in-Loop.result c.len-turn.result c.put_test.new.out.items c.emit_step.new.out.items
    c.emit_boxed-in-Loop.new.out.items c.in_ok-emit_step-in-Loop.ensures c.in_ok-emit_boxed-in-Loop.ensures (omega arith) (omega arith) in
    omega arith

pub emit_stmt-put_tick-requires-in-Repeat : goal.emit_stmt-put_tick-requires-in-Repeat
emit_stmt-put_tick-requires-in-Repeat t c =
    let p = c.args.version.now in
    let s = c.in-Repeat in
    let jump = put-length (instr.BackIfNotZero 0 ∷ []) c.args.out.now.items c.put-in-Repeat.new.out.items c.in_ok-put-in-Repeat.ensures in
    let test = put-length (code_in p (expression_of s.test)) c.put-in-Repeat.new.out.items c.emit_expr-in-Repeat.new.out.items c.in_ok-emit_expr-in-Repeat.ensures in
    let body = put-longer p (statement_of s.body) c.len-behind.result c.len-end-in-Repeat.result c.emit_expr-in-Repeat.new.out.items c.emit_boxed-in-Repeat.new.out.items
    c.in_ok-emit_boxed-in-Repeat.ensures (omega arith) (omega arith) in
    omega arith

pub emit_stmt-returns-in-Block : goal.emit_stmt-returns-in-Block
emit_stmt-returns-in-Block t c =
    let s = c.in-Block in
    on_ok_weaker c.emit_block.result
    (λ h. as-form c.args.version.now c.args.stmt.now (Compound (statements_of s.block)) c.args.next c.args.exit c.args.out.now.items c.emit_block.new.out.items
    (ap statement_of s.is ∙ block_form s.block) h) c.emit_block.ensures

pub emit_stmt-returns-in_ok-put-in-If : goal.emit_stmt-returns-in_ok-put-in-If
emit_stmt-returns-in_ok-put-in-If t c =
    let p = c.args.version.now in
    let s = c.in-If in
    on_ok_weaker c.emit_expr.result
    (λ h. as-form p c.args.stmt.now (Conditional (expression_of s.test) (statement_of s.then) (statement_of s.other)) c.args.next c.args.exit c.args.out.now.items
    c.emit_expr.new.out.items (ap statement_of s.is ∙ if_form s.test s.then s.other)
    (if-put p (expression_of s.test) (statement_of s.then) (statement_of s.other) c.args.next c.args.exit c.args.out.now.items c.emit_boxed.new.out.items c.put_skip.new.out.items
    c.emit_boxed-in-If.new.out.items c.put-in-If.new.out.items c.emit_expr.new.out.items c.len-end.result c.len-second.result c.len.result c.in_ok-passed-in-If.field-0
    c.in_ok-emit_boxed-in-If.ensures c.in_ok-put_skip-in-If.ensures c.in_ok-emit_boxed-in-If-2.ensures c.in_ok-put-in-If.ensures h (omega arith) (omega arith)
    (omega arith) c.in_ok-passed-in-If.ensures)) c.emit_expr.ensures

pub emit_stmt-returns-in_ok-put_tick-in-Loop : goal.emit_stmt-returns-in_ok-put_tick-in-Loop
emit_stmt-returns-in_ok-put_tick-in-Loop t c =
    let p = c.args.version.now in
    let s = c.in-Loop in
    let test = option_map expression_of s.test in
    let step = option_map expression_of s.step in
    on_ok_weaker c.put_entry.result
    (λ h. as-form p c.args.stmt.now (Looped test step (statement_of s.body)) c.args.next c.args.exit c.args.out.now.items
    c.put_entry.new.out.items (ap statement_of s.is ∙ loop_form s.test s.step s.body)
    (loop-put p test step (statement_of s.body) c.args.next c.args.exit c.args.out.now.items c.put_test.new.out.items c.emit_step.new.out.items
    c.emit_boxed-in-Loop.new.out.items c.put_tick.new.out.items c.put_entry.new.out.items c.len-end-in-Loop.result c.len-entry.result c.len-turn.result c.is_some.result
    c.in_ok-put_test-in-Loop.ensures c.in_ok-emit_step-in-Loop.ensures c.in_ok-emit_boxed-in-Loop.ensures c.in_ok-put_tick-in-Loop.ensures h (omega arith)
    (omega arith) (omega arith) (c.is_some.ensures ∙ mapped-some s.test))) c.put_entry.ensures

pub emit_stmt-returns-in_ok-emit_boxed-in-Repeat : goal.emit_stmt-returns-in_ok-emit_boxed-in-Repeat
emit_stmt-returns-in_ok-emit_boxed-in-Repeat t c =
    let p = c.args.version.now in
    let s = c.in-Repeat in
    on_ok_weaker c.put_tick-in-Repeat.result
    (λ h. as-form p c.args.stmt.now (Repeated (statement_of s.body) (expression_of s.test)) c.args.next c.args.exit c.args.out.now.items
    c.put_tick-in-Repeat.new.out.items (ap statement_of s.is ∙ repeat_form s.body s.test)
    (repeat-put p (expression_of s.test) (statement_of s.body) c.args.next c.args.exit c.args.out.now.items c.put-in-Repeat.new.out.items c.emit_expr-in-Repeat.new.out.items
    c.emit_boxed-in-Repeat.new.out.items c.put_tick-in-Repeat.new.out.items c.len-end-in-Repeat.result c.len-behind.result c.in_ok-put-in-Repeat.ensures
    c.in_ok-emit_expr-in-Repeat.ensures c.in_ok-emit_boxed-in-Repeat.ensures h (omega arith) (omega arith))) c.put_tick-in-Repeat.ensures
