use Rattle.std.proofs.Common.{ap, ◌∙◌}
use Rattle.std.specs.Option.{option_map}
use Rattle.kt_tree.specs.Forms.{block_form, if_form, loop_form, repeat_form}
use Rattle.kt_tree.specs.Tree.{expression_of, statement_of, statements_of, Compound, Conditional, Looped, Repeated}
use Rattle.kt_stage.proofs.Asking.{as-statement, first, second}
use Rattle.kt_stage.proofs.asks.+statements.Goals as goal

pub statement_asks-returns-in-Block : goal.statement_asks-returns-in-Block
statement_asks-returns-in-Block t c =
    let s = c.in-Block in
    as-statement _ c.args.stmt.now (Compound (statements_of s.block)) (ap statement_of s.is ∙ block_form s.block) c.block_asks.ensures

pub statement_asks-returns-then-expression_asks : goal.statement_asks-returns-then-expression_asks
statement_asks-returns-then-expression_asks t c =
    let s = c.in-If in
    as-statement _ c.args.stmt.now (Conditional (expression_of s.test) (statement_of s.then) (statement_of s.other)) (ap statement_of s.is ∙ if_form s.test s.then s.other)
    (first _ c.if-expression_asks.true c.expression_asks-in-If.ensures)

pub statement_asks-returns-then-boxed_statement_asks : goal.statement_asks-returns-then-boxed_statement_asks
statement_asks-returns-then-boxed_statement_asks t c =
    let s = c.in-If in
    as-statement _ c.args.stmt.now (Conditional (expression_of s.test) (statement_of s.then) (statement_of s.other)) (ap statement_of s.is ∙ if_form s.test s.then s.other)
    (second c.if-expression_asks.false c.expression_asks-in-If.ensures (first _ c.if-boxed_statement_asks.true c.boxed_statement_asks.ensures))

pub statement_asks-returns-else-boxed_statement_asks : goal.statement_asks-returns-else-boxed_statement_asks
statement_asks-returns-else-boxed_statement_asks t c =
    let s = c.in-If in
    as-statement _ c.args.stmt.now (Conditional (expression_of s.test) (statement_of s.then) (statement_of s.other)) (ap statement_of s.is ∙ if_form s.test s.then s.other)
    (second c.if-expression_asks.false c.expression_asks-in-If.ensures
    (second c.if-boxed_statement_asks.false c.boxed_statement_asks.ensures c.boxed_statement_asks-else-boxed_statement_asks.ensures))

pub statement_asks-returns-then-optional_asks : goal.statement_asks-returns-then-optional_asks
statement_asks-returns-then-optional_asks t c =
    let s = c.in-Loop in
    as-statement _ c.args.stmt.now (Looped (option_map expression_of s.test) (option_map expression_of s.step) (statement_of s.body))
    (ap statement_of s.is ∙ loop_form s.test s.step s.body) (first _ c.if-optional_asks.true c.optional_asks.ensures)

pub statement_asks-returns-then-optional_asks-2 : goal.statement_asks-returns-then-optional_asks-2
statement_asks-returns-then-optional_asks-2 t c =
    let s = c.in-Loop in
    as-statement _ c.args.stmt.now (Looped (option_map expression_of s.test) (option_map expression_of s.step) (statement_of s.body))
    (ap statement_of s.is ∙ loop_form s.test s.step s.body)
    (second c.if-optional_asks.false c.optional_asks.ensures (first _ c.if-optional_asks-2.true c.optional_asks-else-optional_asks.ensures))

pub statement_asks-returns-else-optional_asks-2 : goal.statement_asks-returns-else-optional_asks-2
statement_asks-returns-else-optional_asks-2 t c =
    let s = c.in-Loop in
    as-statement _ c.args.stmt.now (Looped (option_map expression_of s.test) (option_map expression_of s.step) (statement_of s.body))
    (ap statement_of s.is ∙ loop_form s.test s.step s.body)
    (second c.if-optional_asks.false c.optional_asks.ensures
    (second c.if-optional_asks-2.false c.optional_asks-else-optional_asks.ensures c.boxed_statement_asks-else-optional_asks-2.ensures))

pub statement_asks-returns-then-boxed_statement_asks-2 : goal.statement_asks-returns-then-boxed_statement_asks-2
statement_asks-returns-then-boxed_statement_asks-2 t c =
    let s = c.in-Repeat in
    as-statement _ c.args.stmt.now (Repeated (statement_of s.body) (expression_of s.test)) (ap statement_of s.is ∙ repeat_form s.body s.test)
    (first _ c.if-boxed_statement_asks-2.true c.boxed_statement_asks-in-Repeat.ensures)

pub statement_asks-returns-else-boxed_statement_asks-2 : goal.statement_asks-returns-else-boxed_statement_asks-2
statement_asks-returns-else-boxed_statement_asks-2 t c =
    let s = c.in-Repeat in
    as-statement _ c.args.stmt.now (Repeated (statement_of s.body) (expression_of s.test)) (ap statement_of s.is ∙ repeat_form s.body s.test)
    (second c.if-boxed_statement_asks-2.false c.boxed_statement_asks-in-Repeat.ensures c.expression_asks-else-boxed_statement_asks-2.ensures)
