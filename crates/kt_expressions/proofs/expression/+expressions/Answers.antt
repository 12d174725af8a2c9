use Rattle.std.proofs.Common.{◌-◌, ℕ, map, sym, ap, ◌∙◌, subst, arith}
use Rattle.kt_grammar.specs.declared.tree.Expr.TheVariants as expr
use Rattle.kt_grammar.specs.Tree.{term_of, terms_of}
use Rattle.kt_typing.specs.declared.standing.Use.TheVariants as use_as
use Rattle.kt_typing.specs.Calls.{builtin_named}
use Rattle.kt_typing.specs.Rules.{operator}
use Rattle.kt_typing.specs.Terms.{argument_count, argument_uses, called, first_name, first_text, first_token, form, of_two, operand_use, parts}
use Rattle.kt_operands.specs.Views.{environment_of, operand_of}
use Rattle.kt_operators.specs.Judged.{Judges, JudgesParts}
use Rattle.kt_operators.proofs.Syntax.{parenthesised-is, transformed-is, element-is, member-is, pointed-is, stepped-is, prefixed-is, converted-is, operated-is, chosen-is, assigned-is, called-is}
use Rattle.kt_expressions.specs.Arguments.{turned_operands, parts_behind}
use Rattle.kt_expressions.proofs.Lists.{parts-next}
use Rattle.kt_expressions.proofs.Terms.{judged_is}
use Rattle.kt_expressions.proofs.expression.+expressions.Goals as goal

pub expression-returns-in-Call : goal.expression-returns-in-Call
expression-returns-in-Call t c =
    let env = environment_of c.args.env.now in
    let es = map term_of c.in-Call.args in
    let judged = c.called.ensures (subst (λ (n : ℕ). JudgesParts turned_operands (parts_behind env c.builtin_named-call.result n es) c.arguments-rest.result) c.words_of-from.ensures.words c.arguments-rest.ensures) in
    judged_is c.args.e.now _ _ c.in-Call.is (called-is c.in-Call.name c.in-Call.args) env c.args.to c.called.result
    (subst (λ (b : _). Judges operand_of (called env c.in-Call.name (argument_count (terms_of es)) (first_text (terms_of es)) (first_name (terms_of es)) (parts env (argument_uses b) (terms_of es)) b) c.called.result)
    (c.builtin_named-call.ensures ∙ ap builtin_named c.as_bytes.ensures.bytes) judged)

pub expression-returns-in-Paren : goal.expression-returns-in-Paren
expression-returns-in-Paren t c =
    judged_is c.args.e.now _ _ (c.in-Paren.is ∙ ap (λ x. expr.Paren c.in-Paren.field-0 x) (sym c.get.ensures)) (parenthesised-is c.in-Paren.field-0 c.get.result.now) (environment_of c.args.env.now) c.args.to c.expression.result c.expression.ensures

pub expression-returns-in-Transform : goal.expression-returns-in-Transform
expression-returns-in-Transform t c =
    let env = environment_of c.args.env.now in
    let a = c.get-inside.result.now in
    judged_is c.args.e.now _ _ (c.in-Transform.is ∙ ap (λ x. expr.Transform c.in-Transform.at x) (sym c.get-inside.ensures)) (transformed-is c.in-Transform.at a) env c.args.to c.transformed.result
    (c.transformed.ensures (form env use_as.Value (term_of a)) c.expression-typed.ensures)

pub expression-returns-in-Field : goal.expression-returns-in-Field
expression-returns-in-Field t c =
    let env = environment_of c.args.env.now in
    let a = c.get-whole.result.now in
    judged_is c.args.e.now _ _ (c.in-Field.is ∙ ap (λ x. expr.Field x c.in-Field.field) (sym c.get-whole.ensures)) (member-is a c.in-Field.field) env c.args.to c.member.result
    (c.member.ensures (form env use_as.Whole (term_of a)) c.expression-typed_whole.ensures)

pub expression-returns-in-Arrow : goal.expression-returns-in-Arrow
expression-returns-in-Arrow t c =
    let env = environment_of c.args.env.now in
    let a = c.get-pointer.result.now in
    judged_is c.args.e.now _ _ (c.in-Arrow.is ∙ ap (λ x. expr.Arrow x c.in-Arrow.field) (sym c.get-pointer.ensures)) (pointed-is a c.in-Arrow.field) env c.args.to c.pointed.result
    (c.pointed.ensures (form env use_as.Value (term_of a)) c.expression-typed_pointer.ensures)

pub expression-returns-in-Step : goal.expression-returns-in-Step
expression-returns-in-Step t c =
    let env = environment_of c.args.env.now in
    let a = c.get-place.result.now in
    judged_is c.args.e.now _ _ (c.in-Step.is ∙ ap (λ x. expr.Step x c.in-Step.op) (sym c.get-place.ensures)) (stepped-is a c.in-Step.op) env c.args.to c.stepped.result
    (c.stepped.ensures (form env use_as.Value (term_of a)) c.expression-typed_place.ensures)

pub expression-returns-in-Cast : goal.expression-returns-in-Cast
expression-returns-in-Cast t c =
    let env = environment_of c.args.env.now in
    let a = c.get-source.result.now in
    judged_is c.args.e.now _ _ (c.in-Cast.is ∙ ap (λ x. expr.Cast c.in-Cast.at c.in-Cast.ty x) (sym c.get-source.ensures)) (converted-is c.in-Cast.at c.in-Cast.ty a) env c.args.to c.converted.result
    (c.converted.ensures (form env use_as.Value (term_of a)) c.expression-typed_source.ensures)

pub expression-returns-in-Prefix : goal.expression-returns-in-Prefix
expression-returns-in-Prefix t c =
    let env = environment_of c.args.env.now in
    let a = c.get-operand.result.now in
    let op = c.in-Prefix.op in
    let at = c.in-Prefix.at in
    judged_is c.args.e.now _ _ (c.in-Prefix.is ∙ ap (λ x. expr.Prefix at op x) (sym c.get-operand.ensures)) (prefixed-is at op a) env c.args.to c.prefixed.result
    (c.prefixed.ensures (form env (operand_use op) (term_of a)) (subst (λ u. Judges operand_of (form env u (term_of a)) c.expression-typed_operand.result) c.operand_use-used.ensures c.expression-typed_operand.ensures))

pub expression-returns-in-Index : goal.expression-returns-in-Index
expression-returns-in-Index t c =
    let env = environment_of c.args.env.now in
    let a = c.get-base.result.now in
    let b = c.get-index.result.now in
    judged_is c.args.e.now _ _ (c.in-Index.is ∙ ap (λ x. expr.Index x c.in-Index.i) (sym c.get-base.ensures) ∙ ap (λ x. expr.Index a x) (sym c.get-index.ensures)) (element-is a b) env c.args.to c.element.result
    (c.element.ensures (form env use_as.Indexed (term_of a)) (form env use_as.Value (term_of b)) c.expression-typed_base.ensures c.expression-typed_index.ensures)

pub expression-returns-in-Binary : goal.expression-returns-in-Binary
expression-returns-in-Binary t c =
    let env = environment_of c.args.env.now in
    let a = c.get-left.result.now in
    let b = c.get-right.result.now in
    let op = c.in-Binary.op in
    judged_is c.args.e.now _ _ (c.in-Binary.is ∙ ap (λ x. expr.Binary op x c.in-Binary.b) (sym c.get-left.ensures) ∙ ap (λ x. expr.Binary op a x) (sym c.get-right.ensures)) (operated-is op a b) env c.args.to c.operated.result
    (subst (λ u. Judges operand_of (of_two env (first_token (term_of a)) u (form env u (term_of a)) u (form env u (term_of b)) (operator env (first_token (term_of a)) op)) c.operated.result) c.factor_use-used.ensures
    (c.operated.ensures (form env c.factor_use-used.result (term_of a)) (form env c.factor_use-used.result (term_of b)) c.expression-typed_left.ensures c.expression-typed_right.ensures))

pub expression-returns-in-Assign : goal.expression-returns-in-Assign
expression-returns-in-Assign t c =
    let env = environment_of c.args.env.now in
    let a = c.get-target.result.now in
    let b = c.get-value.result.now in
    let op = c.in-Assign.op in
    judged_is c.args.e.now _ _ (c.in-Assign.is ∙ ap (λ x. expr.Assign op x c.in-Assign.b) (sym c.get-target.ensures) ∙ ap (λ x. expr.Assign op a x) (sym c.get-value.ensures)) (assigned-is op a b) env c.args.to c.assigned.result
    (c.assigned.ensures (form env use_as.Value (term_of a)) (form env use_as.Value (term_of b)) c.expression-typed_target.ensures c.expression-typed_value.ensures)

pub expression-returns-in-Choice : goal.expression-returns-in-Choice
expression-returns-in-Choice t c =
    let env = environment_of c.args.env.now in
    let d = c.get-test.result.now in
    let a = c.get-one.result.now in
    let b = c.get-other.result.now in
    judged_is c.args.e.now _ _
    (c.in-Choice.is ∙ ap (λ x. expr.Choice x c.in-Choice.a c.in-Choice.b) (sym c.get-test.ensures) ∙ ap (λ x. expr.Choice d x c.in-Choice.b) (sym c.get-one.ensures) ∙ ap (λ x. expr.Choice d a x) (sym c.get-other.ensures))
    (chosen-is d a b) env c.args.to c.chosen.result
    (c.chosen.ensures (form env use_as.Value (term_of d)) (form env use_as.Value (term_of a)) (form env use_as.Value (term_of b)) c.expression-typed_test.ensures c.expression-typed_one.ensures c.expression-typed_other.ensures)

pub arguments-loop-i-preserved : goal.arguments-loop-i-preserved
arguments-loop-i-preserved t c =
    let env = environment_of c.args.env.now in
    let es = c.as_slice-items.result.now in
    let to = c.use_at-to.result in
    let e = c.index-items-i.result in (
      omega arith,
      omega arith,
      parts-next env c.args.call es c.loop-i.i (c.loop-i.i - 1) e to c.argument_before-done.result (omega arith) (omega arith) c.index-items-i.is c.use_at-to.ensures
          (c.argument_before-done.ensures (form env to (term_of e)) (parts_behind env c.args.call c.loop-i.i (map term_of es)) c.expression-typed.ensures c.loop-i.invariant.2),
    )
