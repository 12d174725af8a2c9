use Rattle.std.proofs.Common.{◌≡◌, ℕ, List, [], ◌∷◌, ◌++◌, length, map, take, get_or, Err, inr, refl, sym, ap, ◌∙◌, subst, arith}
use Rattle.kt_grammar.specs.declared.tree.Expr.{Expr}
use Rattle.kt_grammar.specs.declared.tree.Expr.TheVariants as expr
use Rattle.kt_grammar.specs.Tree.{term_of, terms_of, Called, Parenthesised, Element, Member, Pointed, Stepped, Prefixed, Converted, Operated, Chosen, Assigned}
use Rattle.kt_names.specs.Views.{environment_of, operand_of, operands_of}
use Rattle.kt_names.specs.declared.fault.CheckFault.TheVariants.{Unknown, BadType}
use Rattle.kt_names.specs.Checked.{Checked, both}
use Rattle.kt_names.specs.Judges.{Judges}
use Rattle.kt_names.specs.Operands.{Operand}
use Rattle.kt_names.specs.Terms.{typing, typing_all}
use Rattle.kt_names.proofs.Parts.{faulty, judges-pair}
use Rattle.kt_terms.proofs.Mallocs.{memory-many, memory-named, operation-judged, one-judged}
use Rattle.kt_terms.proofs.Syntax.{parenthesised-is, transformed-is, element-is, member-is, pointed-is, stepped-is, prefixed-is, converted-is, operated-is, chosen-is, assigned-is, called-is}
use Rattle.kt_terms.proofs.TermAnswers.{typed_is, all-next, all-end, all-memory}
use Rattle.kt_terms.proofs.term.+terms.Goals as goal

pub typing-returns-then-takes_memory : goal.typing-returns-then-takes_memory
typing-returns-then-takes_memory t c =
    let env = environment_of c.args.env.now in
    let args = terms_of (map term_of c.in-Call.args) in
    let P : Checked Operand → Type 0 = λ s. Judges operand_of c.memory.result s in
    let named = memory-named env c.in-Call.name args (sym c.takes_memory.ensures ∙ c.if-takes_memory.true) in
    typed_is c.args.e.now _ _ c.in-Call.is (called-is c.in-Call.name c.in-Call.args) env c.memory.result (subst P named c.memory.ensures)

pub typing-returns-else-takes_memory : goal.typing-returns-else-takes_memory
typing-returns-else-takes_memory t c =
    typed_is c.args.e.now _ _ c.in-Call.is (called-is c.in-Call.name c.in-Call.args) (environment_of c.args.env.now) c.called.result (c.called.ensures c.typing_all-arguments.ensures)

pub memory-returns-then-args-ne1 : goal.memory-returns-then-args-ne1
memory-returns-then-args-ne1 t c =
    faulty _ (BadType c.args.up) (memory-many (environment_of c.args.env.now) c.args.up c.args.args.now (λ e. c.if-args-ne1.true (ap (λ (es : List Expr). length es) c.as_slice-args.ensures ∙ e)))

pub memory-returns-in-Binary : goal.memory-returns-in-Binary
memory-returns-in-Binary t c =
    let env = environment_of c.args.env.now in
    let a = c.get-left.result.now in
    let b = c.get-right.result.now in
    let only : length c.as_slice-args.result.now ≡ 1 = omega arith in
    operation-judged env c.args.up c.args.args.now c.as_slice-args.result.now c.index-args-0.result c.operation_of.result c.as_slice-args.ensures only c.index-args-0.is c.in-Binary.op a b
    (c.in-Binary.is ∙ ap (λ x. expr.Binary c.in-Binary.op x c.in-Binary.b) (sym c.get-left.ensures) ∙ ap (λ x. expr.Binary c.in-Binary.op a x) (sym c.get-right.ensures))
    (c.operation_of.ensures (typing env (term_of a)) (typing env (term_of b)) c.typing-typed_left.ensures c.typing-typed_right.ensures)

pub memory-returns-in_default : goal.memory-returns-in_default
memory-returns-in_default t c =
    let env = environment_of c.args.env.now in
    let only : length c.as_slice-args.result.now ≡ 1 = omega arith in
    one-judged env c.args.up c.args.args.now c.as_slice-args.result.now c.index-args-0.result c.memory_of.result c.as_slice-args.ensures only c.index-args-0.is c.in_default.not-Binary
    (c.memory_of.ensures (typing env (term_of c.index-args-0.result)) c.typing-typed.ensures)

pub typing-returns-in-Paren : goal.typing-returns-in-Paren
typing-returns-in-Paren t c =
    typed_is c.args.e.now _ _ (c.in-Paren.is ∙ ap (λ x. expr.Paren c.in-Paren.field-0 x) (sym c.get.ensures)) (parenthesised-is c.in-Paren.field-0 c.get.result.now) (environment_of c.args.env.now) c.typing.result c.typing.ensures

pub typing-returns-in-Field : goal.typing-returns-in-Field
typing-returns-in-Field t c =
    let env = environment_of c.args.env.now in
    typed_is c.args.e.now _ _ (c.in-Field.is ∙ ap (λ x. expr.Field x c.in-Field.field) (sym c.get-whole.ensures)) (member-is c.get-whole.result.now c.in-Field.field) env c.member_of.result
    (c.member_of.ensures (typing env (term_of c.get-whole.result.now)) c.typing-typed_whole.ensures)

pub typing-returns-in-Arrow : goal.typing-returns-in-Arrow
typing-returns-in-Arrow t c =
    let env = environment_of c.args.env.now in
    typed_is c.args.e.now _ _ (c.in-Arrow.is ∙ ap (λ x. expr.Arrow x c.in-Arrow.field) (sym c.get-pointer.ensures)) (pointed-is c.get-pointer.result.now c.in-Arrow.field) env c.pointed_of.result
    (c.pointed_of.ensures (typing env (term_of c.get-pointer.result.now)) c.typing-typed_pointer.ensures)

pub typing-returns-in-Step : goal.typing-returns-in-Step
typing-returns-in-Step t c =
    let env = environment_of c.args.env.now in
    typed_is c.args.e.now _ _ (c.in-Step.is ∙ ap (λ x. expr.Step x c.in-Step.op) (sym c.get-stepped.ensures)) (stepped-is c.get-stepped.result.now c.in-Step.op) env c.stepped_of.result
    (c.stepped_of.ensures (typing env (term_of c.get-stepped.result.now)) c.typing-typed_stepped.ensures)

pub typing-returns-in-Prefix : goal.typing-returns-in-Prefix
typing-returns-in-Prefix t c =
    let env = environment_of c.args.env.now in
    typed_is c.args.e.now _ _ (c.in-Prefix.is ∙ ap (λ x. expr.Prefix c.in-Prefix.at c.in-Prefix.op x) (sym c.get-operand.ensures)) (prefixed-is c.in-Prefix.at c.in-Prefix.op c.get-operand.result.now) env c.prefixed_of.result
    (c.prefixed_of.ensures (typing env (term_of c.get-operand.result.now)) c.typing-typed_operand.ensures)

pub typing-returns-in-Cast : goal.typing-returns-in-Cast
typing-returns-in-Cast t c =
    let env = environment_of c.args.env.now in
    typed_is c.args.e.now _ _ (c.in-Cast.is ∙ ap (λ x. expr.Cast c.in-Cast.at c.in-Cast.t x) (sym c.get-converted.ensures)) (converted-is c.in-Cast.at c.in-Cast.t c.get-converted.result.now) env c.cast_of.result
    (c.cast_of.ensures (typing env (term_of c.get-converted.result.now)) c.typing-typed_converted.ensures)

pub typing-returns-in-Index : goal.typing-returns-in-Index
typing-returns-in-Index t c =
    let env = environment_of c.args.env.now in
    let a = c.get-base.result.now in
    let b = c.get-index.result.now in
    typed_is c.args.e.now _ _ (c.in-Index.is ∙ ap (λ x. expr.Index x c.in-Index.i) (sym c.get-base.ensures) ∙ ap (λ x. expr.Index a x) (sym c.get-index.ensures)) (element-is a b) env c.element_of.result
    (c.element_of.ensures (both (typing env (term_of a)) (typing env (term_of b)))
    (judges-pair operand_of operand_of c.typing-typed_base.result c.typing-typed_index.result c.both-indexed.result _ _ c.both-indexed.ensures c.typing-typed_base.ensures c.typing-typed_index.ensures))

pub typing-returns-in-Binary : goal.typing-returns-in-Binary
typing-returns-in-Binary t c =
    let env = environment_of c.args.env.now in
    let a = c.get-left.result.now in
    let b = c.get-right.result.now in
    typed_is c.args.e.now _ _ (c.in-Binary.is ∙ ap (λ x. expr.Binary c.in-Binary.op x c.in-Binary.b) (sym c.get-left.ensures) ∙ ap (λ x. expr.Binary c.in-Binary.op a x) (sym c.get-right.ensures)) (operated-is c.in-Binary.op a b) env c.operated_of.result
    (c.operated_of.ensures (both (typing env (term_of a)) (typing env (term_of b)))
    (judges-pair operand_of operand_of c.typing-typed_left.result c.typing-typed_right.result c.both-operands.result _ _ c.both-operands.ensures c.typing-typed_left.ensures c.typing-typed_right.ensures))

pub typing-returns-in-Assign : goal.typing-returns-in-Assign
typing-returns-in-Assign t c =
    let env = environment_of c.args.env.now in
    let a = c.get-place.result.now in
    let b = c.get-value.result.now in
    typed_is c.args.e.now _ _ (c.in-Assign.is ∙ ap (λ x. expr.Assign c.in-Assign.op x c.in-Assign.b) (sym c.get-place.ensures) ∙ ap (λ x. expr.Assign c.in-Assign.op a x) (sym c.get-value.ensures)) (assigned-is c.in-Assign.op a b) env c.assigned_of.result
    (c.assigned_of.ensures (both (typing env (term_of a)) (typing env (term_of b)))
    (judges-pair operand_of operand_of c.typing-typed_place.result c.typing-typed_value.result c.both-assigned.result _ _ c.both-assigned.ensures c.typing-typed_place.ensures c.typing-typed_value.ensures))

pub typing-returns-in-Choice : goal.typing-returns-in-Choice
typing-returns-in-Choice t c =
    let env = environment_of c.args.env.now in
    let d = c.get-test.result.now in
    let a = c.get-one.result.now in
    let b = c.get-other.result.now in
    let arms = judges-pair operand_of operand_of c.typing-typed_one.result c.typing-typed_other.result c.both-arms.result (typing env (term_of a)) (typing env (term_of b)) c.both-arms.ensures c.typing-typed_one.ensures c.typing-typed_other.ensures in
    typed_is c.args.e.now _ _
    (c.in-Choice.is ∙ ap (λ x. expr.Choice x c.in-Choice.a c.in-Choice.b) (sym c.get-test.ensures) ∙ ap (λ x. expr.Choice d x c.in-Choice.b) (sym c.get-one.ensures) ∙ ap (λ x. expr.Choice d a x) (sym c.get-other.ensures))
    (chosen-is d a b) env c.chosen_of.result
    (c.chosen_of.ensures (both (typing env (term_of d)) (both (typing env (term_of a)) (typing env (term_of b))))
    (judges-pair operand_of operands_of c.typing-typed_test.result c.both-arms.result c.both-parts.result (typing env (term_of d)) (both (typing env (term_of a)) (typing env (term_of b))) c.both-parts.ensures c.typing-typed_test.ensures arms))

pub typing-returns-in-Transform : goal.typing-returns-in-Transform
typing-returns-in-Transform t c =
    typed_is c.args.e.now _ _ c.in-Transform.is (transformed-is c.in-Transform.at c.in-Transform.field-1) (environment_of c.args.env.now) (Err (Unknown c.in-Transform.at)) (inr refl)

pub typing_all-returns-in_err-push : goal.typing_all-returns-in_err-push
typing_all-returns-in_err-push t c =
    all-memory c.from_residual.result (typing_all (environment_of c.args.env.now) (terms_of (map term_of c.args.args.now))) c.from_residual.ensures.0 c.from_residual.ensures.1

pub typing_all-loop-e-preserved : goal.typing_all-loop-e-preserved
typing_all-loop-e-preserved t c =
    all-next (environment_of c.args.env.now) c.args.args.now c.as_slice-e-items.result.now c.loop-e.e-index c.e-item.result c.loop-e.arguments c.push.new.self
    (record { at = c.first_token-at.result; typed = c.typing-typed.result }) c.as_slice-e-items.ensures c.loop-e-test.true c.e-item.is c.in_ok-push.ensures.ok c.first_token-at.ensures c.typing-typed.ensures c.loop-e.invariant

pub typing_all-returns : goal.typing_all-returns
typing_all-returns t c =
    all-end (environment_of c.args.env.now) c.args.args.now c.as_slice-e-items.result.now c.loop-e.e-index c.loop-e.arguments c.as_slice-e-items.ensures c.loop-e-test.false c.loop-e.invariant
