use Rattle.std.proofs.Common.{false, refl, ap, ◌∙◌}
use Rattle.kt_grammar.specs.Tree.{term_of}
use Rattle.kt_typing.specs.Terms.{is_allocation}
use Rattle.kt_operators.proofs.Syntax.{parenthesised-is, transformed-is, element-is, member-is, pointed-is, stepped-is, prefixed-is, converted-is, operated-is, chosen-is, assigned-is}
use Rattle.kt_expressions.proofs.Terms.{allocation_is}
use Rattle.kt_expressions.proofs.spelled.+is_allocation.Goals as goal

pub returns-in-Paren : goal.returns-in-Paren
returns-in-Paren t c = allocation_is c.args.e.now _ _ c.in-Paren.is (parenthesised-is c.in-Paren.field-0 c.in-Paren.a) c.is_allocation.result (c.is_allocation.ensures ∙ ap (λ e. is_allocation (term_of e)) c.get.ensures)

pub returns-in-Transform : goal.returns-in-Transform
returns-in-Transform t c = allocation_is c.args.e.now _ _ c.in-Transform.is (transformed-is c.in-Transform.field-0 c.in-Transform.field-1) false refl

pub returns-in-Index : goal.returns-in-Index
returns-in-Index t c = allocation_is c.args.e.now _ _ c.in-Index.is (element-is c.in-Index.field-0 c.in-Index.field-1) false refl

pub returns-in-Field : goal.returns-in-Field
returns-in-Field t c = allocation_is c.args.e.now _ _ c.in-Field.is (member-is c.in-Field.field-0 c.in-Field.field-1) false refl

pub returns-in-Arrow : goal.returns-in-Arrow
returns-in-Arrow t c = allocation_is c.args.e.now _ _ c.in-Arrow.is (pointed-is c.in-Arrow.field-0 c.in-Arrow.field-1) false refl

pub returns-in-Step : goal.returns-in-Step
returns-in-Step t c = allocation_is c.args.e.now _ _ c.in-Step.is (stepped-is c.in-Step.field-0 c.in-Step.field-1) false refl

pub returns-in-Prefix : goal.returns-in-Prefix
returns-in-Prefix t c = allocation_is c.args.e.now _ _ c.in-Prefix.is (prefixed-is c.in-Prefix.field-0 c.in-Prefix.field-1 c.in-Prefix.field-2) false refl

pub returns-in-Cast : goal.returns-in-Cast
returns-in-Cast t c = allocation_is c.args.e.now _ _ c.in-Cast.is (converted-is c.in-Cast.field-0 c.in-Cast.field-1 c.in-Cast.field-2) false refl

pub returns-in-Binary : goal.returns-in-Binary
returns-in-Binary t c = allocation_is c.args.e.now _ _ c.in-Binary.is (operated-is c.in-Binary.field-0 c.in-Binary.field-1 c.in-Binary.field-2) false refl

pub returns-in-Choice : goal.returns-in-Choice
returns-in-Choice t c = allocation_is c.args.e.now _ _ c.in-Choice.is (chosen-is c.in-Choice.field-0 c.in-Choice.field-1 c.in-Choice.field-2) false refl

pub returns-in-Assign : goal.returns-in-Assign
returns-in-Assign t c = allocation_is c.args.e.now _ _ c.in-Assign.is (assigned-is c.in-Assign.field-0 c.in-Assign.field-1 c.in-Assign.field-2) false refl
