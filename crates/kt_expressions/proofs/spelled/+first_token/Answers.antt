use Rattle.std.proofs.Common.{refl, ap, ◌∙◌}
use Rattle.kt_grammar.specs.Tree.{term_of}
use Rattle.kt_typing.specs.Terms.{first_token}
use Rattle.kt_operators.proofs.Syntax.{parenthesised-is, transformed-is, element-is, member-is, pointed-is, stepped-is, prefixed-is, converted-is, operated-is, chosen-is, assigned-is}
use Rattle.kt_expressions.proofs.Terms.{first_is}
use Rattle.kt_expressions.proofs.spelled.+first_token.Goals as goal

pub returns-in-Paren : goal.returns-in-Paren
returns-in-Paren t c = first_is c.args.e.now _ _ c.in-Paren.is (parenthesised-is c.in-Paren.at c.in-Paren.field-1) c.in-Paren.at refl

pub returns-in-Transform : goal.returns-in-Transform
returns-in-Transform t c = first_is c.args.e.now _ _ c.in-Transform.is (transformed-is c.in-Transform.at c.in-Transform.field-1) c.in-Transform.at refl

pub returns-in-Index : goal.returns-in-Index
returns-in-Index t c = first_is c.args.e.now _ _ c.in-Index.is (element-is c.in-Index.a c.in-Index.field-1) c.first_token.result (c.first_token.ensures ∙ ap (λ e. first_token (term_of e)) c.get.ensures)

pub returns-in-Field : goal.returns-in-Field
returns-in-Field t c = first_is c.args.e.now _ _ c.in-Field.is (member-is c.in-Field.a c.in-Field.field-1) c.first_token-in-Field.result (c.first_token-in-Field.ensures ∙ ap (λ e. first_token (term_of e)) c.get-in-Field.ensures)

pub returns-in-Arrow : goal.returns-in-Arrow
returns-in-Arrow t c = first_is c.args.e.now _ _ c.in-Arrow.is (pointed-is c.in-Arrow.a c.in-Arrow.field-1) c.first_token-in-Arrow.result (c.first_token-in-Arrow.ensures ∙ ap (λ e. first_token (term_of e)) c.get-in-Arrow.ensures)

pub returns-in-Step : goal.returns-in-Step
returns-in-Step t c = first_is c.args.e.now _ _ c.in-Step.is (stepped-is c.in-Step.a c.in-Step.field-1) c.first_token-in-Step.result (c.first_token-in-Step.ensures ∙ ap (λ e. first_token (term_of e)) c.get-in-Step.ensures)

pub returns-in-Prefix : goal.returns-in-Prefix
returns-in-Prefix t c = first_is c.args.e.now _ _ c.in-Prefix.is (prefixed-is c.in-Prefix.at c.in-Prefix.field-1 c.in-Prefix.field-2) c.in-Prefix.at refl

pub returns-in-Cast : goal.returns-in-Cast
returns-in-Cast t c = first_is c.args.e.now _ _ c.in-Cast.is (converted-is c.in-Cast.at c.in-Cast.field-1 c.in-Cast.field-2) c.in-Cast.at refl

pub returns-in-Binary : goal.returns-in-Binary
returns-in-Binary t c = first_is c.args.e.now _ _ c.in-Binary.is (operated-is c.in-Binary.field-0 c.in-Binary.a c.in-Binary.field-2) c.first_token-in-Binary.result (c.first_token-in-Binary.ensures ∙ ap (λ e. first_token (term_of e)) c.get-in-Binary.ensures)

pub returns-in-Choice : goal.returns-in-Choice
returns-in-Choice t c = first_is c.args.e.now _ _ c.in-Choice.is (chosen-is c.in-Choice.c c.in-Choice.field-1 c.in-Choice.field-2) c.first_token-in-Choice.result (c.first_token-in-Choice.ensures ∙ ap (λ e. first_token (term_of e)) c.get-in-Choice.ensures)

pub returns-in-Assign : goal.returns-in-Assign
returns-in-Assign t c = first_is c.args.e.now _ _ c.in-Assign.is (assigned-is c.in-Assign.field-0 c.in-Assign.a c.in-Assign.field-2) c.first_token-in-Assign.result (c.first_token-in-Assign.ensures ∙ ap (λ e. first_token (term_of e)) c.get-in-Assign.ensures)
