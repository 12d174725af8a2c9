use Rattle.std.proofs.Common.{refl, ap, ◌∙◌, rules}
use Rattle.kt_grammar.specs.Tree.{term_of}
use Rattle.kt_names.specs.Uses.{term_uses}
use Rattle.kt_names.proofs.Adding.{adds-one, adds-two, adds-three}
use Rattle.kt_names.proofs.Trees.{called-is, parenthesised-is, transformed-is, element-is, member-is, pointed-is, stepped-is, prefixed-is, converted-is, operated-is, chosen-is, assigned-is}
use Rattle.kt_names.proofs.uses.Uses.+exprs.Goals as goal

pub push_expr-returns-in_ok-push_called-in-Call : goal.push_expr-returns-in_ok-push_called-in-Call
push_expr-returns-in_ok-push_called-in-Call t c = adds-two _ c.args.self.now c.push_called.new.self _ _ _ _ c.in_ok-push_called-in-Call.ensures c.push_exprs.ensures (ap term_uses (ap term_of c.in-Call.is ∙ called-is c.in-Call.name c.in-Call.arguments))

pub push_expr-returns-in-Paren : goal.push_expr-returns-in-Paren
push_expr-returns-in-Paren t c = adds-one _ c.args.self.now _ _ _ c.push_expr.ensures (rw (c.in-Paren.is, parenthesised-is c.in-Paren.field-0 c.in-Paren.a, c.get.ensures) refl)

pub push_expr-returns-in-Transform : goal.push_expr-returns-in-Transform
push_expr-returns-in-Transform t c = rw (c.in-Transform.is, transformed-is c.in-Transform.field-0 c.in-Transform.field-1) (search rules)

pub push_expr-returns-in_ok-push_expr-in-Index : goal.push_expr-returns-in_ok-push_expr-in-Index
push_expr-returns-in_ok-push_expr-in-Index t c =
    adds-two _ c.args.self.now c.push_expr-in-Index.new.self _ _ _ _ c.in_ok-push_expr-in-Index.ensures c.push_expr-in-Index-2.ensures (rw (c.in-Index.is, element-is c.in-Index.a c.in-Index.i, c.get-in-Index.ensures, c.get-in-Index-2.ensures) refl)

pub push_expr-returns-in-Field : goal.push_expr-returns-in-Field
push_expr-returns-in-Field t c = adds-one _ c.args.self.now _ _ _ c.push_expr-in-Field.ensures (rw (c.in-Field.is, member-is c.in-Field.a c.in-Field.field-1, c.get-in-Field.ensures) refl)

pub push_expr-returns-in-Arrow : goal.push_expr-returns-in-Arrow
push_expr-returns-in-Arrow t c = adds-one _ c.args.self.now _ _ _ c.push_expr-in-Arrow.ensures (rw (c.in-Arrow.is, pointed-is c.in-Arrow.a c.in-Arrow.field-1, c.get-in-Arrow.ensures) refl)

pub push_expr-returns-in-Step : goal.push_expr-returns-in-Step
push_expr-returns-in-Step t c = adds-one _ c.args.self.now _ _ _ c.push_expr-in-Step.ensures (rw (c.in-Step.is, stepped-is c.in-Step.a c.in-Step.field-1, c.get-in-Step.ensures) refl)

pub push_expr-returns-in-Prefix : goal.push_expr-returns-in-Prefix
push_expr-returns-in-Prefix t c = adds-one _ c.args.self.now _ _ _ c.push_expr-in-Prefix.ensures (rw (c.in-Prefix.is, prefixed-is c.in-Prefix.field-0 c.in-Prefix.field-1 c.in-Prefix.a, c.get-in-Prefix.ensures) refl)

pub push_expr-returns-in_ok-push_named-in-Cast : goal.push_expr-returns-in_ok-push_named-in-Cast
push_expr-returns-in_ok-push_named-in-Cast t c = adds-two _ c.args.self.now c.push_named-in-Cast.new.self _ _ _ _ c.in_ok-push_named-in-Cast.ensures c.push_expr-in-Cast.ensures (rw (c.in-Cast.is, converted-is c.in-Cast.field-0 c.in-Cast.named c.in-Cast.a, c.get-in-Cast.ensures) refl)

pub push_expr-returns-in_ok-push_expr-in-Binary : goal.push_expr-returns-in_ok-push_expr-in-Binary
push_expr-returns-in_ok-push_expr-in-Binary t c =
    adds-two _ c.args.self.now c.push_expr-in-Binary.new.self _ _ _ _ c.in_ok-push_expr-in-Binary.ensures c.push_expr-in-Binary-2.ensures (rw (c.in-Binary.is, operated-is c.in-Binary.field-0 c.in-Binary.a c.in-Binary.b, c.get-in-Binary.ensures, c.get-in-Binary-2.ensures) refl)

pub push_expr-returns-in_ok-push_expr-in-Choice-2 : goal.push_expr-returns-in_ok-push_expr-in-Choice-2
push_expr-returns-in_ok-push_expr-in-Choice-2 t c =
    adds-three _ c.args.self.now c.push_expr-in-Choice.new.self c.push_expr-in-Choice-2.new.self _ _ _ _ _ c.in_ok-push_expr-in-Choice.ensures c.in_ok-push_expr-in-Choice-2.ensures c.push_expr-in-Choice-3.ensures (rw (c.in-Choice.is, chosen-is c.in-Choice.c c.in-Choice.a c.in-Choice.b, c.get-in-Choice.ensures, c.get-in-Choice-2.ensures, c.get-in-Choice-3.ensures) refl)

pub push_expr-returns-in_ok-push_expr-in-Assign : goal.push_expr-returns-in_ok-push_expr-in-Assign
push_expr-returns-in_ok-push_expr-in-Assign t c =
    adds-two _ c.args.self.now c.push_expr-in-Assign.new.self _ _ _ _ c.in_ok-push_expr-in-Assign.ensures c.push_expr-in-Assign-2.ensures (rw (c.in-Assign.is, assigned-is c.in-Assign.field-0 c.in-Assign.a c.in-Assign.b, c.get-in-Assign.ensures, c.get-in-Assign-2.ensures) refl)
