-- What an expression of the syntax is as plain data, made of its parts.
use Rattle.std.proofs.Common.{◌≡◌, ℕ, List, map, refl, ap, ◌∙◌}
use denote.Hole.Carrier.{hidden}
use mathlib.Core.Former.{Count}
use Rattle.kt_grammar.specs.declared.operator.PrefixOperator.{PrefixOperator}
use Rattle.kt_grammar.specs.declared.operator.StepOperator.{StepOperator}
use Rattle.kt_grammar.specs.declared.operator.BinaryOperator.{BinaryOperator}
use Rattle.kt_grammar.specs.declared.operator.AssignOperator.{AssignOperator}
use Rattle.kt_grammar.specs.declared.tree.Name.{Name}
use Rattle.kt_grammar.specs.declared.tree.TypeName.{TypeName}
use Rattle.kt_grammar.specs.declared.tree.Expr.TheBlock.{hidden-the_row-Expr-1}
use Rattle.kt_grammar.specs.declared.tree.Expr.{Expr, Call, Call', Row_of-Expr, end_of-Expr, more_of-Expr, items-the_row-Expr, items_hidden-the_row-Expr-0}
use Rattle.kt_grammar.specs.declared.tree.Expr.TheVariants as expr
use Rattle.kt_grammar.specs.Tree.{Called, Parenthesised, Transformed, Element, Member, Pointed, Stepped, Prefixed, Converted, Operated, Chosen, Assigned, More, term_of, terms_of, terms_of_row}

pub parenthesised-is : (at : ℕ) (a : Expr) → term_of (expr.Paren at a) ≡ Parenthesised at (term_of a)
unfolding hidden-the_row-Expr-1 hidden
parenthesised-is at a = refl

pub transformed-is : (at : ℕ) (a : Expr) → term_of (expr.Transform at a) ≡ Transformed at (term_of a)
unfolding hidden-the_row-Expr-1 hidden
transformed-is at a = refl

pub element-is : (a i : Expr) → term_of (expr.Index a i) ≡ Element (term_of a) (term_of i)
unfolding hidden-the_row-Expr-1 hidden
element-is a i = refl

pub member-is : (a : Expr) (f : Name) → term_of (expr.Field a f) ≡ Member (term_of a) f
unfolding hidden-the_row-Expr-1 hidden
member-is a f = refl

pub pointed-is : (a : Expr) (f : Name) → term_of (expr.Arrow a f) ≡ Pointed (term_of a) f
unfolding hidden-the_row-Expr-1 hidden
pointed-is a f = refl

pub stepped-is : (a : Expr) (op : StepOperator) → term_of (expr.Step a op) ≡ Stepped (term_of a) op
unfolding hidden-the_row-Expr-1 hidden
stepped-is a op = refl

pub prefixed-is : (at : ℕ) (op : PrefixOperator) (a : Expr) → term_of (expr.Prefix at op a) ≡ Prefixed at op (term_of a)
unfolding hidden-the_row-Expr-1 hidden
prefixed-is at op a = refl

pub converted-is : (at : ℕ) (type : TypeName) (a : Expr) → term_of (expr.Cast at type a) ≡ Converted at type (term_of a)
unfolding hidden-the_row-Expr-1 hidden
converted-is at type a = refl

pub operated-is : (op : BinaryOperator) (a b : Expr) → term_of (expr.Binary op a b) ≡ Operated op (term_of a) (term_of b)
unfolding hidden-the_row-Expr-1 hidden
operated-is op a b = refl

pub chosen-is : (c a b : Expr) → term_of (expr.Choice c a b) ≡ Chosen (term_of c) (term_of a) (term_of b)
unfolding hidden-the_row-Expr-1 hidden
chosen-is c a b = refl

pub assigned-is : (op : AssignOperator) (a b : Expr) → term_of (expr.Assign op a b) ≡ Assigned op (term_of a) (term_of b)
unfolding hidden-the_row-Expr-1 hidden
assigned-is op a b = refl

abbrev row_of : Expr → (n : Count) × Row_of-Expr n
row_of (Call' f _ row) = (_, row)
row_of _ = (_, end_of-Expr)

of_row : (n : _) (row : Row_of-Expr n) → terms_of_row row ≡ terms_of (map term_of (items-the_row-Expr n row))
of_row n end_of-Expr = refl
of_row n (more_of-Expr a rest) = ap (More (term_of a)) (of_row _ rest)

pub called-is : (f : Name) (args : List Expr) → term_of (Call f args) ≡ Called f (terms_of (map term_of args))
called-is f args =
    let row = row_of (Call f args) in
    ap (Called f) (of_row row.0 row.1 ∙ ap (λ (xs : List Expr). terms_of (map term_of xs)) (items_hidden-the_row-Expr-0 args))

pub ruleset terms = (parenthesised-is, transformed-is, element-is, member-is, pointed-is, stepped-is, prefixed-is, converted-is, operated-is, chosen-is, assigned-is, called-is)
