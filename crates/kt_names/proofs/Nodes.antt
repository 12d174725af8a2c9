-- What a typed expression is as plain data, made of its parts.
use Rattle.std.proofs.Common.{◌≡◌, ℕ, Option, List, map, refl, ap, ◌∙◌}
use mathlib.Core.Former.{Count}
use Rattle.kt_tree.specs.declared.expr.Operation.{Operation as Op}
use Rattle.kt_tree.specs.declared.expr.Request.{Request as Req}
use Rattle.kt_tree.specs.declared.expr.Expr.{Expr, Operation, Operation', Request, Request', Call, Call', Row_of-Expr, end_of-Expr, more_of-Expr, items-the_row-Expr, items_hidden-the_row-Expr-1}
use Rattle.kt_tree.specs.Tree.{Operated, Requested, Called, More, expression_of, expressions_of_row}
use Rattle.kt_names.specs.Views.{expressions_of}

abbrev row_of : Expr → (n : Count) × Row_of-Expr n
row_of (Operation' op ty p row) = (_, row)
row_of (Request' r ty p row) = (_, row)
row_of (Call' f p row) = (_, row)
row_of _ = (_, end_of-Expr)

of_row : (n : _) (row : Row_of-Expr n) → expressions_of_row row ≡ expressions_of (map expression_of (items-the_row-Expr n row))
of_row n end_of-Expr = refl
of_row n (more_of-Expr a rest) = ap (More (expression_of a)) (of_row _ rest)

pub operated-is : (op : Op) (ty : ℕ) (xs : List Expr) → expression_of (Operation op ty xs) ≡ Operated op ty (expressions_of (map expression_of xs))
operated-is op ty xs =
    let row = row_of (Operation op ty xs) in
    ap (Operated op ty) (of_row row.0 row.1 ∙ ap (λ (ys : List Expr). expressions_of (map expression_of ys)) (items_hidden-the_row-Expr-1 xs))

pub requested-is : (r : Req) (ty : Option ℕ) (xs : List Expr) → expression_of (Request r ty xs) ≡ Requested r ty (expressions_of (map expression_of xs))
requested-is r ty xs =
    let row = row_of (Request r ty xs) in
    ap (Requested r ty) (of_row row.0 row.1 ∙ ap (λ (ys : List Expr). expressions_of (map expression_of ys)) (items_hidden-the_row-Expr-1 xs))

pub operated-by : (op : Op) (ty : ℕ) (xs ys : List Expr) → xs ≡ ys → expression_of (Operation op ty xs) ≡ Operated op ty (expressions_of (map expression_of ys))
operated-by op ty xs ys e = operated-is op ty xs ∙ ap (λ (zs : List Expr). Operated op ty (expressions_of (map expression_of zs))) e

pub requested-by : (r : Req) (ty : Option ℕ) (xs ys : List Expr) → xs ≡ ys → expression_of (Request r ty xs) ≡ Requested r ty (expressions_of (map expression_of ys))
requested-by r ty xs ys e = requested-is r ty xs ∙ ap (λ (zs : List Expr). Requested r ty (expressions_of (map expression_of zs))) e

pub called-is : (f : ℕ) (args : List Expr) → expression_of (Call f args) ≡ Called f (expressions_of (map expression_of args))
called-is f args =
    let row = row_of (Call f args) in
    ap (Called f) (of_row row.0 row.1 ∙ ap (λ (xs : List Expr). expressions_of (map expression_of xs)) (items_hidden-the_row-Expr-1 args))

pub ruleset nodes = (operated-is, requested-is, called-is)
