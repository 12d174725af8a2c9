-- What the code's trees are as plain data, form by form, for the functions that make a tree of its parts.
use denote.Hole.Carrier.{hidden}
use Rattle.std.proofs.Common.{◌≡◌, ℕ, Bool, List, [], ◌∷◌, Option, refl, ap}
use Rattle.std.specs.Option.{option_map}
use Rattle.kt_tree.specs.declared.expr.Expr.{Expr}
use Rattle.kt_tree.specs.declared.expr.Expr.TheVariants as expr
use Rattle.kt_tree.specs.declared.expr.Expr.TheBlock.{hidden-the_row-Expr-0, hidden-the_row-Expr-1}
use Rattle.kt_tree.specs.declared.expr.Operation.{Operation}
use Rattle.kt_tree.specs.declared.expr.Request.{Request}
use Rattle.kt_tree.specs.declared.stmt.Stmt.{Stmt}
use Rattle.kt_tree.specs.declared.stmt.Stmt.TheVariants as stmt
use Rattle.kt_tree.specs.declared.stmt.Stmt.TheBlock.{hidden-the_row-Stmt-0, hidden-the_row-Stmt-1}
use Rattle.kt_tree.specs.Tree.{Expressions, NoMore, More, LocalSet, LocalSwapped, Operated, Requested, Modified, Both, Either, Chosen, Called, expression_of, expressions_of, expressions_of_row, Statements, Done, Then, Compound, Conditional, Looped, Repeated, statement_of, statements_of, statements_of_row}

pub operands : (es : List Expr) → expressions_of_row (hidden-the_row-Expr-1 es) ≡ expressions_of es
unfolding hidden-the_row-Expr-1 hidden
operands [] = refl
operands (e ∷ es) = ap (More (expression_of e)) (operands es)

pub operation_form : (op : Operation) (t : ℕ) (es : List Expr) → expression_of (expr.Operation op t es) ≡ Operated op t (expressions_of es)
operation_form op t es = ap (Operated op t) (operands es)

pub request_form : (r : Request) (t : Option ℕ) (es : List Expr) → expression_of (expr.Request r t es) ≡ Requested r t (expressions_of es)
request_form r t es = ap (Requested r t) (operands es)

pub call_form : (f : ℕ) (es : List Expr) → expression_of (expr.Call f es) ≡ Called f (expressions_of es)
call_form f es = ap (Called f) (operands es)

pub set_form : (x : ℕ) (e : Expr) → expression_of (expr.SetLocal x e) ≡ LocalSet x (expression_of e)
unfolding hidden-the_row-Expr-0 hidden
set_form x e = refl

pub swap_form : (x : ℕ) (e : Expr) → expression_of (expr.SwapLocal x e) ≡ LocalSwapped x (expression_of e)
unfolding hidden-the_row-Expr-0 hidden
swap_form x e = refl

pub modify_form : (op : Operation) (own t : ℕ) (old : Bool) (a b : Expr)
    → expression_of (expr.Modify op own t old a b) ≡ Modified op own t old (expression_of a) (expression_of b)
unfolding hidden-the_row-Expr-0 hidden
modify_form op own t old a b = refl

pub and_form : (a b : Expr) → expression_of (expr.And a b) ≡ Both (expression_of a) (expression_of b)
unfolding hidden-the_row-Expr-0 hidden
and_form a b = refl

pub or_form : (a b : Expr) → expression_of (expr.Or a b) ≡ Either (expression_of a) (expression_of b)
unfolding hidden-the_row-Expr-0 hidden
or_form a b = refl

pub choice_form : (c : Expr) (t : ℕ) (a b : Expr) → expression_of (expr.Choice c t a b) ≡ Chosen (expression_of c) t (expression_of a) (expression_of b)
unfolding hidden-the_row-Expr-0 hidden
choice_form c t a b = refl

pub block : (ss : List Stmt) → statements_of_row (hidden-the_row-Stmt-0 ss) ≡ statements_of ss
unfolding hidden-the_row-Stmt-0 hidden
block [] = refl
block (s ∷ ss) = ap (Then (statement_of s)) (block ss)

pub block_form : (ss : List Stmt) → statement_of (stmt.Block ss) ≡ Compound (statements_of ss)
block_form ss = ap Compound (block ss)

pub if_form : (c : Expr) (a b : Stmt) → statement_of (stmt.If c a b) ≡ Conditional (expression_of c) (statement_of a) (statement_of b)
unfolding hidden-the_row-Stmt-1 hidden
if_form c a b = refl

pub loop_form : (test step : Option Expr) (s : Stmt) → statement_of (stmt.Loop test step s) ≡ Looped (option_map expression_of test) (option_map expression_of step) (statement_of s)
unfolding hidden-the_row-Stmt-1 hidden
loop_form test step s = refl

pub repeat_form : (s : Stmt) (c : Expr) → statement_of (stmt.Repeat s c) ≡ Repeated (statement_of s) (expression_of c)
unfolding hidden-the_row-Stmt-1 hidden
repeat_form s c = refl

pub ruleset forms = (operation_form, request_form, call_form, set_form, swap_form, modify_form, and_form, or_form, choice_form, block_form, if_form, loop_form, repeat_form)
