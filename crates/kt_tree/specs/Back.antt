-- The code's trees of plain data: each tree of plain data is that of one of the code's, so that a version may be seen as
-- plain data.
use mathlib.Core.Former.{this, arity}
use Rattle.sqlite_items.specs.formers.items.Items as items
use Rattle.std.specs.Prelude.{◌≡◌, ℕ, Bool, List, [], ◌∷◌, Option, Some, None, map, refl}
use Rattle.std.proofs.Common.{ap}
use Rattle.std.specs.Option.{option_map}
use Rattle.kt_tree.specs.declared.expr.Expr.{Expr, SetLocal', SwapLocal', Operation', Request', Modify', And', Or', Choice', Call', Row_of-Expr, end_of-Expr, more_of-Expr}
use Rattle.kt_tree.specs.declared.expr.Expr.TheVariants as expr
use Rattle.kt_tree.specs.declared.stmt.Stmt.{Stmt, Block', If', Loop', Repeat', Row_of-Stmt, end_of-Stmt, more_of-Stmt}
use Rattle.kt_tree.specs.declared.stmt.Stmt.TheVariants as stmt
use Rattle.kt_tree.specs.declared.function.Fun.{Fun}
use Rattle.kt_tree.specs.Tree.{Expression, Constant', LocalRead, LocalSet, LocalSwapped, Operated, Requested, Modified, Both, Either, Chosen, Called, Expressions, NoMore, More, Statement, Evaluated, Undefined, Compound, Conditional, Looped, Repeated, Returned, Broken, Continued, Statements, Done, Then, Function, expression_of, expressions_of_row, statement_of, statements_of_row, function_of}

abbrev shape : Expressions → List (Unit {0})
shape NoMore = []
shape (More e es) = tt ∷ shape es

abbrev shapes : Statements → List (Unit {0})
shapes Done = []
shapes (Then s rest) = tt ∷ shapes rest

abbrev mutual
  pub expr_of : Expression → Expr
  expr_of (Constant' value ty) = expr.Constant value ty
  expr_of (LocalRead x) = expr.Local x
  expr_of (LocalSet x e) = SetLocal' x tt (more_of-Expr (expr_of e) end_of-Expr)
  expr_of (LocalSwapped x e) = SwapLocal' x tt (more_of-Expr (expr_of e) end_of-Expr)
  expr_of (Operated op ty es) = Operation' op ty (shape es) (row_of es)
  expr_of (Requested request ty es) = Request' request ty (shape es) (row_of es)
  expr_of (Modified op own ty old a b) = Modify' op own ty old tt (more_of-Expr (expr_of a) end_of-Expr) tt (more_of-Expr (expr_of b) end_of-Expr)
  expr_of (Both a b) = And' tt (more_of-Expr (expr_of a) end_of-Expr) tt (more_of-Expr (expr_of b) end_of-Expr)
  expr_of (Either a b) = Or' tt (more_of-Expr (expr_of a) end_of-Expr) tt (more_of-Expr (expr_of b) end_of-Expr)
  expr_of (Chosen c ty a b) =
      Choice' tt (more_of-Expr (expr_of c) end_of-Expr) ty tt (more_of-Expr (expr_of a) end_of-Expr) tt (more_of-Expr (expr_of b) end_of-Expr)
  expr_of (Called f es) = Call' f (shape es) (row_of es)

  row_of : (es : Expressions) → Row_of-Expr (arity (items.the_former this) (shape es))
  row_of NoMore = end_of-Expr
  row_of (More e es) = more_of-Expr (expr_of e) (row_of es)

mutual
  back : (e : Expression) → expression_of (expr_of e) ≡ e
  back (Constant' value ty) = refl
  back (LocalRead x) = refl
  back (LocalSet x e) = ap (LocalSet x) (back e)
  back (LocalSwapped x e) = ap (LocalSwapped x) (back e)
  back (Operated op ty es) = ap (Operated op ty) (backs es)
  back (Requested request ty es) = ap (Requested request ty) (backs es)
  back (Modified op own ty old a b) = λ i. Modified op own ty old (back a i) (back b i)
  back (Both a b) = λ i. Both (back a i) (back b i)
  back (Either a b) = λ i. Either (back a i) (back b i)
  back (Chosen c ty a b) = λ i. Chosen (back c i) ty (back a i) (back b i)
  back (Called f es) = ap (Called f) (backs es)

  backs : (es : Expressions) → expressions_of_row (row_of es) ≡ es
  backs NoMore = refl
  backs (More e es) = λ i. More (back e i) (backs es i)

abbrev mutual
  pub stmt_of : Statement → Stmt
  stmt_of (Evaluated e) = stmt.Expr (expr_of e)
  stmt_of (Undefined x) = stmt.Undefine x
  stmt_of (Compound rest) = Block' (shapes rest) (stmts_of rest)
  stmt_of (Conditional c s t) = If' (expr_of c) tt (more_of-Stmt (stmt_of s) end_of-Stmt) tt (more_of-Stmt (stmt_of t) end_of-Stmt)
  stmt_of (Looped test step s) = Loop' (option_map expr_of test) (option_map expr_of step) tt (more_of-Stmt (stmt_of s) end_of-Stmt)
  stmt_of (Repeated s c) = Repeat' tt (more_of-Stmt (stmt_of s) end_of-Stmt) (expr_of c)
  stmt_of (Returned e) = stmt.Return (option_map expr_of e)
  stmt_of Broken = stmt.Break
  stmt_of Continued = stmt.Continue

  stmts_of : (ss : Statements) → Row_of-Stmt (arity (items.the_former this) (shapes ss))
  stmts_of Done = end_of-Stmt
  stmts_of (Then s rest) = more_of-Stmt (stmt_of s) (stmts_of rest)

back_if : (e : Option Expression) → option_map expression_of (option_map expr_of e) ≡ e
back_if None = refl
back_if (Some e) = ap Some (back e)

mutual
  back_statement : (s : Statement) → statement_of (stmt_of s) ≡ s
  back_statement (Evaluated e) = ap Evaluated (back e)
  back_statement (Undefined x) = refl
  back_statement (Compound rest) = ap Compound (back_statements rest)
  back_statement (Conditional c s t) = λ i. Conditional (back c i) (back_statement s i) (back_statement t i)
  back_statement (Looped test step s) = λ i. Looped (back_if test i) (back_if step i) (back_statement s i)
  back_statement (Repeated s c) = λ i. Repeated (back_statement s i) (back c i)
  back_statement (Returned e) = ap Returned (back_if e)
  back_statement Broken = refl
  back_statement Continued = refl

  back_statements : (ss : Statements) → statements_of_row (stmts_of ss) ≡ ss
  back_statements Done = refl
  back_statements (Then s rest) = λ i. Then (back_statement s i) (back_statements rest i)

abbrev pub fun_of : Function → Fun
fun_of f = record { name = f.name; result = f.result; params = f.params; noted = f.noted; locals = f.locals; body = stmt_of f.body }

pub back_function : (f : Function) → function_of (fun_of f) ≡ f
back_function f = λ i. record { name = f.name; result = f.result; params = f.params; noted = f.noted; locals = f.locals; body = back_statement f.body i }
