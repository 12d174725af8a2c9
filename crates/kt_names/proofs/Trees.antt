-- What a term and a statement of the syntax tree are as plain data, made of their parts.
use Rattle.std.proofs.Common.{◌≡◌, ℕ, Option, List, [], ◌∷◌, map, refl, ap, ◌∙◌}
use Rattle.std.specs.Option.{option_map}
use denote.Hole.Carrier.{hidden}
use mathlib.Core.Former.{Count}
use Rattle.kt_grammar.specs.declared.operator.PrefixOperator.{PrefixOperator}
use Rattle.kt_grammar.specs.declared.operator.StepOperator.{StepOperator}
use Rattle.kt_grammar.specs.declared.operator.BinaryOperator.{BinaryOperator}
use Rattle.kt_grammar.specs.declared.operator.AssignOperator.{AssignOperator}
use Rattle.kt_grammar.specs.declared.tree.Name.{Name}
use Rattle.kt_grammar.specs.declared.tree.TypeName.{TypeName}
use Rattle.kt_grammar.specs.declared.tree.Expr.TheBlock.{hidden-the_row-Expr-1}
use Rattle.kt_grammar.specs.declared.tree.Expr.{Expr, Call, Call', Row_of-Expr, end_of-Expr, more_of-Expr, items-the_row-Expr, items_hidden-the_row-Expr-0}
use Rattle.kt_grammar.specs.declared.tree.Expr.TheVariants as expr
use Rattle.kt_grammar.specs.Tree.{Called, Parenthesised, Transformed, Element, Member, Pointed, Stepped, Prefixed, Converted, Operated, Chosen, Assigned, More, term_of, terms_of, terms_of_row}
use Rattle.kt_syntax.specs.declared.tree.ForStart.{ForStart}
use Rattle.kt_syntax.specs.declared.tree.Stmt.TheBlock.{hidden-the_row-Stmt-1}
use Rattle.kt_syntax.specs.declared.tree.Stmt.{Stmt, Block, Block', Row_of-Stmt, end_of-Stmt, more_of-Stmt, items-the_row-Stmt, items_hidden-the_row-Stmt-0}
use Rattle.kt_syntax.specs.declared.tree.Stmt.TheVariants as stmt
use Rattle.kt_syntax.specs.Tree.{Compound, Conditional, Alternative, Looped, Repeated, Counted, More as Then, start_of, statement_of, statements_of, statements_of_row}

-- ---- terms

pub parenthesised-is : (at : ℕ) (a : Expr) → term_of (expr.Paren at a) ≡ Parenthesised at (term_of a)
unfolding hidden-the_row-Expr-1 hidden
parenthesised-is at a = refl

pub transformed-is : (at : ℕ) (a : Expr) → term_of (expr.Transform at a) ≡ Transformed at (term_of a)
unfolding hidden-the_row-Expr-1 hidden
transformed-is at a = refl

pub element-is : (a i : Expr) → term_of (expr.Index a i) ≡ Element (term_of a) (term_of i)
unfolding hidden-the_row-Expr-1 hidden
element-is a i = refl

pub member-is : (a : Expr) (f : Name) → term_of (expr.Field a f) ≡ Member (term_of a) f
unfolding hidden-the_row-Expr-1 hidden
member-is a f = refl

pub pointed-is : (a : Expr) (f : Name) → term_of (expr.Arrow a f) ≡ Pointed (term_of a) f
unfolding hidden-the_row-Expr-1 hidden
pointed-is a f = refl

pub stepped-is : (a : Expr) (op : StepOperator) → term_of (expr.Step a op) ≡ Stepped (term_of a) op
unfolding hidden-the_row-Expr-1 hidden
stepped-is a op = refl

pub prefixed-is : (at : ℕ) (op : PrefixOperator) (a : Expr) → term_of (expr.Prefix at op a) ≡ Prefixed at op (term_of a)
unfolding hidden-the_row-Expr-1 hidden
prefixed-is at op a = refl

pub converted-is : (at : ℕ) (type : TypeName) (a : Expr) → term_of (expr.Cast at type a) ≡ Converted at type (term_of a)
unfolding hidden-the_row-Expr-1 hidden
converted-is at type a = refl

pub operated-is : (op : BinaryOperator) (a b : Expr) → term_of (expr.Binary op a b) ≡ Operated op (term_of a) (term_of b)
unfolding hidden-the_row-Expr-1 hidden
operated-is op a b = refl

pub chosen-is : (c a b : Expr) → term_of (expr.Choice c a b) ≡ Chosen (term_of c) (term_of a) (term_of b)
unfolding hidden-the_row-Expr-1 hidden
chosen-is c a b = refl

pub assigned-is : (op : AssignOperator) (a b : Expr) → term_of (expr.Assign op a b) ≡ Assigned op (term_of a) (term_of b)
unfolding hidden-the_row-Expr-1 hidden
assigned-is op a b = refl

abbrev row_of : Expr → (n : Count) × Row_of-Expr n
row_of (Call' f _ row) = (_, row)
row_of _ = (_, end_of-Expr)

of_row : (n : _) (row : Row_of-Expr n) → terms_of_row row ≡ terms_of (map term_of (items-the_row-Expr n row))
of_row n end_of-Expr = refl
of_row n (more_of-Expr a rest) = ap (More (term_of a)) (of_row _ rest)

pub called-is : (f : Name) (args : List Expr) → term_of (Call f args) ≡ Called f (terms_of (map term_of args))
called-is f args =
    let row = row_of (Call f args) in
    ap (Called f) (of_row row.0 row.1 ∙ ap (λ (xs : List Expr). terms_of (map term_of xs)) (items_hidden-the_row-Expr-0 args))

pub ruleset terms = (parenthesised-is, transformed-is, element-is, member-is, pointed-is, stepped-is, prefixed-is, converted-is, operated-is, chosen-is, assigned-is, called-is)

-- ---- statements

pub conditional-is : (c : Expr) (s : Stmt) → statement_of (stmt.If c s) ≡ Conditional (term_of c) (statement_of s)
unfolding hidden-the_row-Stmt-1 hidden
conditional-is c s = refl

pub alternative-is : (c : Expr) (s t : Stmt) → statement_of (stmt.IfElse c s t) ≡ Alternative (term_of c) (statement_of s) (statement_of t)
unfolding hidden-the_row-Stmt-1 hidden
alternative-is c s t = refl

pub looped-is : (c : Expr) (s : Stmt) → statement_of (stmt.While c s) ≡ Looped (term_of c) (statement_of s)
unfolding hidden-the_row-Stmt-1 hidden
looped-is c s = refl

pub repeated-is : (s : Stmt) (c : Expr) → statement_of (stmt.Do s c) ≡ Repeated (statement_of s) (term_of c)
unfolding hidden-the_row-Stmt-1 hidden
repeated-is s c = refl

pub counted-is : (start : ForStart) (test step : Option Expr) (s : Stmt)
    → statement_of (stmt.For start test step s) ≡ Counted (start_of start) (option_map term_of test) (option_map term_of step) (statement_of s)
unfolding hidden-the_row-Stmt-1 hidden
counted-is start test step s = refl

abbrev block_row : Stmt → (n : Count) × Row_of-Stmt n
block_row (Block' _ row) = (_, row)
block_row _ = (_, end_of-Stmt)

of_block_row : (n : _) (row : Row_of-Stmt n) → statements_of_row row ≡ statements_of (map statement_of (items-the_row-Stmt n row))
of_block_row n end_of-Stmt = refl
of_block_row n (more_of-Stmt s rest) = ap (Then (statement_of s)) (of_block_row _ rest)

pub compound-is : (entries : List Stmt) → statement_of (Block entries) ≡ Compound (statements_of (map statement_of entries))
compound-is entries =
    let row = block_row (Block entries) in
    ap Compound (of_block_row row.0 row.1 ∙ ap (λ (xs : List Stmt). statements_of (map statement_of xs)) (items_hidden-the_row-Stmt-0 entries))

pub ruleset statements = (conditional-is, alternative-is, looped-is, repeated-is, counted-is, compound-is)
