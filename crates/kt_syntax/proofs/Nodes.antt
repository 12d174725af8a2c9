-- What a statement is as plain data, made of its parts.
use Rattle.std.proofs.Common.{◌≡◌, List, map, refl, ap, ◌∙◌, Option}
use Rattle.std.specs.Option.{option_map}
use denote.Hole.Carrier.{hidden}
use mathlib.Core.Former.{Count}
use Rattle.kt_grammar.specs.declared.tree.Expr.{Expr}
use Rattle.kt_grammar.specs.Tree.{term_of}
use Rattle.kt_syntax.specs.declared.tree.ForStart.{ForStart}
use Rattle.kt_syntax.specs.declared.tree.Stmt.TheBlock.{hidden-the_row-Stmt-1}
use Rattle.kt_syntax.specs.declared.tree.Stmt.{Stmt, Block, Block', Row_of-Stmt, end_of-Stmt, more_of-Stmt, items-the_row-Stmt, items_hidden-the_row-Stmt-0}
use Rattle.kt_syntax.specs.declared.tree.Stmt.TheVariants as stmt
use Rattle.kt_syntax.specs.Tree.{Compound, Conditional, Alternative, Looped, Repeated, Counted, More, start_of, statement_of, statements_of, statements_of_row}

pub conditional-is : (c : Expr) (s : Stmt) → statement_of (stmt.If c s) ≡ Conditional (term_of c) (statement_of s)
unfolding hidden-the_row-Stmt-1 hidden
conditional-is c s = refl

pub alternative-is : (c : Expr) (s t : Stmt) → statement_of (stmt.IfElse c s t) ≡ Alternative (term_of c) (statement_of s) (statement_of t)
unfolding hidden-the_row-Stmt-1 hidden
alternative-is c s t = refl

pub looped-is : (c : Expr) (s : Stmt) → statement_of (stmt.While c s) ≡ Looped (term_of c) (statement_of s)
unfolding hidden-the_row-Stmt-1 hidden
looped-is c s = refl

pub repeated-is : (s : Stmt) (c : Expr) → statement_of (stmt.Do s c) ≡ Repeated (statement_of s) (term_of c)
unfolding hidden-the_row-Stmt-1 hidden
repeated-is s c = refl

pub counted-is : (start : ForStart) (test step : Option Expr) (s : Stmt)
    → statement_of (stmt.For start test step s) ≡ Counted (start_of start) (option_map term_of test) (option_map term_of step) (statement_of s)
unfolding hidden-the_row-Stmt-1 hidden
counted-is start test step s = refl

abbrev row_of : Stmt → (n : Count) × Row_of-Stmt n
row_of (Block' _ row) = (_, row)
row_of _ = (_, end_of-Stmt)

of_row : (n : _) (row : Row_of-Stmt n) → statements_of_row row ≡ statements_of (map statement_of (items-the_row-Stmt n row))
of_row n end_of-Stmt = refl
of_row n (more_of-Stmt s rest) = ap (More (statement_of s)) (of_row _ rest)

pub compound-is : (entries : List Stmt) → statement_of (Block entries) ≡ Compound (statements_of (map statement_of entries))
compound-is entries =
    let row = row_of (Block entries) in
    ap Compound (of_row row.0 row.1 ∙ ap (λ (xs : List Stmt). statements_of (map statement_of xs)) (items_hidden-the_row-Stmt-0 entries))

pub ruleset nodes = (conditional-is, alternative-is, looped-is, repeated-is, counted-is, compound-is)
