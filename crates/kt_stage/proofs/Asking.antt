-- What a tree asks for, of what its parts ask for.
use Rattle.std.proofs.Common.{◌≡◌, ℕ, Bool, true, false, List, ◌+◌, ◌<◌, ◌||◌, length, get_or, drop, drop-cons, add-one, suc, sym, ap, ◌∙◌}
use Rattle.kt_tree.specs.declared.expr.Expr.{Expr}
use Rattle.kt_tree.specs.declared.stmt.Stmt.{Stmt}
use Rattle.kt_tree.specs.Tree.{Expression, Statement, expression_of, expressions_of, statement_of, statements_of}
use Rattle.kt_stage.specs.Stage.{is_threaded, expression_asks, expressions_ask, statement_asks, statements_ask}

pub as-expression : (b : Bool) (e : Expr) (f : Expression) → expression_of e ≡ f → b ≡ expression_asks is_threaded f
    → b ≡ expression_asks is_threaded (expression_of e)
as-expression b e f same h = h ∙ sym (ap (expression_asks is_threaded) same)

pub as-statement : (b : Bool) (s : Stmt) (a : Statement) → statement_of s ≡ a → b ≡ statement_asks is_threaded a
    → b ≡ statement_asks is_threaded (statement_of s)
as-statement b s a same h = h ∙ sym (ap (statement_asks is_threaded) same)

-- the first of two passes
pub first : {r a : Bool} (b : Bool) → r ≡ true → r ≡ a → r ≡ (a || b)
first b here same = here ∙ ap (λ x. x || b) (sym here ∙ same)

-- the first does not pass
pub second : {q r a b : Bool} → q ≡ false → q ≡ a → r ≡ b → r ≡ (a || b)
second {q} {r} {a} {b} none front same = same ∙ ap (λ x. x || b) (sym none ∙ front)

pub operands-more : (es : List Expr) (i : ℕ) (e : Expr) → i < length es → e ≡ get_or es i e → expression_asks is_threaded (expression_of e) ≡ false
    → expressions_ask is_threaded (expressions_of (drop (i + 1) es)) ≡ expressions_ask is_threaded (expressions_of (drop i es))
operands-more es i e within is none =
    rw (add-one, drop-cons es i e within, ← is)
    (sym (ap (λ b. b || expressions_ask is_threaded (expressions_of (drop (suc i) es))) none))

pub operands-found : (es : List Expr) (i : ℕ) (e : Expr) → i < length es → e ≡ get_or es i e → expression_asks is_threaded (expression_of e) ≡ true
    → expressions_ask is_threaded (expressions_of (drop i es)) ≡ true
operands-found es i e within is one =
    rw (drop-cons es i e within, ← is)
    (ap (λ b. b || expressions_ask is_threaded (expressions_of (drop (suc i) es))) one)

pub block-more : (ss : List Stmt) (i : ℕ) (s : Stmt) → i < length ss → s ≡ get_or ss i s → statement_asks is_threaded (statement_of s) ≡ false
    → statements_ask is_threaded (statements_of (drop (i + 1) ss)) ≡ statements_ask is_threaded (statements_of (drop i ss))
block-more ss i s within is none =
    rw (add-one, drop-cons ss i s within, ← is)
    (sym (ap (λ b. b || statements_ask is_threaded (statements_of (drop (suc i) ss))) none))

pub block-found : (ss : List Stmt) (i : ℕ) (s : Stmt) → i < length ss → s ≡ get_or ss i s → statement_asks is_threaded (statement_of s) ≡ true
    → statements_ask is_threaded (statements_of (drop i ss)) ≡ true
block-found ss i s within is one =
    rw (drop-cons ss i s within, ← is)
    (ap (λ b. b || statements_ask is_threaded (statements_of (drop (suc i) ss))) one)

pub ruleset asking = (operands-more, operands-found, block-more, block-found)
