-- How large a statement is.
use Rattle.std.proofs.Common.{◌≡◌, ℕ, zero, suc, ◌+◌, ◌<◌, List, [], ◌∷◌, length, map, get_or, ap, arith}
use Rattle.kt_syntax.specs.declared.tree.Stmt.{Stmt as Written}
use Rattle.kt_syntax.specs.Tree.{Statement, Compound, Conditional, Alternative, Looped, Repeated, Counted, Statements, Nothing, More, statement_of, statements_of}

abbrev mutual
  pub size : Statement → ℕ
  size (Compound es) = suc (sizes es)
  size (Conditional c a) = suc (size a)
  size (Alternative c a b) = suc (size a + size b)
  size (Looped c a) = suc (size a)
  size (Repeated a c) = suc (size a)
  size (Counted first test step a) = suc (size a)
  size _ = 0

  pub sizes : Statements → ℕ
  sizes Nothing = 0
  sizes (More s rest) = suc (size s + sizes rest)

pub size-member : (es : List Written) (i : ℕ) (s : Written) → i < length es → s ≡ get_or es i s → size (statement_of s) < sizes (statements_of (map statement_of es))
size-member [] i s h e = absurd (omega arith)
size-member (x ∷ es) zero s h e =
    let same = ap (λ (y : Written). size (statement_of y)) e in
    omega arith
size-member (x ∷ es) (suc i) s h e =
    let less = size-member es i s (omega arith) e in
    omega arith
