-- Expressions as plain data (ISO/IEC 9899:2011, 6.5), and what the code's expression is of it.
use Rattle.std.specs.Prelude.{ℕ, List, [], ◌∷◌}
use Rattle.kt_lex.specs.declared.number.Number.{Number}
use Rattle.kt_grammar.specs.declared.keyword.RuleWord.{RuleWord}
use Rattle.kt_grammar.specs.declared.operator.PrefixOperator.{PrefixOperator}
use Rattle.kt_grammar.specs.declared.operator.StepOperator.{StepOperator}
use Rattle.kt_grammar.specs.declared.operator.BinaryOperator.{BinaryOperator}
use Rattle.kt_grammar.specs.declared.operator.AssignOperator.{AssignOperator}
use Rattle.kt_grammar.specs.declared.tree.Name.{Name}
use Rattle.kt_grammar.specs.declared.tree.TypeName.{TypeName}
use Rattle.kt_grammar.specs.declared.tree.Fresh.{Fresh}
use Rattle.kt_grammar.specs.declared.tree.Expr.{Expr, Call', Paren', Transform', Index', Field', Arrow', Step', Prefix', Cast', Binary', Choice', Assign', Row_of-Expr, end_of-Expr, more_of-Expr}
use Rattle.kt_grammar.specs.declared.tree.Expr.TheVariants as expr

-- the first number is the place of the first token, where no part begins there
mutual
  pub data Term : Type 0 where
    Constant : ℕ → Number → Term
    Character : ℕ → ℕ → Term
    Text : ℕ → List ℕ → Term
    Null : ℕ → Term
    Eof : ℕ → Term
    Named : Name → Term
    Called : Name → Terms → Term
    Parenthesised : ℕ → Term → Term
    SizeOf : ℕ → TypeName → Term
    -- `$in`, `$out` or `$base`
    RuleValue : ℕ → RuleWord → Term
    -- `$oldsym(g)`
    OldSymbol : ℕ → Name → Term
    -- `$xform(e)`
    Transformed : ℕ → Term → Term
    -- `$new(T, n)`
    NewObject : ℕ → Fresh → Term
    -- `a[i]`
    Element : Term → Term → Term
    -- `s.f`
    Member : Term → Name → Term
    -- `p->f`
    Pointed : Term → Name → Term
    -- `x++`
    Stepped : Term → StepOperator → Term
    Prefixed : ℕ → PrefixOperator → Term → Term
    Converted : ℕ → TypeName → Term → Term
    Operated : BinaryOperator → Term → Term → Term
    Chosen : Term → Term → Term → Term
    Assigned : AssignOperator → Term → Term → Term

  pub data Terms : Type 0 where
    Nothing : Terms
    More : Term → Terms → Terms

abbrev mutual
  pub term_of : Expr → Term
  term_of (expr.Number at n) = Constant at n
  term_of (expr.Character at b) = Character at b
  term_of (expr.Text at bytes) = Text at bytes
  term_of (expr.Null at) = Null at
  term_of (expr.Eof at) = Eof at
  term_of (expr.Name name) = Named name
  term_of (Call' name p row) = Called name (terms_of_row row)
  term_of (Paren' at p (more_of-Expr a end_of-Expr)) = Parenthesised at (term_of a)
  term_of (expr.SizeOf at type) = SizeOf at type
  term_of (expr.Rule at word) = RuleValue at word
  term_of (expr.OldSymbol at name) = OldSymbol at name
  term_of (Transform' at p (more_of-Expr a end_of-Expr)) = Transformed at (term_of a)
  term_of (expr.New at fresh) = NewObject at fresh
  term_of (Index' p (more_of-Expr a end_of-Expr) q (more_of-Expr i end_of-Expr)) = Element (term_of a) (term_of i)
  term_of (Field' p (more_of-Expr a end_of-Expr) name) = Member (term_of a) name
  term_of (Arrow' p (more_of-Expr a end_of-Expr) name) = Pointed (term_of a) name
  term_of (Step' p (more_of-Expr a end_of-Expr) op) = Stepped (term_of a) op
  term_of (Prefix' at op p (more_of-Expr a end_of-Expr)) = Prefixed at op (term_of a)
  term_of (Cast' at type p (more_of-Expr a end_of-Expr)) = Converted at type (term_of a)
  term_of (Binary' op p (more_of-Expr a end_of-Expr) q (more_of-Expr b end_of-Expr)) = Operated op (term_of a) (term_of b)
  term_of (Choice' p (more_of-Expr c end_of-Expr) q (more_of-Expr a end_of-Expr) r (more_of-Expr b end_of-Expr)) =
      Chosen (term_of c) (term_of a) (term_of b)
  term_of (Assign' op p (more_of-Expr a end_of-Expr) q (more_of-Expr b end_of-Expr)) = Assigned op (term_of a) (term_of b)

  pub terms_of_row : {m : _} → Row_of-Expr m → Terms
  terms_of_row end_of-Expr = Nothing
  terms_of_row (more_of-Expr a rest) = More (term_of a) (terms_of_row rest)

-- a list of expressions as plain data
abbrev pub terms_of : List Term → Terms
terms_of [] = Nothing
terms_of (a ∷ rest) = More a (terms_of rest)
