-- Answers to a statement by its form.
use Rattle.std.proofs.Common.{◌≡◌, ℕ, ◌+◌, ◌≤◌, List, Result, Ok, Err, IfOk, OnOk, sym, ap, ◌∙◌, subst}
use Rattle.kt_syntax.specs.declared.tree.Stmt.{Stmt as Written}
use Rattle.kt_syntax.specs.Tree.{Statement, statement_of}
use Rattle.kt_tree.specs.declared.stmt.Stmt.{Stmt}
use Rattle.kt_typing.specs.declared.fault.Fault.{Fault}
use Rattle.kt_program.specs.Scopes.{Body, Place}
use Rattle.kt_program.specs.Statements.{locals_in, behind, statement}
use Rattle.kt_statements.specs.Judged.{Judges, lines_made}
use Rattle.kt_statements.proofs.Sizes.{size}

pub on-ok : {A E : Type 0} (r : Result A E) (P : Type 0) → P → OnOk r P
on-ok (Ok x) P p = p
on-ok (Err e) P p = tt

module _ (s f : Written) (t : Statement) (is : s ≡ f) (shape : statement_of f ≡ t) where
  of-form : t ≡ statement_of s
  of-form = sym shape ∙ ap statement_of (sym is)

  pub room-is : (n m : ℕ) → n + locals_in (statement_of s) ≤ m → n + locals_in t ≤ m
  room-is n m h = subst (λ x. n + locals_in x ≤ m) (sym of-form) h

  pub typed-is : {E : Type 0} (b : Body) (p : Place) (r : Result (Result (List Stmt) Fault) E) → IfOk r (λ x. Judges lines_made (statement b p t) x)
      → IfOk r (λ x. Judges lines_made (statement b p (statement_of s)) x)
  typed-is b p r h = subst (λ a. IfOk r (λ x. Judges lines_made (statement b p a) x)) of-form h

  pub place-is : (p q : Place) → q ≡ behind p t → q ≡ behind p (statement_of s)
  place-is p q h = h ∙ ap (behind p) of-form

  pub size-is : size (statement_of s) ≡ size t
  size-is = ap size (sym of-form)
