-- Null as a tree of another type.
use Rattle.std.proofs.Common.{◌≡◌, ℕ, Result, IfOk, refl, sym, ap, ◌∙◌, subst}
use denote.Hole.Carrier.{hidden}
use Rattle.kt_tree.specs.declared.expr.Constant.TheVariants as constant
use Rattle.kt_tree.specs.declared.expr.Expr.TheBlock.{hidden-the_row-Expr-0}
use Rattle.kt_tree.specs.declared.expr.Expr.{Expr, SetLocal', SwapLocal', Operation', Request', Modify', And', Or', Choice', Call', end_of-Expr, more_of-Expr}
use Rattle.kt_tree.specs.declared.expr.Expr.TheVariants as expr
use Rattle.kt_tree.specs.Forms.{choice_form}
use Rattle.kt_tree.specs.Tree.{Constant', Chosen, expression_of}
use Rattle.kt_typing.specs.Rules.{null_tree}

choice-itself : (own : ℕ) (c a b : Expr) → Choice' _ (more_of-Expr c end_of-Expr) own _ (more_of-Expr a end_of-Expr) _ (more_of-Expr b end_of-Expr) ≡ expr.Choice c own a b
unfolding hidden-the_row-Expr-0 hidden
choice-itself own c a b = refl

other-null : (t : ℕ) (e : Expr) → ((c : Expr) (own : ℕ) (a b : Expr) → e ≡ expr.Choice c own a b → ⊥) → null_tree t (expression_of e) ≡ Constant' constant.Null t
other-null t (Choice' p (more_of-Expr c end_of-Expr) own q (more_of-Expr a end_of-Expr) r (more_of-Expr b end_of-Expr)) h = absurd (h c own a b (choice-itself own c a b))
other-null t (expr.Constant value ty) h = refl
other-null t (expr.Local x) h = refl
other-null t (SetLocal' x p (more_of-Expr e end_of-Expr)) h = refl
other-null t (SwapLocal' x p (more_of-Expr e end_of-Expr)) h = refl
other-null t (Operation' op ty p row) h = refl
other-null t (Request' request ty p row) h = refl
other-null t (Modify' op at ty old p (more_of-Expr a end_of-Expr) q (more_of-Expr b end_of-Expr)) h = refl
other-null t (And' p (more_of-Expr a end_of-Expr) q (more_of-Expr b end_of-Expr)) h = refl
other-null t (Or' p (more_of-Expr a end_of-Expr) q (more_of-Expr b end_of-Expr)) h = refl
other-null t (Call' f p row) h = refl

module _ {E : Type 0} (r : Result Expr E) (t : ℕ) (tree : Expr) where
  pub null_other : (e : Expr) → e ≡ tree → ((c : Expr) (own : ℕ) (a b : Expr) → e ≡ expr.Choice c own a b → ⊥) → IfOk r (λ x. expression_of x ≡ Constant' constant.Null t)
      → IfOk r (λ x. expression_of x ≡ null_tree t (expression_of tree))
  null_other e is not = subst (λ n. IfOk r (λ x. expression_of x ≡ n)) (sym (other-null t e not) ∙ ap (λ y. null_tree t (expression_of y)) is)

  pub null_chosen : (c : Expr) (own : ℕ) (a b one other : Expr) → expr.Choice c own a b ≡ tree → expression_of one ≡ null_tree t (expression_of a) → expression_of other ≡ null_tree t (expression_of b)
      → IfOk r (λ x. expression_of x ≡ Chosen (expression_of c) t (expression_of one) (expression_of other)) → IfOk r (λ x. expression_of x ≡ null_tree t (expression_of tree))
  null_chosen c own a b one other is i j =
      subst (λ n. IfOk r (λ x. expression_of x ≡ n))
      (ap (λ x. Chosen (expression_of c) t x (expression_of other)) i ∙ ap (Chosen (expression_of c) t (null_tree t (expression_of a))) j
      ∙ sym (ap (null_tree t) (choice_form c own a b)) ∙ ap (λ y. null_tree t (expression_of y)) is)
