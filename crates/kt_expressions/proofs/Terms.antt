-- Answers to an expression by its form.
use Rattle.std.proofs.Common.{◌≡◌, ℕ, Bool, List, Option, Result, sym, ap, ◌∙◌, subst}
use Rattle.kt_grammar.specs.declared.tree.Expr.{Expr}
use Rattle.kt_grammar.specs.declared.tree.Name.{Name}
use Rattle.kt_grammar.specs.Tree.{Term, term_of}
use Rattle.kt_typing.specs.declared.standing.Use.{Use}
use Rattle.kt_typing.specs.Environment.{Environment}
use Rattle.kt_typing.specs.Terms.{first_token, is_allocation, text_in, name_in, form}
use Rattle.kt_operands.specs.declared.operand.Operand.{Operand as OperandCode}
use Rattle.kt_operands.specs.declared.refusal.Refusal.{Refusal}
use Rattle.kt_operands.specs.Views.{operand_of}
use Rattle.kt_operators.specs.Judged.{Judges}

module _ (e f : Expr) (t : Term) (is : e ≡ f) (shape : term_of f ≡ t) where
  of-form : t ≡ term_of e
  of-form = sym shape ∙ ap term_of (sym is)

  pub first_is : (n : ℕ) → n ≡ first_token t → n ≡ first_token (term_of e)
  first_is n h = h ∙ ap first_token of-form

  pub allocation_is : (b : Bool) → b ≡ is_allocation t → b ≡ is_allocation (term_of e)
  allocation_is b h = h ∙ ap is_allocation of-form

  pub text_is : (o : Option (List ℕ)) → o ≡ text_in t → o ≡ text_in (term_of e)
  text_is o h = h ∙ ap text_in of-form

  pub name_is : (o : Option Name) → o ≡ name_in t → o ≡ name_in (term_of e)
  name_is o h = h ∙ ap name_in of-form

  pub judged_is : (env : Environment) (u : Use) (r : Result OperandCode Refusal) → Judges operand_of (form env u t) r → Judges operand_of (form env u (term_of e)) r
  judged_is env u r h = subst (λ x. Judges operand_of (form env u x) r) of-form h
