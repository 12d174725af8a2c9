-- Answers to an expression by its form.
use Rattle.std.specs.Result.{IsErr, IsErrAnd}
use Rattle.std.proofs.lemmas.Bool.{false≢true}
use Rattle.std.proofs.lemmas.List.{take_more, take_all}
use Rattle.kt_names.specs.declared.fault.CheckFault.TheVariants.{NoMemory}
use Rattle.std.proofs.Common.{◌+◌, ◌<◌, ◌≤◌, length, take, get_or, ◌≡◌, ℕ, Bool, List, [], ◌∷◌, ◌++◌, map, Result, Ok, Err, refl, sym, ap, ◌∙◌, subst}
use Rattle.kt_grammar.specs.declared.tree.Expr.{Expr}
use Rattle.kt_grammar.specs.Tree.{Term, term_of, terms_of}
use Rattle.kt_names.specs.declared.operand.Operand.{Operand as OperandCode}
use Rattle.kt_terms.specs.declared.argument.Argument.{Argument as ArgumentCode}
use Rattle.kt_names.specs.declared.fault.CheckFault.{CheckFault}
use Rattle.kt_names.specs.Environment.{Environment}
use Rattle.kt_names.specs.Builtins.{Argument}
use Rattle.kt_terms.specs.Spellings.{Spelling, spelling_of}
use Rattle.kt_names.specs.Judges.{Judges}
use Rattle.kt_names.specs.Views.{operand_of}
use Rattle.kt_names.specs.Terms.{first_token, is_allocation, typing, typing_all, argument}
use Rattle.kt_terms.specs.Arguments.{AreJudged, JudgesAll, argument_at}

module _ (e f : Expr) (t : Term) (is : e ≡ f) (form : term_of f ≡ t) where
  of-form : t ≡ term_of e
  of-form = sym form ∙ ap term_of (sym is)

  pub first_is : (n : ℕ) → n ≡ first_token t → n ≡ first_token (term_of e)
  first_is n h = h ∙ ap first_token of-form

  pub allocation_is : (b : Bool) → b ≡ is_allocation t → b ≡ is_allocation (term_of e)
  allocation_is b h = h ∙ ap is_allocation of-form

  pub typed_is : (env : Environment) (r : Result OperandCode CheckFault) → Judges operand_of r (typing env t) → Judges operand_of r (typing env (term_of e))
  typed_is env r h = subst (λ x. Judges operand_of r (typing env x)) of-form h

  pub spelling_is : (b : Spelling) → b ≡ spelling_of t → b ≡ spelling_of (term_of e)
  spelling_is b h = h ∙ ap spelling_of of-form

-- ---- lists of arguments

pub judged-push : (xs : List ArgumentCode) (ss : List Argument) (x : ArgumentCode) (s : Argument) → AreJudged xs ss → s ≡ argument_at x s.typed → Judges operand_of x.typed s.typed → AreJudged (xs ++ x ∷ []) (ss ++ s ∷ [])
judged-push [] [] x s h is j = (is, j, tt)
judged-push [] (t ∷ ss) x s h is j = absurd h
judged-push (y ∷ xs) [] x s h is j = absurd h
judged-push (y ∷ xs) (t ∷ ss) x s h is j = (h.0, h.1, judged-push xs ss x s h.2 is j)

pub all-push : (env : Environment) (es : List Expr) (e : Expr)
    → typing_all env (terms_of (map term_of (es ++ e ∷ []))) ≡ typing_all env (terms_of (map term_of es)) ++ argument (term_of e) (typing env (term_of e)) ∷ []
all-push env [] e = refl
all-push env (f ∷ es) e = ap (λ ss. argument (term_of f) (typing env (term_of f)) ∷ ss) (all-push env es e)

-- the arguments of an expression more are judged
pub all-next : (env : Environment) (args xs : List Expr) (i : ℕ) (e : Expr) (now new : List ArgumentCode) (x : ArgumentCode) → xs ≡ args → i < length xs → e ≡ get_or xs i e → new ≡ now ++ x ∷ []
    → x.at ≡ first_token (term_of e) → Judges operand_of x.typed (typing env (term_of e))
    → AreJudged now (typing_all env (terms_of (map term_of (take i args)))) → AreJudged new (typing_all env (terms_of (map term_of (take (i + 1) args))))
all-next env args xs i e now new x same h is more at j are =
    let s = argument (term_of e) (typing env (term_of e)) in
    let below : i < length args = subst (λ (ys : List Expr). i < length ys) same h in
    let item : e ≡ get_or args i e = is ∙ ap (λ (ys : List Expr). get_or ys i e) same in
    let place : s ≡ argument_at x s.typed = ap (λ (n : ℕ). let a : Argument = record { at = n; typed = typing env (term_of e) } in a) (sym at) in
    let pushed = judged-push now (typing_all env (terms_of (map term_of (take i args)))) x s are place j in
    let taken : take (i + 1) args ≡ take i args ++ e ∷ [] = take_more args i e below ∙ ap (λ y. take i args ++ y ∷ []) (sym item) in
    let whole = sym (all-push env (take i args) e) ∙ ap (λ (ys : List Expr). typing_all env (terms_of (map term_of ys))) (sym taken) in
    subst (λ (ys : List ArgumentCode). AreJudged ys (typing_all env (terms_of (map term_of (take (i + 1) args))))) (sym more) (subst (λ (ss : List Argument). AreJudged (now ++ x ∷ []) ss) whole pushed)

pub all-end : (env : Environment) (args xs : List Expr) (i : ℕ) (now : List ArgumentCode) → xs ≡ args → length xs ≤ i
    → AreJudged now (typing_all env (terms_of (map term_of (take i args)))) → AreJudged now (typing_all env (terms_of (map term_of args)))
all-end env args xs i now same h are =
    let within : length args ≤ i = subst (λ (ys : List Expr). length ys ≤ i) same h in
    subst (λ (ys : List Expr). AreJudged now (typing_all env (terms_of (map term_of ys)))) (take_all i args within) are

-- want of memory
pub all-memory : (r : Result (List ArgumentCode) CheckFault) (specs : List Argument) → IsErr r → IsErrAnd r (λ f. f ≡ NoMemory) → JudgesAll r specs
all-memory (Ok xs) specs h k = absurd (false≢true h)
all-memory (Err f) specs h k = k
