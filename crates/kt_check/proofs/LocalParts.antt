-- Declarations of locals, part by part and one after the other.
use Rattle.std.proofs.Common.{◌≡◌, ℕ, ◌+◌, ◌<◌, Bool, List, [], ◌∷◌, ◌++◌, length, map, take, drop, get_or, Option, None, Some, Result, Ok, Err, refl, sym, ap, subst, ◌∙◌, append_assoc, drop-cons, add-one}
use Rattle.std.proofs.lemmas.List.{append-nil}
use Rattle.kt_grammar.specs.declared.tree.Base.{Base}
use Rattle.kt_grammar.specs.Tree.{Term}
use Rattle.kt_syntax.specs.declared.tree.LocalDeclarator.{LocalDeclarator}
use Rattle.kt_syntax.specs.Tree.{Local, local_of}
use Rattle.kt_tree.specs.declared.stmt.Stmt.{Stmt}
use Rattle.kt_tree.specs.Tree.{Statement, Returned, statement_of}
use Rattle.kt_names.specs.declared.ctype.CType.{CType}
use Rattle.kt_names.specs.declared.fault.CheckFault.{CheckFault}
use Rattle.kt_names.specs.declared.fault.CheckFault.TheVariants.{BadType}
use Rattle.kt_names.specs.Checked.{Checked, and_then, fault}
use Rattle.kt_names.specs.Operands.{convert}
use Rattle.kt_names.specs.Terms.{typing, first_token}
use Rattle.kt_names.specs.Scopes.{returned_of}
use Rattle.kt_names.specs.Judges.{Fails, Judges}
use Rattle.kt_names.specs.Statements.{Body, State, here, initial, returned, local, locals_from}
use Rattle.kt_names.proofs.Parts.{fails}

pub initial-by : (body : Body) (s r : State) (x : ℕ) (t u : CType) (up at : ℕ) (e : Option Term) (result : Result Stmt CheckFault) → s ≡ r → t ≡ u → up ≡ at
    → Judges statement_of result (initial body s x t up e) → Judges statement_of result (initial body r x u at e)
initial-by body s r x t u up at e result i j k h =
    subst (λ (a : ℕ). Judges statement_of result (initial body r x u a e)) k
    (subst (λ (v : CType). Judges statement_of result (initial body r x v up e)) j
    (subst (λ (q : State). Judges statement_of result (initial body q x t up e)) i h))

abbrev behind : List Statement → List Statement × State → Checked (List Statement × State)
behind out y = Ok (out ++ y.0, y.1)

pub begun : (w : Checked (List Statement × State)) → w ≡ and_then w (behind [])
begun (Ok y) = refl
begun (Err f) = refl

module _ (body : Body) (b : Base) where
  -- behind these statements the whole is what the other declarators give
  abbrev pub Lists : Checked (List Statement × State) → List Statement → State → List Local → Type 0
  Lists w out s rest = w ≡ and_then (locals_from body s b rest) (behind out)

  joined : (c : Checked (List Statement × State)) (out : List Statement) (x : Statement)
      → and_then (and_then c (λ y. Ok (x ∷ y.0, y.1))) (behind out) ≡ and_then c (behind (out ++ x ∷ []))
  joined (Ok y) out x = ap (λ (ss : List Statement). Ok (ss, y.1)) (sym (append_assoc out (x ∷ []) y.0))
  joined (Err f) out x = refl

  abbrev from : Checked (Statement × State) → List Statement → List Local → Checked (List Statement × State)
  from c out rest = and_then (and_then c (λ x. and_then (locals_from body x.1 b rest) (λ y. Ok (x.0 ∷ y.0, y.1)))) (behind out)

  module _ (w : Checked (List Statement × State)) (out : List Statement) (s : State) (l : Local) (rest : List Local) where
    pub lists-more : (x : Statement) (t : State) → Lists w out s (l ∷ rest) → local body s b l ≡ Ok (x, t) → Lists w (out ++ x ∷ []) t rest
    lists-more x t h is = h ∙ ap (λ (c : Checked (Statement × State)). from c out rest) is ∙ joined (locals_from body t b rest) out x

    pub lists-fail : (f : CheckFault) → Lists w out s (l ∷ rest) → Fails f (local body s b l) → Fails f w
    lists-fail f h g =
        subst (Fails f) (sym h)
        (fails (and_then (local body s b l) (λ x. and_then (locals_from body x.1 b rest) (λ y. Ok (x.0 ∷ y.0, y.1)))) (behind out) f
        (fails (local body s b l) (λ x. and_then (locals_from body x.1 b rest) (λ y. Ok (x.0 ∷ y.0, y.1))) f g))

  pub lists-end : (w : Checked (List Statement × State)) (out : List Statement) (s : State) → Lists w out s [] → w ≡ Ok (out, s)
  lists-end w out s h = h ∙ ap (λ (ss : List Statement). Ok (ss, s)) (append-nil out)

pub rest-is : (ds : List LocalDeclarator) (i : ℕ) (d : LocalDeclarator) → i < length ds → d ≡ get_or ds i d → map local_of (drop i ds) ≡ local_of d ∷ map local_of (drop (i + 1) ds)
rest-is ds i d within is = rw (drop-cons ds i d within, ← is, add-one) refl

-- a return of a value, in a function with a result
pub returned-by : (body : Body) (s : State) (at : ℕ) (e : Term) (t : CType) (result : Result Stmt CheckFault) → body.result ≡ Some t
    → Judges statement_of result (and_then (typing (here body s) e) (returned_of (here body s) t (first_token e))) → Judges statement_of result (returned body s at (Some e))
returned-by body s at e t result i h =
    subst
    (λ (o : Option CType). Judges statement_of result (elim o as (λ _. Checked Statement) [
      | None ↦ fault (BadType at)
      | (Some t) ↦ and_then (typing (here body s) e) (λ o. and_then (convert (here body s) t (first_token e) (first_token e) o) (λ v. Ok (Returned (Some v))))
    ])) (sym i) h
