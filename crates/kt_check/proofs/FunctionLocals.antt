-- Lists of locals that grow.
use Rattle.std.proofs.Common.{◌≡◌, ℕ, ◌+◌, ◌<◌, ◌≤◌, List, [], ◌∷◌, ◌++◌, length, map, take, drop, get_or, refl, sym, ap, ◌∙◌, append_assoc}
use Rattle.std.proofs.lemmas.List.{append-nil, map-append, take_more, take_all}
use Rattle.kt_grammar.specs.declared.tree.Base.{Base}
use Rattle.kt_syntax.specs.declared.tree.LocalDeclarator.{LocalDeclarator}
use Rattle.kt_syntax.specs.declared.tree.Parameter.{Parameter}
use Rattle.kt_syntax.specs.declared.tree.Stmt.{Stmt}
use Rattle.kt_syntax.specs.Tree.{local_of, statement_of, statements_of}
use Rattle.kt_names.specs.declared.ctype.CType.{CType}
use Rattle.kt_names.specs.declared.info.LocalInfo.{LocalInfo}
use Rattle.kt_names.specs.Tables.{DeclaredLocal, declared_type, locals_in, parameter_local, block_locals, statement_locals}
use Rattle.kt_names.specs.Scopes.{declared_as}

pub added-push : (xs ys : List LocalInfo) (l : LocalInfo) → ys ≡ xs ++ l ∷ [] → map declared_as ys ≡ map declared_as xs ++ declared_as l ∷ []
added-push xs ys l e = ap (λ (ls : List LocalInfo). map declared_as ls) e ∙ map-append declared_as xs (l ∷ [])

-- one more of a list that is gone through
pub one-more : {A B : Type 0} (f : A → B) (xs : List A) (i : ℕ) (x : A) (before now last : List B) → now ≡ before ++ map f (take i xs) → last ≡ now ++ f x ∷ [] → i < length xs → x ≡ get_or xs i x
    → last ≡ before ++ map f (take (i + 1) xs)
one-more f xs i x before now last e g h is =
    g ∙ ap (λ ys. ys ++ f x ∷ []) e ∙ append_assoc before (map f (take i xs)) (f x ∷ [])
    ∙ ap (λ ys. before ++ ys) (sym (ap (λ ys. map f ys) (take_more xs i x h ∙ ap (λ y. take i xs ++ y ∷ []) (sym is)) ∙ map-append f (take i xs) (x ∷ [])))

pub all-of : {A B : Type 0} (f : A → B) (xs : List A) (n : ℕ) (before now : List B) → length xs ≤ n → now ≡ before ++ map f (take n xs) → now ≡ before ++ map f xs
all-of f xs n before now h e = e ∙ ap (λ ys. before ++ map f ys) (take_all n xs h)

module _ (names : List (List ℕ)) where
  -- the local of a declarator of a base
  abbrev pub local_as : Base → LocalDeclarator → DeclaredLocal
  local_as b l = record { name = l.name.word; ty = declared_type names b l.pointer; base = b; pointer = l.pointer }

  pub block-more : (ss : List Stmt) (s : Stmt) → block_locals names (statements_of (map statement_of (ss ++ s ∷ []))) ≡ block_locals names (statements_of (map statement_of ss)) ++ statement_locals names (statement_of s)
  block-more [] s = append-nil (statement_locals names (statement_of s))
  block-more (t ∷ ss) s =
      ap (λ (ls : List DeclaredLocal). statement_locals names (statement_of t) ++ ls) (block-more ss s)
      ∙ sym (append_assoc (statement_locals names (statement_of t)) (block_locals names (statements_of (map statement_of ss))) (statement_locals names (statement_of s)))

  pub locals-are : (b : Base) (ds : List LocalDeclarator) → map (local_as b) ds ≡ locals_in names (record { base = b; locals = map local_of ds })
  locals-are b [] = refl
  locals-are b (d ∷ ds) = ap (λ (ls : List DeclaredLocal). local_as b d ∷ ls) (locals-are b ds)
