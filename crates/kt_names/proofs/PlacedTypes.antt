-- The places of types by their roots, as the code notes them.
use Rattle.std.proofs.Common.{◌≡◌, ℕ, ◌<◌, Bool, true, false, cond, List, [], ◌∷◌, ◌++◌, length, length-append, Option, Some, refl, sym, ap, ◌∙◌, subst, arith, inl, inr, rules}
use Rattle.std.specs.Global.{Vec}
use Rattle.std.specs.Map.{lookup}
use Rattle.std.proofs.lemmas.Bool.{cases_eq}
use Rattle.std.proofs.lemmas.List.{get_or_append_left, get_or_push}
use Rattle.kt_types.specs.declared.kinds.Ty.{Ty}
use Rattle.kt_names.specs.declared.ctype.Root.{Root}
use Rattle.kt_names.specs.contracts.ctype.RootPartialEq.TheImpl.{eq-value}
use Rattle.kt_names.specs.Types.{same_root, starred_place}
use Rattle.kt_names.specs.Placed.{AreStarred, AreAllStarred}
use Rattle.kt_names.proofs.Roots.{same-root}

-- one place more
pub starred-push : (types : List Ty) (r : Root) (places : List ℕ) (p : ℕ) → AreStarred types r places → p ≡ starred_place types r (length places) → AreStarred types r (places ++ p ∷ [])
starred-push types r places p placed is k lt =
    elim (cases_eq k (length places)) [
      | inl last ↦ get_or_push places p 0 k (sym last) ∙ is ∙ ap (starred_place types r) (sym last)
      | inr other ↦
          let before : k < length places = omega (arith, lt, other, length-append places (p ∷ [])) in
          get_or_append_left places (p ∷ []) 0 k before ∙ placed k before
    ]

-- ---- by their roots

root-test : (a b : Root) → eq-value.it a b ≡ same_root a b
root-test a b = search rules

module _ (lists : List (Root × Vec ℕ)) where
  by-root : (r : Root) → lookup (eq-value.it r) lists ≡ lookup (same_root r) lists
  by-root r = ap (λ (test : Root → Bool). lookup test lists) (λ i q. root-test r q i)

  -- what a look-up finds
  pub found-starred : (types : List Ty) (r : Root) (places : Vec ℕ) → AreAllStarred types lists → Some places ≡ lookup (eq-value.it r) lists → AreStarred types r places.items
  found-starred types r places all found = all r places (sym (found ∙ by-root r))

-- what is behind a change at one root
pub changed-starred : (types : List Ty) (before after : List (Root × Vec ℕ)) (r : Root) (now : Option (Vec ℕ))
    → AreAllStarred types before
    → ((places : Vec ℕ) → now ≡ Some places → AreStarred types r places.items)
    → ((q : Root) → lookup (eq-value.it q) after ≡ cond (eq-value.it r q) now (lookup (eq-value.it q) before))
    → AreAllStarred types after
changed-starred types before after r now all new change q places found = by (same_root r q) refl
  where
    is : cond (same_root r q) now (lookup (same_root q) before) ≡ Some places
    is = sym (λ i. cond (root-test r q i) now (by-root before q i)) ∙ sym (change q) ∙ by-root after q ∙ found

    by : (b : Bool) → same_root r q ≡ b → AreStarred types q places.items
    by true e = subst (λ s. AreStarred types s places.items) (same-root r q e) (new places (rw e at is))
    by false e = all q places (rw e at is)
