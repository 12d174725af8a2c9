-- Names that are alike, and what is found in a map or a list with one more.
use Rattle.std.proofs.Common.{if◌then◌else◌, ◌≡◌, ℕ, Bool, true, false, ◌||◌, List, [], ◌∷◌, ◌++◌, Option, Some, refl, sym, ap, ◌∙◌, true≢false}
use Rattle.std.specs.List.{list_any}
use Rattle.std.specs.Map.{lookup}
use Rattle.std.specs.Str.{bytes_eq}
use Rattle.std.specs.Global.{Vec}
use Rattle.std.proofs.lemmas.Cmp.{nat_list_eq_equiv}
use Rattle.std.proofs.lemmas.Slice.Eq.{bytes_eq-Decides}
use Rattle.indexmap.specs.IndexMap.{insert_entry}

pub same : (a b : List ℕ) → bytes_eq a b ≡ true → a ≡ b
same a b e = (bytes_eq-Decides a b).0 e

pub flip : (a b : List ℕ) → bytes_eq a b ≡ bytes_eq b a
flip a b = nat_list_eq_equiv.symm a b

pub any-append : {X : Type 0} (test : X → Bool) (xs : List X) (y : X) → list_any test (xs ++ y ∷ []) ≡ (list_any test xs || (test y || false))
any-append test [] y = refl
any-append test (x ∷ xs) y = by (test x) refl (any-append test xs y)
  where
    by : (b : Bool) → test x ≡ b → list_any test (xs ++ y ∷ []) ≡ (list_any test xs || (test y || false)) → (test x || list_any test (xs ++ y ∷ [])) ≡ ((test x || list_any test xs) || (test y || false))
    by true e later = rw e refl
    by false e later = rw e later

module _ {X : Type 0} (n : List ℕ) (key : Vec ℕ) (v : X) where
  abbrev found : List (Vec ℕ × X) → Option X
  found es = lookup (λ k. bytes_eq n k.items) es

  abbrev inserted : List (Vec ℕ × X) → List (Vec ℕ × X)
  inserted es = insert_entry (λ a b. bytes_eq a.items b.items) es key v

  pub lookup-inserted : (es : List (Vec ℕ × X)) → found (inserted es) ≡ (if bytes_eq n key.items then Some v else found es)
  lookup-inserted [] = refl
  lookup-inserted (e ∷ es) = by (bytes_eq key.items e.0.items) (bytes_eq n e.0.items) (bytes_eq n key.items) refl refl refl (lookup-inserted es)
    where
      by : (a b c : Bool) → bytes_eq key.items e.0.items ≡ a → bytes_eq n e.0.items ≡ b → bytes_eq n key.items ≡ c → found (inserted es) ≡ (if bytes_eq n key.items then Some v else found es)
          → found (inserted (e ∷ es)) ≡ (if bytes_eq n key.items then Some v else found (e ∷ es))
      by true true true i j k later = rw (i, k, j) refl
      by true true false i j k later = absurd (true≢false (sym j ∙ ap (bytes_eq n) (sym (same key.items e.0.items i)) ∙ k))
      by true false true i j k later = absurd (true≢false (sym k ∙ ap (bytes_eq n) (same key.items e.0.items i) ∙ j))
      by true false false i j k later = rw (i, k, j) refl
      by false true true i j k later = absurd (true≢false (sym ((bytes_eq-Decides key.items e.0.items).1 (sym (same n key.items k) ∙ same n e.0.items j)) ∙ i))
      by false true false i j k later = rw (i, k, j) refl
      by false false true i j k later = rw (i, j, later, k) refl
      by false false false i j k later = rw (i, j, later, k) refl
