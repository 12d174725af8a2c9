-- What a map keeps of names, behind an insertion.
use Rattle.std.proofs.Common.{if◌then◌else◌, ◌≡◌, ℕ, Bool, true, false, List, [], ◌∷◌, Option, Some, refl, sym, ap, ◌∙◌, true≢false}
use Rattle.std.specs.Map.{lookup}
use Rattle.std.specs.Str.{bytes_eq}
use Rattle.std.specs.Global.{Vec}
use Rattle.std.proofs.lemmas.Slice.Eq.{bytes_eq-Decides}
use Rattle.indexmap.specs.IndexMap.{insert_entry}

pub same : (a b : List ℕ) → bytes_eq a b ≡ true → a ≡ b
same a b e = (bytes_eq-Decides a b).0 e

pub itself : (a : List ℕ) → bytes_eq a a ≡ true
itself a = (bytes_eq-Decides a a).1 refl

pub turned : (a b : List ℕ) → bytes_eq a b ≡ false → bytes_eq b a ≡ false
turned a b e = by (bytes_eq b a) refl
  where
    by : (c : Bool) → bytes_eq b a ≡ c → bytes_eq b a ≡ false
    by true d = absurd (true≢false (sym ((bytes_eq-Decides a b).1 (sym (same b a d))) ∙ e))
    by false d = d

-- ---- maps by names

abbrev pub found : {V : Type 0} → List (Vec ℕ × V) → List ℕ → Option V
found es name = lookup (λ k. bytes_eq name k.items) es

module _ {V : Type 0} (key : Vec ℕ) (m : V) where
  abbrev pub inserted : List (Vec ℕ × V) → List (Vec ℕ × V)
  inserted es = insert_entry (λ a b. bytes_eq a.items b.items) es key m

  pub found-inserted : (q : List ℕ) (es : List (Vec ℕ × V)) → found (inserted es) q ≡ (if bytes_eq q key.items then Some m else found es q)
  found-inserted q [] = refl
  found-inserted q (e ∷ es) = by (bytes_eq key.items e.0.items) (bytes_eq q e.0.items) (bytes_eq q key.items) refl refl refl (found-inserted q es)
    where
      by : (a b c : Bool) → bytes_eq key.items e.0.items ≡ a → bytes_eq q e.0.items ≡ b → bytes_eq q key.items ≡ c → found (inserted es) q ≡ (if bytes_eq q key.items then Some m else found es q)
          → found (inserted (e ∷ es)) q ≡ (if bytes_eq q key.items then Some m else found (e ∷ es) q)
      by true true true i j k later = rw (i, k, j) refl
      by true true false i j k later = absurd (true≢false (sym j ∙ ap (bytes_eq q) (sym (same key.items e.0.items i)) ∙ k))
      by true false true i j k later = absurd (true≢false (sym k ∙ ap (bytes_eq q) (same key.items e.0.items i) ∙ j))
      by true false false i j k later = rw (i, k, j) refl
      by false true true i j k later = absurd (true≢false (sym ((bytes_eq-Decides key.items e.0.items).1 (sym (same q key.items k) ∙ same q e.0.items j)) ∙ i))
      by false true false i j k later = rw (i, k, j) refl
      by false false true i j k later = rw (i, j, later, k) refl
      by false false false i j k later = rw (i, j, later, k) refl
