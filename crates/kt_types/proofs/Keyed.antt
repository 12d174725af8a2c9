-- Keys that stand once each, by what they name.
use Rattle.std.proofs.Common.{◌≡◌, ℕ, Bool, true, false, List, [], ◌∷◌, get_or, Some, is_some, sym, ap, ◌∙◌, slice_get, inl, inr}
use Rattle.std.specs.List.{IsDistinct, position}
use Rattle.std.specs.Map.{keys_of, lookup}
use Rattle.std.proofs.lemmas.Bool.{cases_order, false≢true}
use Rattle.std.proofs.lemmas.List.Quantifiers.{position-Some}
use Rattle.std.proofs.lemmas.Map.Keys.{any_passes_from_place, apart_from_distinct}
use Rattle.std.proofs.lemmas.Map.Made.{is_some-lookup}
use Rattle.std.proofs.lemmas.Option.{none-some, slice_get_within, slice_get-get_or, get_or_from_slice_get}

module _ {K A : Type 0} (name : K → A) (test : A → A → Bool) (same : (a b : A) → test a b ≡ true → a ≡ b) (tied : (a b : A) → a ≡ b → test a b ≡ true) where
  -- the place that a look-up finds has the name
  pub key-at : (keys : List K) (a : A) (i : ℕ) → Some i ≡ position (λ k. test a (name k)) keys → (k : K) × (slice_get keys i ≡ Some k) × (name k ≡ a)
  key-at [] a i e = absurd (none-some i (sym e))
  key-at (x ∷ xs) a i e =
      let (within, passes, before) = position-Some (λ k. test a (name k)) (x ∷ xs) i x (sym e) in
      (get_or (x ∷ xs) i x, slice_get-get_or (x ∷ xs) i x within, sym (same a _ passes))

  -- no two places have one name
  pub key-only : (keys : List K) → IsDistinct (λ x y. test (name x) (name y)) keys → (i j : ℕ) (k l : K) → slice_get keys i ≡ Some k → slice_get keys j ≡ Some l → name k ≡ name l → i ≡ j
  key-only keys distinct i j k l at there is =
      let lt_i = slice_get_within keys i k at in
      let lt_j = slice_get_within keys j l there in
      let first : get_or keys i k ≡ k = get_or_from_slice_get keys i k k at in
      let second : get_or keys j k ≡ l = get_or_from_slice_get keys j l k there in
      elim (cases_order i j) [
        | inl equal ↦ equal
        | inr apart ↦ elim apart [
          | inl before ↦ absurd (false≢true (sym (apart_from_distinct _ keys i j k distinct before lt_j) ∙ tied _ _ (ap name first ∙ is ∙ sym (ap name second))))
          | inr after ↦ absurd (false≢true (sym (apart_from_distinct _ keys j i k distinct after lt_i) ∙ tied _ _ (ap name second ∙ sym is ∙ sym (ap name first))))
        ]
      ]

  -- a name that a look-up does not find is none's
  pub key-absent : {X : Type 0} (es : List (K × X)) (a : A) → false ≡ is_some (lookup (λ k. test a (name k)) es) → (q : ℕ) (k : K) → slice_get (keys_of es) q ≡ Some k → name k ≡ a → ⊥
  key-absent es a none q k at is =
      false≢true (none ∙ is_some-lookup (λ l. test a (name l)) es ∙ any_passes_from_place (λ l. test a (name l)) (keys_of es) q k at (tied a (name k) (sym is)))
