-- Facts of lists and tests that the proofs about files share.
use Rattle.std.proofs.Common.{◌≡◌, ℕ, zero, suc, Bool, true, false, not, List, [], ◌∷◌, Some, refl, sym, ap, ◌∙◌, true≢false, slice_get}
use Rattle.std.specs.List.{AllByRecursion, list_any}
use Rattle.std.proofs.lemmas.Bool.{or_parts}
use Rattle.std.proofs.lemmas.Option.{none-some, same_Some}

-- where none of a list passes, none does
pub not-any : {A : Type 0} (test : A → Bool) (xs : List A) → list_any test xs ≡ false → (i : ℕ) (x : A) → slice_get xs i ≡ Some x → test x ≡ false
not-any test [] e i x at = absurd (none-some x at)
not-any test (y ∷ xs) e zero x at = ap test (sym (same_Some y x at)) ∙ (or_parts (test y) (list_any test xs) e).0
not-any test (y ∷ xs) e (suc i) x at = not-any test xs (or_parts (test y) (list_any test xs) e).1 i x at

pub is-false : (b : Bool) → not b ≡ true → b ≡ false
is-false true h = absurd (true≢false (sym h))
is-false false h = refl

pub is-true : (b : Bool) → not b ≡ false → b ≡ true
is-true true h = refl
is-true false h = absurd (true≢false h)

-- what holds at each place holds of all
pub all-from : {A : Type 0} (P : A → Type 0) (xs : List A) → ((i : ℕ) (x : A) → slice_get xs i ≡ Some x → P x) → AllByRecursion P xs
all-from P [] h = tt
all-from P (x ∷ xs) h = (h 0 x refl, all-from P xs (λ i y at. h (suc i) y at))
