-- A search that goes round comes first to the thread to which the fewest steps lead.
use Rattle.std.proofs.Common.{◌≡◌, ℕ, suc, ◌+◌, ◌-◌, ◌<◌, ◌≤◌, ◌==◌, ◌⊎◌, Bool, true, false, List, [], ◌∷◌, length, Option, None, Some, nat_le, slice_get, refl, ◌∙◌, arith, inl, inr, add-one}
use Rattle.std.specs.Prelude.{find}
use Rattle.std.proofs.lemmas.Bool.{cases_Bool, eqb-true, le-leb, leb-false, leb-true, lt-leb}
use Rattle.std.proofs.lemmas.Option.{get_or_from_slice_get}
use Rattle.kt_sched.proofs.Numbers.{among-enabled, search-above, search-round}
use Rattle.kt_sched.specs.Choice.{first_of, is_among, search_order, steps_to}
use Rattle.kt_sched.specs.Enabled.{enabled_from, enabled_threads}

-- the numbers rise, from n on, and are below 65
abbrev pub Rises : ℕ → List ℕ → Type 0
Rises n [] = Unit {0}
Rises n (x ∷ xs) = (n ≤ x) × (x < 65) × Rises (suc x) xs

rises-later : (m n : ℕ) (xs : List ℕ) → m ≤ n → Rises n xs → Rises m xs
rises-later m n [] le up = tt
rises-later m n (x ∷ xs) le up = (omega (arith, up.0), up.1, up.2)

enabled-rises : (n : ℕ) (flags : List Bool) → n + length flags ≤ 65 → Rises n (enabled_from n flags)
enabled-rises n [] few = tt
enabled-rises n (true ∷ flags) few = (omega arith, omega arith, enabled-rises (suc n) flags (omega arith))
enabled-rises n (false ∷ flags) few = rises-later n (suc n) (enabled_from (suc n) flags) (omega arith) (enabled-rises (suc n) flags (omega arith))

among-cases : (t x : ℕ) (xs : List ℕ) → is_among t (x ∷ xs) ≡ true → (x ≡ t) ⊎ (is_among t xs ≡ true)
among-cases t x xs is =
    elim (cases_Bool (x == t)) [
      | inl same ↦ inl (eqb-true x t same)
      | inr other ↦ inr (rw other at is)
    ]

among-from : (n t : ℕ) (xs : List ℕ) → Rises n xs → is_among t xs ≡ true → n ≤ t
among-from n t [] up is = cc
among-from n t (x ∷ xs) up is =
    elim (among-cases t x xs is) [
      | inl same ↦ omega (arith, up.0)
      | inr later ↦ let rest = among-from (suc x) t xs up.2 later in omega (arith, rest, up.0)
    ]

first-least : (n t : ℕ) (xs : List ℕ) → Rises n xs → is_among t xs ≡ true → first_of xs ≤ t
first-least n t [] up is = cc
first-least n t (x ∷ xs) up is =
    elim (among-cases t x xs is) [
      | inl same ↦ omega arith
      | inr later ↦ let rest = among-from (suc x) t xs up.2 later in omega (arith, rest)
    ]

found-above : (c n r : ℕ) (xs : List ℕ) → Rises n xs → find (λ u. nat_le (suc c) u) xs ≡ Some r → (c < r) × (r < 65)
found-above c n r [] up found = cc
found-above c n r (x ∷ xs) up found =
    elim (cases_Bool (nat_le (suc c) x)) [
      | inl above ↦
          let is : Some x ≡ Some r = rw above at found in
          let same : x ≡ r = cc in
          let over = leb-true (suc c) x above in
          (omega (arith, over, same), omega (arith, up.1, same))
      | inr below ↦ found-above c (suc x) r xs up.2 (rw below at found)
    ]

found-least : (c n r t : ℕ) (xs : List ℕ) → Rises n xs → find (λ u. nat_le (suc c) u) xs ≡ Some r → is_among t xs ≡ true → c < t → r ≤ t
found-least c n r t [] up found is over = cc
found-least c n r t (x ∷ xs) up found is over =
    elim (cases_Bool (nat_le (suc c) x)) [
      | inl above ↦
          let here : Some x ≡ Some r = rw above at found in
          let same : x ≡ r = cc in
          let least = first-least n t (x ∷ xs) up is in
          omega (arith, least, same)
      | inr below ↦
          elim (among-cases t x xs is) [
            | inl same ↦ let under = leb-false (suc c) x below in absurd (omega (arith, under, same))
            | inr later ↦ found-least c (suc x) r t xs up.2 (rw below at found) later over
          ]
    ]

none-above : (c t : ℕ) (xs : List ℕ) → find (λ u. nat_le (suc c) u) xs ≡ None → is_among t xs ≡ true → t ≤ c
none-above c t [] none is = cc
none-above c t (x ∷ xs) none is =
    elim (cases_Bool (nat_le (suc c) x)) [
      | inl above ↦ let here : Some x ≡ None = rw above at none in cc
      | inr below ↦
          elim (among-cases t x xs is) [
            | inl same ↦ let under = leb-false (suc c) x below in omega (arith, under, same)
            | inr later ↦ none-above c t xs (rw below at none) later
          ]
    ]

steps-above : (c t : ℕ) → c < t → steps_to c t ≡ t - c
steps-above c t over = rw (le-leb (suc c) t (omega arith)) refl

steps-round : (c t : ℕ) → t ≤ c → steps_to c t ≡ 65 - c + t
steps-round c t under = rw (lt-leb (suc c) t (omega arith)) refl

-- from a thread to another one by whichever way
steps-least : (c t : ℕ) → (steps_to c t ≡ t - c) × (c < t) ⊎ (steps_to c t ≡ 65 - c + t) × (t ≤ c)
steps-least c t =
    elim (cases_Bool (nat_le (suc c) t)) [
      | inl above ↦ let over = leb-true (suc c) t above in inl (steps-above c t (omega (arith, over)), omega (arith, over))
      | inr below ↦ let under = leb-false (suc c) t below in inr (steps-round c t (omega (arith, under)), omega (arith, under))
    ]

by-found : (c t : ℕ) (xs : List ℕ) → Rises 0 xs → is_among t xs ≡ true → (found : Option ℕ) → find (λ u. nat_le (suc c) u) xs ≡ found
    → steps_to c (first_of (search_order c xs)) ≤ steps_to c t
by-found c t xs up is (Some r) found =
    let first : first_of (search_order c xs) ≡ r = search-above c (c + 1) xs r refl (rw add-one found) in
    let (over, few) = found-above c 0 r xs up found in
    let here = steps-above c r over in
    rw first (
    elim (steps-least c t) [
      | inl above ↦ let least = found-least c 0 r t xs up found is above.1 in omega (arith, here, above.0, above.1, least)
      | inr round ↦ omega (arith, here, round.0, round.1, few)
    ])
by-found c t xs up is None none =
    let first : first_of (search_order c xs) ≡ first_of xs = search-round c (c + 1) xs refl (rw add-one none) in
    let least = first-least 0 t xs up is in
    let under = none-above c t xs none is in
    let here = steps-round c (first_of xs) (omega (arith, least, under)) in
    let there = steps-round c t under in
    rw first (omega (arith, here, there, least))

pub fewest-steps : (flags : List Bool) (c : ℕ) → length flags ≡ 65 → (t : ℕ) → slice_get flags t ≡ Some true → steps_to c (first_of (search_order c (enabled_threads flags))) ≤ steps_to c t
unfolding enabled_threads
fewest-steps flags c is t set =
    by-found c t (enabled_from 0 flags) (enabled-rises 0 flags (omega arith)) (among-enabled flags t ∙ get_or_from_slice_get flags t true false set) (find (λ u. nat_le (suc c) u) (enabled_from 0 flags)) refl
