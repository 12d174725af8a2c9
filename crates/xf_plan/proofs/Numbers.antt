-- How many numbers below a bound pass a test.
use Rattle.std.specs.Prelude.{◌≡◌, ℕ, zero, suc, ◌+◌, ◌<◌, ◌≤◌, Bool, true, false, refl}
use Rattle.std.proofs.Common.{inl, inr, arith, ap, sym, subst}
use Rattle.std.proofs.lemmas.Bool.{cases_lt}

abbrev pub one_if : Bool → ℕ
one_if true = 1
one_if false = 0

abbrev pub count : ℕ → (ℕ → Bool) → ℕ
count zero f = 0
count (suc n) f = one_if (f n) + count n f

one_if-bound : (b : Bool) → one_if b ≤ 1
one_if-bound true = omega arith
one_if-bound false = omega arith

pub count-bound : (n : ℕ) (f : ℕ → Bool) → count n f ≤ n
count-bound zero f = omega arith
count-bound (suc n) f = let rest = count-bound n f in let one = one_if-bound (f n) in omega (arith, rest, one)

one_if-rises : (a b : Bool) → (a ≡ true → b ≡ true) → one_if a ≤ one_if b
one_if-rises true b h = subst (λ c. 1 ≤ one_if c) (sym (h refl)) (omega arith)
one_if-rises false b h = omega arith

-- where one test follows from another
module _ (f g : ℕ → Bool) (follows : (a : ℕ) → f a ≡ true → g a ≡ true) where
  pub count-rises : (n : ℕ) → count n f ≤ count n g
  count-rises zero = omega arith
  count-rises (suc n) = let rest = count-rises n in let one = one_if-rises (f n) (g n) (follows n) in omega (arith, rest, one)

  same-one : (a b : Bool) → one_if a ≡ one_if b → b ≡ true → a ≡ true
  same-one true b h k = refl
  same-one false true h k = absurd (omega (arith, h))
  same-one false false h k = k

  -- where as many pass both, the same pass both
  pub count-same : (n : ℕ) → count n f ≡ count n g → (a : ℕ) → a < n → g a ≡ true → f a ≡ true
  count-same zero e a low h = absurd (omega (arith, low))
  count-same (suc n) e a low h =
      let rest = count-rises n in
      let one = one_if-rises (f n) (g n) (follows n) in
      let tail : count n f ≡ count n g = omega (arith, rest, one, e) in
      let head : one_if (f n) ≡ one_if (g n) = omega (arith, rest, one, e) in
      elim (cases_lt a n) [
        | inl below ↦ count-same n tail a (omega (arith, below)) h
        | inr last ↦
            let is : a ≡ n = omega (arith, low, last) in
            subst (λ b. f b ≡ true) (sym is) (same-one (f n) (g n) head (subst (λ b. g b ≡ true) is h))
      ]

pub count-none : (n : ℕ) (f : ℕ → Bool) → count n f ≡ 0 → (a : ℕ) → a < n → f a ≡ true → ⊥
count-none zero f e a low h = omega (arith, low)
count-none (suc n) f e a low h =
    elim (cases_lt a n) [
      | inl below ↦ let tail : count n f ≡ 0 = omega (arith, e) in count-none n f tail a (omega (arith, below)) h
      | inr last ↦
          let is : a ≡ n = omega (arith, low, last) in
          let passes : f n ≡ true = subst (λ b. f b ≡ true) is h in
          let one : one_if (f n) ≡ 1 = ap one_if passes in
          absurd (omega (arith, one, e))
    ]
