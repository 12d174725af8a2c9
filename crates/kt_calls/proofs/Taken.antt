-- Calls of one argument, and of two.
use Rattle.std.proofs.Common.{◌≡◌, ℕ, List, [], ◌∷◌, Some, None, Result, Err, refl, ap, subst, sym}
use Rattle.kt_typing.specs.Faults.{bad_type}
use Rattle.kt_typing.specs.Environment.{Environment}
use Rattle.kt_typing.specs.Operands.{Operand}
use Rattle.kt_typing.specs.Calls.{allocation_of, allocation, zeroed, begun}
use Rattle.kt_operands.specs.declared.refusal.Refusal.{Refusal}
use Rattle.kt_operands.specs.declared.refusal.Refusal.TheVariants as refusal
use Rattle.kt_operands.specs.Judged.{Follows}
use Rattle.kt_calls.specs.Arguments.{only, two}

pub is-only : {A : Type 0} (xs : List A) (x : A) → Some x ≡ only xs → xs ≡ x ∷ []
is-only [] x e = absurd cc
is-only (y ∷ []) x e = let same : y ≡ x = cc in ap (λ z. z ∷ []) same
is-only (y ∷ z ∷ xs) x e = absurd cc

pub is-two : {A : Type 0} (xs : List A) (x y : A) → Some (x, y) ≡ two xs → xs ≡ x ∷ y ∷ []
is-two [] x y e = absurd cc
is-two (a ∷ []) x y e = absurd cc
is-two (a ∷ b ∷ []) x y e = let same : (a, b) ≡ (x, y) = cc in ap (λ (p : _ × _). p.0 ∷ p.1 ∷ []) same
is-two (a ∷ b ∷ c ∷ xs) x y e = absurd cc

module _ {W : Type 0} (view : W → Operand) (env : Environment) (at : ℕ) (xs : List Operand) where
  pub one_allocated : (x : Operand) (r : Result W Refusal) → Some x ≡ only xs → Follows view (allocation_of env at x x.standing) r → Follows view (allocation env at xs) r
  one_allocated x r e h = subst (λ ys. Follows view (allocation env at ys) r) (sym (is-only xs x e)) h

  pub none_allocated : None ≡ only xs → Follows view (allocation env at xs) (Err (refusal.Fault (bad_type at)))
  none_allocated e = by xs e
    where
      by : (xs : List Operand) → None ≡ only xs → allocation env at xs ≡ Err (bad_type at)
      by [] e = refl
      by (x ∷ []) e = absurd cc
      by (x ∷ y ∷ xs) e = refl

  pub two_zeroed : (x y : Operand) (r : Result W Refusal) → Some (x, y) ≡ two xs → Follows view (zeroed env at (x ∷ y ∷ [])) r → Follows view (zeroed env at xs) r
  two_zeroed x y r e h = subst (λ ys. Follows view (zeroed env at ys) r) (sym (is-two xs x y e)) h

  pub none_zeroed : None ≡ two xs → Follows view (zeroed env at xs) (Err (refusal.Fault (bad_type at)))
  none_zeroed e = by xs e
    where
      by : (xs : List Operand) → None ≡ two xs → zeroed env at xs ≡ Err (bad_type at)
      by [] e = refl
      by (x ∷ []) e = refl
      by (x ∷ y ∷ []) e = absurd cc
      by (x ∷ y ∷ z ∷ xs) e = refl

  pub two_begun : (x y : Operand) (r : Result W Refusal) → Some (x, y) ≡ two xs → Follows view (begun env at (x ∷ y ∷ [])) r → Follows view (begun env at xs) r
  two_begun x y r e h = subst (λ ys. Follows view (begun env at ys) r) (sym (is-two xs x y e)) h

  pub none_begun : None ≡ two xs → Follows view (begun env at xs) (Err (refusal.Fault (bad_type at)))
  none_begun e = by xs e
    where
      by : (xs : List Operand) → None ≡ two xs → begun env at xs ≡ Err (bad_type at)
      by [] e = refl
      by (x ∷ []) e = refl
      by (x ∷ y ∷ []) e = absurd cc
      by (x ∷ y ∷ z ∷ xs) e = refl

pub ruleset ones = (one_allocated, none_allocated)

pub ruleset twos = (two_zeroed, none_zeroed, two_begun, none_begun)
