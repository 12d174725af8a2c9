-- A type that corresponds to one of the new version has a new type.
use Rattle.std.specs.Prelude.{◌≡◌, ℕ, zero, suc, ◌+◌, ◌<◌, nat_lt, cond, not, Bool, true, false, List, [], ◌∷◌, length, position, slice_get, Option, None, Some, option_and_then, refl}
use Rattle.std.specs.List.{position_or_len}
use Rattle.std.proofs.Common.{arith, ap, ◌∙◌}
use Rattle.std.proofs.lemmas.Bool.Decides.{nat_tests}
use Rattle.std.proofs.lemmas.Option.{none-some, same_Some}
use Rattle.kt_types.specs.declared.kinds.Ty.{Ty}
use Rattle.kt_types.specs.declared.kinds.Ty.TheVariants.{Char, Int, Long, Mutex, Struct, Ptr}
use Rattle.xf_plan.specs.Correspondence.{both_are, correspond_by, correspond_within, corresponds, types_correspond, new_type}
use Rattle.xf_plan.specs.Plan.{Plan}

-- ---- the first place of what passes

place-within : {X : Type 0} (p : X → Bool) (xs : List X) (k : ℕ) (x : X) → slice_get xs k ≡ Some x → p x ≡ true → position_or_len p xs < length xs
place-within p [] k x at passes = absurd (none-some x at)
place-within p (y ∷ xs) zero x at passes = by_test (p y) (ap p (same_Some y x at) ∙ passes)
  where
    by_test : (b : Bool) → b ≡ true → cond (not b) (1 + position_or_len p xs) 0 < suc (length xs)
    by_test true e = omega arith
    by_test false e = absurd cc
place-within p (y ∷ xs) (suc k) x at passes = by_test (p y) (place-within p xs k x at passes)
  where
    by_test : (b : Bool) → position_or_len p xs < length xs → cond (not b) (1 + position_or_len p xs) 0 < suc (length xs)
    by_test true lt = omega arith
    by_test false lt = omega arith

-- where something passes, a place is found
pub place-found : {X : Type 0} (p : X → Bool) (xs : List X) (k : ℕ) (x : X) → slice_get xs k ≡ Some x → p x ≡ true → (i : ℕ) × (position p xs ≡ Some i)
place-found p xs k x at passes = by_test (nat_lt (position_or_len p xs) (length xs)) refl
  where
    by_test : (b : Bool) → nat_lt (position_or_len p xs) (length xs) ≡ b → (i : ℕ) × (cond b (Some (position_or_len p xs)) None ≡ Some i)
    by_test true e = (position_or_len p xs, refl)
    by_test false e = let lt = place-within p xs k x at passes in absurd (grind (arith, nat_tests, lt, e))

-- ---- correspondence

module _ (p : Plan) where
  -- through more pointers at least as many types correspond
  by-rises : (f g : ℕ → ℕ → Bool) → ((a b : ℕ) → f a b ≡ true → g a b ≡ true) → (t u : Ty) → correspond_by f p t u ≡ true → correspond_by g p t u ≡ true
  by-rises f g rises Char Char h = refl
  by-rises f g rises Int Int h = refl
  by-rises f g rises Long Long h = refl
  by-rises f g rises Mutex Mutex h = refl
  by-rises f g rises (Struct s) (Struct r) h = h
  by-rises f g rises (Ptr a) (Ptr b) h = rises a b h
  by-rises f g rises t u h = absurd cc

  both-rises : (f g : Ty → Ty → Bool) → ((t u : Ty) → f t u ≡ true → g t u ≡ true) → (a b : Option Ty) → both_are f a b ≡ true → both_are g a b ≡ true
  both-rises f g rises (Some t) (Some u) h = rises t u h
  both-rises f g rises (Some t) None h = absurd cc
  both-rises f g rises None b h = absurd cc

  rises-one : (n a b : ℕ) → correspond_within p n a b ≡ true → correspond_within p (suc n) a b ≡ true
  rises-one zero a b h = absurd cc
  rises-one (suc n) a b h =
      both-rises (correspond_by (correspond_within p n) p) (correspond_by (correspond_within p (suc n)) p)
      (by-rises (correspond_within p n) (correspond_within p (suc n)) (rises-one n)) (slice_get p.old.types a) (slice_get p.new.types b) h

  -- two types of the tables that correspond
  record Found (a b : ℕ) : Type 0 where
    old : Ty
    new : Ty
    old_is : slice_get p.old.types a ≡ Some old
    new_is : slice_get p.new.types b ≡ Some new
    are : types_correspond p old new ≡ true

  both-found : (a b : ℕ) → both_are (types_correspond p) (slice_get p.old.types a) (slice_get p.new.types b) ≡ true → Found a b
  both-found a b h = by (slice_get p.old.types a) (slice_get p.new.types b) refl refl h
    where
      by : (o n : Option Ty) → slice_get p.old.types a ≡ o → slice_get p.new.types b ≡ n → both_are (types_correspond p) o n ≡ true → Found a b
      by (Some t) (Some u) at there is = record { old = t; new = u; old_is = at; new_is = there; are = is }
      by (Some t) None at there is = absurd cc
      by None n at there is = absurd cc

  found : (a b : ℕ) → corresponds p a b ≡ true → Found a b
  found a b h = both-found a b (rises-one (length p.old.types) a b h)

  -- it has a new type
  pub has-new-type : (a b : ℕ) → corresponds p a b ≡ true → (c : ℕ) × (new_type p a ≡ Some c)
  has-new-type a b h =
      let is = found a b h in
      let at = place-found (types_correspond p is.old) p.new.types b is.new is.new_is is.are in
      (at.0, ap (option_and_then (λ t. position (types_correspond p t) p.new.types)) is.old_is ∙ at.1)
