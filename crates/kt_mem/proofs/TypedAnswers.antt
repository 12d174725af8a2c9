-- The results of arithmetic are of their types.
use Rattle.std.proofs.Common.{◌≡◌, ℕ, ℤ, pos, negsuc, ◌+ℤ◌, ◌-ℤ◌, ◌*ℤ◌, int_div, int_rem, ◌<◌, ◌≤◌, ◌^◌, ◌∙◌, subst, true, false, Bool, cond, Result, Ok, Err, refl, arith, rules, nat_le, FitsSigned, w64}
use Rattle.std.proofs.lemmas.Bool.Decides.{nat_tests}
use Rattle.std.specs.Int.Signed.{mag}
use Rattle.std.specs.Prelude.{IsTrue}
use Rattle.std.specs.Result.{result_and}
use Rattle.kt_types.specs.declared.kinds.Ty.{Ty}
use Rattle.kt_types.specs.declared.kinds.Ty.TheVariants as ty
use Rattle.kt_mem.specs.declared.memory.Name.{Name}
use Rattle.kt_mem.specs.declared.memory.Value.{Value}
use Rattle.kt_mem.specs.declared.memory.Value.TheVariants.{Num, Null, Ptr}
use Rattle.kt_mem.specs.declared.steps.Trap.{Trap}
use Rattle.kt_mem.specs.declared.steps.Trap.TheVariants as trap
use Rattle.kt_mem.specs.Values.{name_eq, int_eq}
use Rattle.kt_mem.specs.Arithmetic.{fits, within, number, has_type, place, moved, offsets, on_offsets, on_numbers, at_pointer, at_long, sum_of, difference_of, quotient, narrowed}
use Rattle.kt_mem.specs.Laws.{IsWithin, ResultsHaveType}

within_typed : (limit : ℕ) (e : Trap) (z : ℤ) (v : Value) (P : Value → Bool) → P (Num z) ≡ fits limit z → within limit e z ≡ Ok v → IsTrue (P v)
within_typed limit e z v P is h = by_test (fits limit z) refl h
  where
    by_test : (b : Bool) → fits limit z ≡ b → cond b (Ok (Num z)) (Err e) ≡ Ok v → IsTrue (P v)
    by_test true t h = let same : Num z ≡ v = cc in subst (λ (x : Value). P x ≡ true) same (is ∙ t)
    by_test false t h = cc

number_typed : (t : Ty) (e : Trap) (z : ℤ) (v : Value) → number t e z ≡ Ok v → IsTrue (has_type t v)
number_typed ty.Char e z v h = within_typed (2 ^ 7) e z v (has_type ty.Char) refl h
number_typed ty.Int e z v h = within_typed (2 ^ 31) e z v (has_type ty.Int) refl h
number_typed ty.Long e z v h = within_typed (2 ^ 63) e z v (has_type ty.Long) refl h
number_typed _ e z v h = cc

on_numbers_typed : (t : Ty) (f : ℤ → ℤ → Result Value Trap) (a b v : Value) → ((x y : ℤ) → f x y ≡ Ok v → IsTrue (has_type t v)) → on_numbers f a b ≡ Ok v → IsTrue (has_type t v)
on_numbers_typed t f (Num x) (Num y) v typed h = typed x y h
on_numbers_typed t f _ _ v typed h = cc

-- ---- pointers

place_typed : (u : ℕ) (n : Name) (z : ℤ) (v : Value) → place n z ≡ Ok v → IsTrue (has_type (ty.Ptr u) v)
place_typed u n (pos k) v h = by_test (nat_le k 65536) h
  where
    by_test : (b : Bool) → cond b (Ok (Ptr n k)) (Err trap.Bounds) ≡ Ok v → IsTrue (has_type (ty.Ptr u) v)
    by_test true h = let same : Ptr n k ≡ v = cc in subst (λ (x : Value). has_type (ty.Ptr u) x ≡ true) same refl
    by_test false h = cc
place_typed u n (negsuc k) v h = cc

moved_typed : (u : ℕ) (p : Value) (d : ℤ) (v : Value) → moved p d ≡ Ok v → IsTrue (has_type (ty.Ptr u) v)
moved_typed u (Ptr n k) d v h = place_typed u n (pos k +ℤ d) v h
moved_typed u _ d v h = cc

at_pointer_typed : (t : Ty) (p : Value) (d : ℤ) (v : Value) → at_pointer t (moved p d) ≡ Ok v → IsTrue (has_type t v)
at_pointer_typed (ty.Ptr u) p d v h = moved_typed u p d v h
at_pointer_typed _ p d v h = cc

fits_below : (limit : ℕ) (z : ℤ) → mag z < limit → fits limit z ≡ true
fits_below limit (pos n) h = grind (arith, nat_tests)
fits_below limit (negsuc n) h = grind (arith, nat_tests)

fits_apart : (k j : ℕ) → k ≤ 65536 → j ≤ 65536 → fits (2 ^ 63) (pos k -ℤ pos j) ≡ true
fits_apart k j h l =
    let small : FitsSigned w64 (pos k -ℤ pos j) = search rules in
    fits_below (2 ^ 63) (pos k -ℤ pos j) (omega (arith, small.sfits))

offsets_within : (p q : Value) (both : ℕ × ℕ) → IsWithin p → IsWithin q → offsets p q ≡ Ok both → (both.0 ≤ 65536) × (both.1 ≤ 65536)
offsets_within (Ptr n k) (Ptr o j) both s r h = by_test (name_eq n o) h
  where
    by_test : (b : Bool) → cond b (Ok (k, j)) (Err trap.Bounds) ≡ Ok both → (both.0 ≤ 65536) × (both.1 ≤ 65536)
    by_test true h = let same : ◌≡◌ {A = ℕ × ℕ} (k, j) both = cc in subst (λ (x : ℕ × ℕ). (x.0 ≤ 65536) × (x.1 ≤ 65536)) same (s, r)
    by_test false h = let never : ⊥ = cc in absurd never
offsets_within Null Null both s r h = let never : ⊥ = cc in absurd never
offsets_within Null (Ptr o j) both s r h = let never : ⊥ = cc in absurd never
offsets_within (Ptr n k) Null both s r h = let never : ⊥ = cc in absurd never
offsets_within _ _ both s r h = let never : ⊥ = cc in absurd never

at_long_typed : (t : Ty) (p q v : Value) → IsWithin p → IsWithin q → at_long t (on_offsets (λ k j. Ok (Num (pos k -ℤ pos j))) (offsets p q)) ≡ Ok v → IsTrue (has_type t v)
at_long_typed ty.Long p q v s r h = by_answer (offsets p q) refl h
  where
    by_answer : (x : Result (ℕ × ℕ) Trap) → offsets p q ≡ x → on_offsets (λ k j. Ok (Num (pos k -ℤ pos j))) x ≡ Ok v → IsTrue (has_type ty.Long v)
    by_answer (Ok both) e h =
        let small = offsets_within p q both s r e in
        let same : Num (pos both.0 -ℤ pos both.1) ≡ v = cc in
        subst (λ (x : Value). has_type ty.Long x ≡ true) same (fits_apart both.0 both.1 small.0 small.1)
    by_answer (Err e) f h = cc
at_long_typed _ p q v s r h = cc

-- ---- each operation

sum_typed : (t : Ty) (a b v : Value) → sum_of t a b ≡ Ok v → IsTrue (has_type t v)
sum_typed t (Num x) (Num y) v h = number_typed t trap.Overflow (x +ℤ y) v h
sum_typed t p (Num d) v h = at_pointer_typed t p d v h
sum_typed t (Num d) p v h = at_pointer_typed t p d v h
sum_typed t _ _ v h = cc

difference_typed : (t : Ty) (a b v : Value) → IsWithin a → IsWithin b → difference_of t a b ≡ Ok v → IsTrue (has_type t v)
difference_typed t (Num x) (Num y) v s r h = number_typed t trap.Overflow (x -ℤ y) v h
difference_typed t p (Num d) v s r h = at_pointer_typed t p (pos 0 -ℤ d) v h
difference_typed t p q v s r h = at_long_typed t p q v s r h

quotient_typed : (t : Ty) (x y : ℤ) (v : Value) → quotient t x y ≡ Ok v → IsTrue (has_type t v)
quotient_typed t x y v h = by_test (int_eq y (pos 0)) h
  where
    by_test : (b : Bool) → cond b (Err trap.Zero) (number t trap.Overflow (int_div x y)) ≡ Ok v → IsTrue (has_type t v)
    by_test true h = cc
    by_test false h = number_typed t trap.Overflow (int_div x y) v h

remainder_typed : (t : Ty) (z : ℤ) (v : Value) (r : Result Value Trap) → result_and r (number t trap.Overflow z) ≡ Ok v → IsTrue (has_type t v)
remainder_typed t z v (Ok q) h = number_typed t trap.Overflow z v h
remainder_typed t z v (Err e) h = cc

narrowed_typed : (t : Ty) (a v : Value) → narrowed t a ≡ Ok v → IsTrue (has_type t v)
narrowed_typed t (Num z) v h = number_typed t trap.Range z v h
narrowed_typed t _ v h = cc

pub results_have_type : ResultsHaveType
results_have_type t a b v =
    record {
      sum = sum_typed t a b v;
      difference = difference_typed t a b v;
      product = on_numbers_typed t (λ x y. number t trap.Overflow (x *ℤ y)) a b v (λ x y h. number_typed t trap.Overflow (x *ℤ y) v h);
      quotient = on_numbers_typed t (quotient t) a b v (λ x y h. quotient_typed t x y v h);
      remainder = on_numbers_typed t (λ x y. result_and (quotient t x y) (number t trap.Overflow (int_rem x y))) a b v (λ x y h. remainder_typed t (int_rem x y) v (quotient t x y) h);
      narrowed = narrowed_typed t a v;
    }
