-- The law of division.
use Rattle.std.proofs.Common.{◌≡◌, ℕ, false, ℤ, pos, int_div, int_rem, Result, Ok, Err, Bool, ◌^◌, true, cond}
use Rattle.std.proofs.lemmas.Int.{quot-rem}
use Rattle.std.specs.Result.{result_and}
use Rattle.kt_types.specs.declared.kinds.Ty.{Ty}
use Rattle.kt_types.specs.declared.kinds.Ty.TheVariants as ty
use Rattle.kt_mem.specs.declared.memory.Value.{Value}
use Rattle.kt_mem.specs.declared.memory.Value.TheVariants.{Num}
use Rattle.kt_mem.specs.declared.steps.Trap.{Trap}
use Rattle.kt_mem.specs.declared.steps.Trap.TheVariants as trap
use Rattle.kt_mem.specs.Values.{int_eq}
use Rattle.kt_mem.specs.Arithmetic.{fits, within, number, quotient}
use Rattle.kt_mem.specs.Laws.{DividesExactly}

within_ok : (limit : ℕ) (e : Trap) (z w : ℤ) → within limit e z ≡ Ok (Num w) → w ≡ z
within_ok limit e z w h = by_test (fits limit z) h
  where
    by_test : (b : Bool) → cond b (Ok (Num z)) (Err e) ≡ Ok (Num w) → w ≡ z
    by_test true h = cc
    by_test false h = cc

number_ok : (t : Ty) (e : Trap) (z w : ℤ) → number t e z ≡ Ok (Num w) → w ≡ z
number_ok ty.Char e z w h = within_ok (2 ^ 7) e z w h
number_ok ty.Int e z w h = within_ok (2 ^ 31) e z w h
number_ok ty.Long e z w h = within_ok (2 ^ 63) e z w h
number_ok _ e z w h = cc

quotient_ok : (t : Ty) (x y q : ℤ) → quotient t x y ≡ Ok (Num q) → q ≡ int_div x y
quotient_ok t x y q h = by_test (int_eq y (pos 0)) h
  where
    by_test : (b : Bool) → cond b (Err trap.Zero) (number t trap.Overflow (int_div x y)) ≡ Ok (Num q) → q ≡ int_div x y
    by_test true h = cc
    by_test false h = number_ok t trap.Overflow (int_div x y) q h

result_and_ok : (r s : Result Value Trap) (v : Value) → result_and r s ≡ Ok v → s ≡ Ok v
result_and_ok (Ok u) s v h = h
result_and_ok (Err e) s v h = cc

pub divides_exactly : DividesExactly
divides_exactly t x y q r h k =
    let first = quotient_ok t x y q h in
    let second = number_ok t trap.Overflow (int_rem x y) r (result_and_ok (quotient t x y) (number t trap.Overflow (int_rem x y)) (Num r) k) in
    rw (first, second) (quot-rem x y)
