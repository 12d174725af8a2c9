-- What operations give holds only heap names that were given out.
use Rattle.std.specs.Prelude.{ℕ, ℤ, pos, negsuc, ◌+ℤ◌, ◌-ℤ◌, ◌*ℤ◌, int_div, int_rem, ◌^◌, nat_le, Bool, true, false, List, Option, None, Some, Result, Ok, Err, if◌then◌else◌}
use Rattle.std.specs.Result.{result_and}
use Rattle.kt_types.specs.declared.kinds.FieldDecl.{FieldDecl}
use Rattle.kt_types.specs.declared.kinds.Ty.{Ty}
use Rattle.kt_types.specs.declared.kinds.Ty.TheVariants as ty
use Rattle.kt_types.specs.Table.{Table}
use Rattle.kt_types.specs.Layout.{cells_before}
use Rattle.kt_mem.specs.declared.memory.Name.{Name}
use Rattle.kt_mem.specs.declared.memory.Name.TheVariants.{Glob, Lit, Heap}
use Rattle.kt_mem.specs.declared.memory.Value.{Value}
use Rattle.kt_mem.specs.declared.memory.Value.TheVariants.{Num, Null, Ptr, Free, Held, Undef}
use Rattle.kt_mem.specs.declared.steps.Trap.{Trap}
use Rattle.kt_mem.specs.declared.steps.Trap.TheVariants as trap
use Rattle.kt_mem.specs.Arithmetic.{fits, number, place, moved, on_offsets, on_numbers, at_pointer, at_long, sum_of, difference_of, quotient, narrowed, offsets}
use Rattle.kt_mem.specs.Comparisons.{truth_of, falsehood_of, compared}
use Rattle.kt_mem.specs.Elements.{element_after, element_before, whole_elements}
use Rattle.kt_mem.specs.Values.{int_eq}
use Rattle.kt_meaning.specs.Operations.{element_sum, field_place}
use Rattle.kt_mem.specs.Renaming.{Pairs}
use Rattle.kt_heap.specs.ByNumber.{WasGiven}

-- the value, if there is one, was given out
abbrev pub Given : Pairs → Result Value Trap → Type 0
Given pairs (Ok v) = WasGiven pairs v
Given pairs (Err t) = Unit {0}

module _ (pairs : Pairs) where
  -- another place of the same object
  other-place : (n : Name) (k j : ℕ) → WasGiven pairs (Ptr n k) → WasGiven pairs (Ptr n j)
  other-place (Glob i) k j g = tt
  other-place (Lit v i) k j g = tt
  other-place (Heap a) k j g = g

  choice-given : (b : Bool) (v : Value) (t : Trap) → WasGiven pairs v → Given pairs (if b then Ok v else Err t)
  choice-given true v t g = g
  choice-given false v t g = tt

  pub number-given : (t : Ty) (e : Trap) (z : ℤ) → Given pairs (number t e z)
  number-given ty.Char e z = choice-given (fits (2 ^ 7) z) (Num z) e tt
  number-given ty.Int e z = choice-given (fits (2 ^ 31) z) (Num z) e tt
  number-given ty.Long e z = choice-given (fits (2 ^ 63) z) (Num z) e tt
  number-given ty.Mutex e z = tt
  number-given (ty.Struct i) e z = tt
  number-given (ty.Array i n) e z = tt
  number-given (ty.Ptr i) e z = tt

  pub truth_of-given : (r : Result Bool Trap) → Given pairs (truth_of r)
  truth_of-given (Ok b) = tt
  truth_of-given (Err t) = tt

  pub falsehood_of-given : (r : Result Bool Trap) → Given pairs (falsehood_of r)
  falsehood_of-given (Ok b) = tt
  falsehood_of-given (Err t) = tt

  pub compared-given : (test : ℤ → ℤ → Bool) (r : Result (ℤ × ℤ) Trap) → Given pairs (compared test r)
  compared-given test (Ok both) = tt
  compared-given test (Err t) = tt

  place-given : (n : Name) (k : ℕ) (z : ℤ) → WasGiven pairs (Ptr n k) → Given pairs (place n z)
  place-given n k (pos j) g = choice-given (nat_le j 65536) (Ptr n j) trap.Bounds (other-place n k j g)
  place-given n k (negsuc j) g = tt

  pub moved-given : (p : Value) (d : ℤ) → WasGiven pairs p → Given pairs (moved p d)
  moved-given (Ptr n k) d g = place-given n k (pos k +ℤ d) g
  moved-given (Num x) d g = tt
  moved-given Null d g = tt
  moved-given Free d g = tt
  moved-given (Held x) d g = tt
  moved-given Undef d g = tt

  at_pointer-given : (t : Ty) (r : Result Value Trap) → Given pairs r → Given pairs (at_pointer t r)
  at_pointer-given ty.Char r g = tt
  at_pointer-given ty.Int r g = tt
  at_pointer-given ty.Long r g = tt
  at_pointer-given ty.Mutex r g = tt
  at_pointer-given (ty.Struct i) r g = tt
  at_pointer-given (ty.Array i n) r g = tt
  at_pointer-given (ty.Ptr i) r g = g

  at_long-given : (t : Ty) (r : Result Value Trap) → Given pairs r → Given pairs (at_long t r)
  at_long-given ty.Char r g = tt
  at_long-given ty.Int r g = tt
  at_long-given ty.Long r g = g
  at_long-given ty.Mutex r g = tt
  at_long-given (ty.Struct i) r g = tt
  at_long-given (ty.Array i n) r g = tt
  at_long-given (ty.Ptr i) r g = tt

  between-given : (r : Result (ℕ × ℕ) Trap) → Given pairs (on_offsets (λ k j. Ok (Num (pos k -ℤ pos j))) r)
  between-given (Ok both) = tt
  between-given (Err t) = tt

  pub sum-given : (t : Ty) (a b : Value) → WasGiven pairs a → WasGiven pairs b → Given pairs (sum_of t a b)
  sum-given t (Num x) (Num y) g h = number-given t trap.Overflow (x +ℤ y)
  sum-given t (Num x) Null g h = at_pointer-given t (moved Null x) (moved-given Null x h)
  sum-given t (Num x) (Ptr o j) g h = at_pointer-given t (moved (Ptr o j) x) (moved-given (Ptr o j) x h)
  sum-given t (Num x) Free g h = at_pointer-given t (moved Free x) (moved-given Free x h)
  sum-given t (Num x) (Held y) g h = at_pointer-given t (moved (Held y) x) (moved-given (Held y) x h)
  sum-given t (Num x) Undef g h = at_pointer-given t (moved Undef x) (moved-given Undef x h)
  sum-given t Null (Num y) g h = at_pointer-given t (moved Null y) (moved-given Null y g)
  sum-given t Null Null g h = tt
  sum-given t Null (Ptr o j) g h = tt
  sum-given t Null Free g h = tt
  sum-given t Null (Held y) g h = tt
  sum-given t Null Undef g h = tt
  sum-given t (Ptr n i) (Num y) g h = at_pointer-given t (moved (Ptr n i) y) (moved-given (Ptr n i) y g)
  sum-given t (Ptr n i) Null g h = tt
  sum-given t (Ptr n i) (Ptr o j) g h = tt
  sum-given t (Ptr n i) Free g h = tt
  sum-given t (Ptr n i) (Held y) g h = tt
  sum-given t (Ptr n i) Undef g h = tt
  sum-given t Free (Num y) g h = at_pointer-given t (moved Free y) (moved-given Free y g)
  sum-given t Free Null g h = tt
  sum-given t Free (Ptr o j) g h = tt
  sum-given t Free Free g h = tt
  sum-given t Free (Held y) g h = tt
  sum-given t Free Undef g h = tt
  sum-given t (Held x) (Num y) g h = at_pointer-given t (moved (Held x) y) (moved-given (Held x) y g)
  sum-given t (Held x) Null g h = tt
  sum-given t (Held x) (Ptr o j) g h = tt
  sum-given t (Held x) Free g h = tt
  sum-given t (Held x) (Held y) g h = tt
  sum-given t (Held x) Undef g h = tt
  sum-given t Undef (Num y) g h = at_pointer-given t (moved Undef y) (moved-given Undef y g)
  sum-given t Undef Null g h = tt
  sum-given t Undef (Ptr o j) g h = tt
  sum-given t Undef Free g h = tt
  sum-given t Undef (Held y) g h = tt
  sum-given t Undef Undef g h = tt

  pub difference-given : (t : Ty) (a b : Value) → WasGiven pairs a → WasGiven pairs b → Given pairs (difference_of t a b)
  difference-given t (Num x) (Num y) g h = number-given t trap.Overflow (x -ℤ y)
  difference-given t (Num x) Null g h = at_long-given t (on_offsets (λ k j. Ok (Num (pos k -ℤ pos j))) (offsets (Num x) Null)) (between-given (offsets (Num x) Null))
  difference-given t (Num x) (Ptr o j) g h = at_long-given t (on_offsets (λ k j. Ok (Num (pos k -ℤ pos j))) (offsets (Num x) (Ptr o j))) (between-given (offsets (Num x) (Ptr o j)))
  difference-given t (Num x) Free g h = at_long-given t (on_offsets (λ k j. Ok (Num (pos k -ℤ pos j))) (offsets (Num x) Free)) (between-given (offsets (Num x) Free))
  difference-given t (Num x) (Held y) g h = at_long-given t (on_offsets (λ k j. Ok (Num (pos k -ℤ pos j))) (offsets (Num x) (Held y))) (between-given (offsets (Num x) (Held y)))
  difference-given t (Num x) Undef g h = at_long-given t (on_offsets (λ k j. Ok (Num (pos k -ℤ pos j))) (offsets (Num x) Undef)) (between-given (offsets (Num x) Undef))
  difference-given t Null (Num y) g h = at_pointer-given t (moved Null (pos 0 -ℤ y)) (moved-given Null (pos 0 -ℤ y) g)
  difference-given t Null Null g h = at_long-given t (on_offsets (λ k j. Ok (Num (pos k -ℤ pos j))) (offsets Null Null)) (between-given (offsets Null Null))
  difference-given t Null (Ptr o j) g h = at_long-given t (on_offsets (λ k j. Ok (Num (pos k -ℤ pos j))) (offsets Null (Ptr o j))) (between-given (offsets Null (Ptr o j)))
  difference-given t Null Free g h = at_long-given t (on_offsets (λ k j. Ok (Num (pos k -ℤ pos j))) (offsets Null Free)) (between-given (offsets Null Free))
  difference-given t Null (Held y) g h = at_long-given t (on_offsets (λ k j. Ok (Num (pos k -ℤ pos j))) (offsets Null (Held y))) (between-given (offsets Null (Held y)))
  difference-given t Null Undef g h = at_long-given t (on_offsets (λ k j. Ok (Num (pos k -ℤ pos j))) (offsets Null Undef)) (between-given (offsets Null Undef))
  difference-given t (Ptr n i) (Num y) g h = at_pointer-given t (moved (Ptr n i) (pos 0 -ℤ y)) (moved-given (Ptr n i) (pos 0 -ℤ y) g)
  difference-given t (Ptr n i) Null g h = at_long-given t (on_offsets (λ k j. Ok (Num (pos k -ℤ pos j))) (offsets (Ptr n i) Null)) (between-given (offsets (Ptr n i) Null))
  difference-given t (Ptr n i) (Ptr o j) g h = at_long-given t (on_offsets (λ k j. Ok (Num (pos k -ℤ pos j))) (offsets (Ptr n i) (Ptr o j))) (between-given (offsets (Ptr n i) (Ptr o j)))
  difference-given t (Ptr n i) Free g h = at_long-given t (on_offsets (λ k j. Ok (Num (pos k -ℤ pos j))) (offsets (Ptr n i) Free)) (between-given (offsets (Ptr n i) Free))
  difference-given t (Ptr n i) (Held y) g h = at_long-given t (on_offsets (λ k j. Ok (Num (pos k -ℤ pos j))) (offsets (Ptr n i) (Held y))) (between-given (offsets (Ptr n i) (Held y)))
  difference-given t (Ptr n i) Undef g h = at_long-given t (on_offsets (λ k j. Ok (Num (pos k -ℤ pos j))) (offsets (Ptr n i) Undef)) (between-given (offsets (Ptr n i) Undef))
  difference-given t Free (Num y) g h = at_pointer-given t (moved Free (pos 0 -ℤ y)) (moved-given Free (pos 0 -ℤ y) g)
  difference-given t Free Null g h = at_long-given t (on_offsets (λ k j. Ok (Num (pos k -ℤ pos j))) (offsets Free Null)) (between-given (offsets Free Null))
  difference-given t Free (Ptr o j) g h = at_long-given t (on_offsets (λ k j. Ok (Num (pos k -ℤ pos j))) (offsets Free (Ptr o j))) (between-given (offsets Free (Ptr o j)))
  difference-given t Free Free g h = at_long-given t (on_offsets (λ k j. Ok (Num (pos k -ℤ pos j))) (offsets Free Free)) (between-given (offsets Free Free))
  difference-given t Free (Held y) g h = at_long-given t (on_offsets (λ k j. Ok (Num (pos k -ℤ pos j))) (offsets Free (Held y))) (between-given (offsets Free (Held y)))
  difference-given t Free Undef g h = at_long-given t (on_offsets (λ k j. Ok (Num (pos k -ℤ pos j))) (offsets Free Undef)) (between-given (offsets Free Undef))
  difference-given t (Held x) (Num y) g h = at_pointer-given t (moved (Held x) (pos 0 -ℤ y)) (moved-given (Held x) (pos 0 -ℤ y) g)
  difference-given t (Held x) Null g h = at_long-given t (on_offsets (λ k j. Ok (Num (pos k -ℤ pos j))) (offsets (Held x) Null)) (between-given (offsets (Held x) Null))
  difference-given t (Held x) (Ptr o j) g h = at_long-given t (on_offsets (λ k j. Ok (Num (pos k -ℤ pos j))) (offsets (Held x) (Ptr o j))) (between-given (offsets (Held x) (Ptr o j)))
  difference-given t (Held x) Free g h = at_long-given t (on_offsets (λ k j. Ok (Num (pos k -ℤ pos j))) (offsets (Held x) Free)) (between-given (offsets (Held x) Free))
  difference-given t (Held x) (Held y) g h = at_long-given t (on_offsets (λ k j. Ok (Num (pos k -ℤ pos j))) (offsets (Held x) (Held y))) (between-given (offsets (Held x) (Held y)))
  difference-given t (Held x) Undef g h = at_long-given t (on_offsets (λ k j. Ok (Num (pos k -ℤ pos j))) (offsets (Held x) Undef)) (between-given (offsets (Held x) Undef))
  difference-given t Undef (Num y) g h = at_pointer-given t (moved Undef (pos 0 -ℤ y)) (moved-given Undef (pos 0 -ℤ y) g)
  difference-given t Undef Null g h = at_long-given t (on_offsets (λ k j. Ok (Num (pos k -ℤ pos j))) (offsets Undef Null)) (between-given (offsets Undef Null))
  difference-given t Undef (Ptr o j) g h = at_long-given t (on_offsets (λ k j. Ok (Num (pos k -ℤ pos j))) (offsets Undef (Ptr o j))) (between-given (offsets Undef (Ptr o j)))
  difference-given t Undef Free g h = at_long-given t (on_offsets (λ k j. Ok (Num (pos k -ℤ pos j))) (offsets Undef Free)) (between-given (offsets Undef Free))
  difference-given t Undef (Held y) g h = at_long-given t (on_offsets (λ k j. Ok (Num (pos k -ℤ pos j))) (offsets Undef (Held y))) (between-given (offsets Undef (Held y)))
  difference-given t Undef Undef g h = at_long-given t (on_offsets (λ k j. Ok (Num (pos k -ℤ pos j))) (offsets Undef Undef)) (between-given (offsets Undef Undef))

  pub numbers-given : (f : ℤ → ℤ → Result Value Trap) → ((x y : ℤ) → Given pairs (f x y)) → (a b : Value) → Given pairs (on_numbers f a b)
  numbers-given f each (Num x) (Num y) = each x y
  numbers-given f each (Num x) Null = tt
  numbers-given f each (Num x) (Ptr o j) = tt
  numbers-given f each (Num x) Free = tt
  numbers-given f each (Num x) (Held y) = tt
  numbers-given f each (Num x) Undef = tt
  numbers-given f each Null (Num y) = tt
  numbers-given f each Null Null = tt
  numbers-given f each Null (Ptr o j) = tt
  numbers-given f each Null Free = tt
  numbers-given f each Null (Held y) = tt
  numbers-given f each Null Undef = tt
  numbers-given f each (Ptr n i) (Num y) = tt
  numbers-given f each (Ptr n i) Null = tt
  numbers-given f each (Ptr n i) (Ptr o j) = tt
  numbers-given f each (Ptr n i) Free = tt
  numbers-given f each (Ptr n i) (Held y) = tt
  numbers-given f each (Ptr n i) Undef = tt
  numbers-given f each Free (Num y) = tt
  numbers-given f each Free Null = tt
  numbers-given f each Free (Ptr o j) = tt
  numbers-given f each Free Free = tt
  numbers-given f each Free (Held y) = tt
  numbers-given f each Free Undef = tt
  numbers-given f each (Held x) (Num y) = tt
  numbers-given f each (Held x) Null = tt
  numbers-given f each (Held x) (Ptr o j) = tt
  numbers-given f each (Held x) Free = tt
  numbers-given f each (Held x) (Held y) = tt
  numbers-given f each (Held x) Undef = tt
  numbers-given f each Undef (Num y) = tt
  numbers-given f each Undef Null = tt
  numbers-given f each Undef (Ptr o j) = tt
  numbers-given f each Undef Free = tt
  numbers-given f each Undef (Held y) = tt
  numbers-given f each Undef Undef = tt

  trap-or : (b : Bool) (t : Trap) (r : Result Value Trap) → Given pairs r → Given pairs (if b then Err t else r)
  trap-or true t r g = tt
  trap-or false t r g = g

  pub quotient-given : (t : Ty) (x y : ℤ) → Given pairs (quotient t x y)
  quotient-given t x y = trap-or (int_eq y (pos 0)) trap.Zero (number t trap.Overflow (int_div x y)) (number-given t trap.Overflow (int_div x y))

  pub and-given : (r s : Result Value Trap) → Given pairs s → Given pairs (result_and r s)
  and-given (Ok v) s g = g
  and-given (Err t) s g = tt

  pub narrowed-given : (t : Ty) (a : Value) → Given pairs (narrowed t a)
  narrowed-given t (Num z) = number-given t trap.Range z
  narrowed-given t Null = tt
  narrowed-given t (Ptr n i) = tt
  narrowed-given t Free = tt
  narrowed-given t (Held x) = tt
  narrowed-given t Undef = tt

  after-given : (p i : Value) (w : ℕ) → WasGiven pairs p → Given pairs (element_after p i w)
  after-given p (Num i) w g = moved-given p (i *ℤ pos w) g
  after-given p Null w g = tt
  after-given p (Ptr n i) w g = tt
  after-given p Free w g = tt
  after-given p (Held x) w g = tt
  after-given p Undef w g = tt

  pub before-given : (p i : Value) (w : ℕ) → WasGiven pairs p → Given pairs (element_before p i w)
  before-given p (Num i) w g = moved-given p (pos 0 -ℤ (i *ℤ pos w)) g
  before-given p Null w g = tt
  before-given p (Ptr n i) w g = tt
  before-given p Free w g = tt
  before-given p (Held x) w g = tt
  before-given p Undef w g = tt

  pub element_sum-given : (w : ℕ) (a b : Value) → WasGiven pairs a → WasGiven pairs b → Given pairs (element_sum w a b)
  element_sum-given w (Num i) b g h = after-given b (Num i) w h
  element_sum-given w Null b g h = after-given Null b w g
  element_sum-given w (Ptr n i) b g h = after-given (Ptr n i) b w g
  element_sum-given w Free b g h = after-given Free b w g
  element_sum-given w (Held x) b g h = after-given (Held x) b w g
  element_sum-given w Undef b g h = after-given Undef b w g

  pub elements-given : (w : ℕ) (r : Result (ℕ × ℕ) Trap) → Given pairs (on_offsets (λ k j. whole_elements w (pos k -ℤ pos j)) r)
  elements-given w (Ok both) =
      choice-given (int_eq (int_rem (pos both.0 -ℤ pos both.1) (pos w)) (pos 0)) (Num (int_div (pos both.0 -ℤ pos both.1) (pos w))) trap.Bounds tt
  elements-given w (Err t) = tt

  pub field-given : (types : Table) (fields : Option (List FieldDecl)) (i : ℕ) (p : Value) → WasGiven pairs p → Given pairs (field_place types fields i p)
  field-given types None i p g = tt
  field-given types (Some fields) i p g = moved-given p (pos (cells_before types fields i)) g
