-- Operations on values by heap number give the results by heap number, where the numbers keep different names different.
use Rattle.std.specs.Prelude.{◌≡◌, ℕ, zero, suc, ℤ, pos, negsuc, ◌+ℤ◌, ◌-ℤ◌, ◌*ℤ◌, int_div, int_rem, ◌^◌, nat_le, ◌==◌, ◌&&◌, Bool, true, false, List, [], ◌∷◌, map, Result, Ok, Err, slice_get, if◌then◌else◌, refl}
use Rattle.std.specs.Result.{result_and}
use Rattle.std.proofs.Common.{ap, ◌∙◌}
use Rattle.kt_types.specs.declared.kinds.Ty.{Ty}
use Rattle.kt_types.specs.declared.kinds.Ty.TheVariants as ty
use Rattle.kt_mem.specs.declared.memory.Name.{Name}
use Rattle.kt_mem.specs.declared.memory.Value.{Value}
use Rattle.kt_mem.specs.declared.memory.Value.TheVariants.{Num, Null, Ptr, Free, Held, Undef}
use Rattle.kt_mem.specs.declared.steps.Trap.{Trap}
use Rattle.kt_mem.specs.declared.steps.Trap.TheVariants as trap
use Rattle.kt_mem.specs.Arithmetic.{fits, number, place, moved, offsets, on_offsets, on_numbers, at_pointer, at_long, sum_of, difference_of, product_of, quotient, quotient_of, remainder_of, narrowed}
use Rattle.kt_mem.specs.Comparisons.{equality, zero_test, truth_of, falsehood_of, equal_value, not_equal_value, not_value, compared_numbers, compared, as_numbers}
use Rattle.kt_mem.specs.Elements.{element_after, element_before, whole_elements, elements_between}
use Rattle.kt_mem.specs.Values.{name_eq, int_eq, defined}
use Rattle.kt_meaning.specs.Operations.{element_sum}
use Rattle.kt_meaning.specs.Thread.{defined_if}
use Rattle.kt_mem.specs.Renaming.{Pairs, rename_name, rename_value, renamed}

-- of two values the names are one where they are by number
pub record Keeps (f : Pairs) (a b : Value) : Type 0 where
  pub same : (n o : Name) (i j : ℕ) → a ≡ Ptr n i → b ≡ Ptr o j → name_eq (rename_name (renamed f) n) (rename_name (renamed f) o) ≡ name_eq n o

-- what is given, renamed
abbrev pub rename_result : Pairs → Result Value Trap → Result Value Trap
rename_result f (Ok v) = Ok (rename_value (renamed f) v)
rename_result f (Err t) = Err t

-- ---- numbers have no names

choice-plain : (f : Pairs) (b : Bool) (z : ℤ) (t : Trap) →
    (if b then Ok (Num z) else Err t) ≡ rename_result f (if b then Ok (Num z) else Err t)
choice-plain f true z t = refl
choice-plain f false z t = refl

pub number-plain : (f : Pairs) (t : Ty) (e : Trap) (z : ℤ) → number t e z ≡ rename_result f (number t e z)
number-plain f ty.Char e z = choice-plain f (fits (2 ^ 7) z) z e
number-plain f ty.Int e z = choice-plain f (fits (2 ^ 31) z) z e
number-plain f ty.Long e z = choice-plain f (fits (2 ^ 63) z) z e
number-plain f ty.Mutex e z = refl
number-plain f (ty.Struct i) e z = refl
number-plain f (ty.Array i n) e z = refl
number-plain f (ty.Ptr i) e z = refl

pub truth_of-plain : (f : Pairs) (r : Result Bool Trap) → truth_of r ≡ rename_result f (truth_of r)
truth_of-plain f (Ok b) = refl
truth_of-plain f (Err t) = refl

pub falsehood_of-plain : (f : Pairs) (r : Result Bool Trap) → falsehood_of r ≡ rename_result f (falsehood_of r)
falsehood_of-plain f (Ok b) = refl
falsehood_of-plain f (Err t) = refl

pub compared-plain : (f : Pairs) (test : ℤ → ℤ → Bool) (r : Result (ℤ × ℤ) Trap) → compared test r ≡ rename_result f (compared test r)
compared-plain f test (Ok both) = refl
compared-plain f test (Err t) = refl

-- ---- names

offsets-keep : (f : Pairs) (p q : Value) → Keeps f p q → offsets (rename_value (renamed f) p) (rename_value (renamed f) q) ≡ offsets p q
offsets-keep f (Ptr n i) (Ptr o j) k = ap (λ b. if b then Ok (i, j) else Err trap.Bounds) (k.same n o i j refl refl)
offsets-keep f (Num x) (Num y) k = refl
offsets-keep f (Num x) Null k = refl
offsets-keep f (Num x) (Ptr o j) k = refl
offsets-keep f (Num x) Free k = refl
offsets-keep f (Num x) (Held y) k = refl
offsets-keep f (Num x) Undef k = refl
offsets-keep f Null (Num y) k = refl
offsets-keep f Null Null k = refl
offsets-keep f Null (Ptr o j) k = refl
offsets-keep f Null Free k = refl
offsets-keep f Null (Held y) k = refl
offsets-keep f Null Undef k = refl
offsets-keep f (Ptr n i) (Num y) k = refl
offsets-keep f (Ptr n i) Null k = refl
offsets-keep f (Ptr n i) Free k = refl
offsets-keep f (Ptr n i) (Held y) k = refl
offsets-keep f (Ptr n i) Undef k = refl
offsets-keep f Free (Num y) k = refl
offsets-keep f Free Null k = refl
offsets-keep f Free (Ptr o j) k = refl
offsets-keep f Free Free k = refl
offsets-keep f Free (Held y) k = refl
offsets-keep f Free Undef k = refl
offsets-keep f (Held x) (Num y) k = refl
offsets-keep f (Held x) Null k = refl
offsets-keep f (Held x) (Ptr o j) k = refl
offsets-keep f (Held x) Free k = refl
offsets-keep f (Held x) (Held y) k = refl
offsets-keep f (Held x) Undef k = refl
offsets-keep f Undef (Num y) k = refl
offsets-keep f Undef Null k = refl
offsets-keep f Undef (Ptr o j) k = refl
offsets-keep f Undef Free k = refl
offsets-keep f Undef (Held y) k = refl
offsets-keep f Undef Undef k = refl

pub equality-keeps : (f : Pairs) (p q : Value) → Keeps f p q → equality (rename_value (renamed f) p) (rename_value (renamed f) q) ≡ equality p q
equality-keeps f (Ptr n i) (Ptr o j) k = ap (λ b. Ok (b && (i == j))) (k.same n o i j refl refl)
equality-keeps f (Num x) (Num y) k = refl
equality-keeps f (Num x) Null k = refl
equality-keeps f (Num x) (Ptr o j) k = refl
equality-keeps f (Num x) Free k = refl
equality-keeps f (Num x) (Held y) k = refl
equality-keeps f (Num x) Undef k = refl
equality-keeps f Null (Num y) k = refl
equality-keeps f Null Null k = refl
equality-keeps f Null (Ptr o j) k = refl
equality-keeps f Null Free k = refl
equality-keeps f Null (Held y) k = refl
equality-keeps f Null Undef k = refl
equality-keeps f (Ptr n i) (Num y) k = refl
equality-keeps f (Ptr n i) Null k = refl
equality-keeps f (Ptr n i) Free k = refl
equality-keeps f (Ptr n i) (Held y) k = refl
equality-keeps f (Ptr n i) Undef k = refl
equality-keeps f Free (Num y) k = refl
equality-keeps f Free Null k = refl
equality-keeps f Free (Ptr o j) k = refl
equality-keeps f Free Free k = refl
equality-keeps f Free (Held y) k = refl
equality-keeps f Free Undef k = refl
equality-keeps f (Held x) (Num y) k = refl
equality-keeps f (Held x) Null k = refl
equality-keeps f (Held x) (Ptr o j) k = refl
equality-keeps f (Held x) Free k = refl
equality-keeps f (Held x) (Held y) k = refl
equality-keeps f (Held x) Undef k = refl
equality-keeps f Undef (Num y) k = refl
equality-keeps f Undef Null k = refl
equality-keeps f Undef (Ptr o j) k = refl
equality-keeps f Undef Free k = refl
equality-keeps f Undef (Held y) k = refl
equality-keeps f Undef Undef k = refl

pub compared_numbers-keep : (f : Pairs) (p q : Value) → Keeps f p q → compared_numbers (rename_value (renamed f) p) (rename_value (renamed f) q) ≡ compared_numbers p q
compared_numbers-keep f (Ptr n i) (Ptr o j) k = ap as_numbers (offsets-keep f (Ptr n i) (Ptr o j) k)
compared_numbers-keep f (Num x) (Num y) k = refl
compared_numbers-keep f (Num x) Null k = refl
compared_numbers-keep f (Num x) (Ptr o j) k = refl
compared_numbers-keep f (Num x) Free k = refl
compared_numbers-keep f (Num x) (Held y) k = refl
compared_numbers-keep f (Num x) Undef k = refl
compared_numbers-keep f Null (Num y) k = refl
compared_numbers-keep f Null Null k = refl
compared_numbers-keep f Null (Ptr o j) k = refl
compared_numbers-keep f Null Free k = refl
compared_numbers-keep f Null (Held y) k = refl
compared_numbers-keep f Null Undef k = refl
compared_numbers-keep f (Ptr n i) (Num y) k = refl
compared_numbers-keep f (Ptr n i) Null k = refl
compared_numbers-keep f (Ptr n i) Free k = refl
compared_numbers-keep f (Ptr n i) (Held y) k = refl
compared_numbers-keep f (Ptr n i) Undef k = refl
compared_numbers-keep f Free (Num y) k = refl
compared_numbers-keep f Free Null k = refl
compared_numbers-keep f Free (Ptr o j) k = refl
compared_numbers-keep f Free Free k = refl
compared_numbers-keep f Free (Held y) k = refl
compared_numbers-keep f Free Undef k = refl
compared_numbers-keep f (Held x) (Num y) k = refl
compared_numbers-keep f (Held x) Null k = refl
compared_numbers-keep f (Held x) (Ptr o j) k = refl
compared_numbers-keep f (Held x) Free k = refl
compared_numbers-keep f (Held x) (Held y) k = refl
compared_numbers-keep f (Held x) Undef k = refl
compared_numbers-keep f Undef (Num y) k = refl
compared_numbers-keep f Undef Null k = refl
compared_numbers-keep f Undef (Ptr o j) k = refl
compared_numbers-keep f Undef Free k = refl
compared_numbers-keep f Undef (Held y) k = refl
compared_numbers-keep f Undef Undef k = refl

pub zero_test-same : (f : Pairs) (v : Value) → zero_test (rename_value (renamed f) v) ≡ zero_test v
zero_test-same f (Num x) = refl
zero_test-same f Null = refl
zero_test-same f (Ptr n i) = refl
zero_test-same f Free = refl
zero_test-same f (Held x) = refl
zero_test-same f Undef = refl

-- ---- pointers

choice-place : (f : Pairs) (b : Bool) (n : Name) (k : ℕ) →
    (if b then Ok (Ptr (rename_name (renamed f) n) k) else Err trap.Bounds) ≡ rename_result f (if b then Ok (Ptr n k) else Err trap.Bounds)
choice-place f true n k = refl
choice-place f false n k = refl

place-renamed : (f : Pairs) (n : Name) (z : ℤ) → place (rename_name (renamed f) n) z ≡ rename_result f (place n z)
place-renamed f n (pos k) = choice-place f (nat_le k 65536) n k
place-renamed f n (negsuc k) = refl

pub moved-renamed : (f : Pairs) (p : Value) (d : ℤ) → moved (rename_value (renamed f) p) d ≡ rename_result f (moved p d)
moved-renamed f (Ptr n k) d = place-renamed f n (pos k +ℤ d)
moved-renamed f (Num x) d = refl
moved-renamed f Null d = refl
moved-renamed f Free d = refl
moved-renamed f (Held x) d = refl
moved-renamed f Undef d = refl

at_pointer-renamed : (f : Pairs) (t : Ty) (r s : Result Value Trap) → r ≡ rename_result f s → at_pointer t r ≡ rename_result f (at_pointer t s)
at_pointer-renamed f ty.Char r s e = refl
at_pointer-renamed f ty.Int r s e = refl
at_pointer-renamed f ty.Long r s e = refl
at_pointer-renamed f ty.Mutex r s e = refl
at_pointer-renamed f (ty.Struct i) r s e = refl
at_pointer-renamed f (ty.Array i n) r s e = refl
at_pointer-renamed f (ty.Ptr i) r s e = e

at_long-renamed : (f : Pairs) (t : Ty) (r s : Result Value Trap) → r ≡ rename_result f s → at_long t r ≡ rename_result f (at_long t s)
at_long-renamed f ty.Char r s e = refl
at_long-renamed f ty.Int r s e = refl
at_long-renamed f ty.Long r s e = e
at_long-renamed f ty.Mutex r s e = refl
at_long-renamed f (ty.Struct i) r s e = refl
at_long-renamed f (ty.Array i n) r s e = refl
at_long-renamed f (ty.Ptr i) r s e = refl

between-plain : (f : Pairs) (r : Result (ℕ × ℕ) Trap) →
    on_offsets (λ k j. Ok (Num (pos k -ℤ pos j))) r ≡ rename_result f (on_offsets (λ k j. Ok (Num (pos k -ℤ pos j))) r)
between-plain f (Ok both) = refl
between-plain f (Err t) = refl

cells-between : (f : Pairs) (p q : Value) → Keeps f p q → on_offsets (λ k j. Ok (Num (pos k -ℤ pos j))) (offsets (rename_value (renamed f) p) (rename_value (renamed f) q))
    ≡ rename_result f (on_offsets (λ k j. Ok (Num (pos k -ℤ pos j))) (offsets p q))
cells-between f p q k =
    ap (on_offsets (λ k j. Ok (Num (pos k -ℤ pos j)))) (offsets-keep f p q k) ∙ between-plain f (offsets p q)

-- ---- arithmetic

pub sum-renamed : (f : Pairs) (t : Ty) (a b : Value) → sum_of t (rename_value (renamed f) a) (rename_value (renamed f) b) ≡ rename_result f (sum_of t a b)
sum-renamed f t (Num x) (Num y) = number-plain f t trap.Overflow (x +ℤ y)
sum-renamed f t (Num x) Null = at_pointer-renamed f t (moved (rename_value (renamed f) Null) x) (moved Null x) (moved-renamed f Null x)
sum-renamed f t (Num x) (Ptr o j) = at_pointer-renamed f t (moved (rename_value (renamed f) (Ptr o j)) x) (moved (Ptr o j) x) (moved-renamed f (Ptr o j) x)
sum-renamed f t (Num x) Free = at_pointer-renamed f t (moved (rename_value (renamed f) Free) x) (moved Free x) (moved-renamed f Free x)
sum-renamed f t (Num x) (Held y) = at_pointer-renamed f t (moved (rename_value (renamed f) (Held y)) x) (moved (Held y) x) (moved-renamed f (Held y) x)
sum-renamed f t (Num x) Undef = at_pointer-renamed f t (moved (rename_value (renamed f) Undef) x) (moved Undef x) (moved-renamed f Undef x)
sum-renamed f t Null (Num y) = at_pointer-renamed f t (moved (rename_value (renamed f) Null) y) (moved Null y) (moved-renamed f Null y)
sum-renamed f t Null Null = refl
sum-renamed f t Null (Ptr o j) = refl
sum-renamed f t Null Free = refl
sum-renamed f t Null (Held y) = refl
sum-renamed f t Null Undef = refl
sum-renamed f t (Ptr n i) (Num y) = at_pointer-renamed f t (moved (rename_value (renamed f) (Ptr n i)) y) (moved (Ptr n i) y) (moved-renamed f (Ptr n i) y)
sum-renamed f t (Ptr n i) Null = refl
sum-renamed f t (Ptr n i) (Ptr o j) = refl
sum-renamed f t (Ptr n i) Free = refl
sum-renamed f t (Ptr n i) (Held y) = refl
sum-renamed f t (Ptr n i) Undef = refl
sum-renamed f t Free (Num y) = at_pointer-renamed f t (moved (rename_value (renamed f) Free) y) (moved Free y) (moved-renamed f Free y)
sum-renamed f t Free Null = refl
sum-renamed f t Free (Ptr o j) = refl
sum-renamed f t Free Free = refl
sum-renamed f t Free (Held y) = refl
sum-renamed f t Free Undef = refl
sum-renamed f t (Held x) (Num y) = at_pointer-renamed f t (moved (rename_value (renamed f) (Held x)) y) (moved (Held x) y) (moved-renamed f (Held x) y)
sum-renamed f t (Held x) Null = refl
sum-renamed f t (Held x) (Ptr o j) = refl
sum-renamed f t (Held x) Free = refl
sum-renamed f t (Held x) (Held y) = refl
sum-renamed f t (Held x) Undef = refl
sum-renamed f t Undef (Num y) = at_pointer-renamed f t (moved (rename_value (renamed f) Undef) y) (moved Undef y) (moved-renamed f Undef y)
sum-renamed f t Undef Null = refl
sum-renamed f t Undef (Ptr o j) = refl
sum-renamed f t Undef Free = refl
sum-renamed f t Undef (Held y) = refl
sum-renamed f t Undef Undef = refl

pub difference-renamed : (f : Pairs) (t : Ty) (a b : Value) → Keeps f a b →
    difference_of t (rename_value (renamed f) a) (rename_value (renamed f) b) ≡ rename_result f (difference_of t a b)
difference-renamed f t (Num x) (Num y) k = number-plain f t trap.Overflow (x -ℤ y)
difference-renamed f t (Num x) Null k = at_long-renamed f t (on_offsets (λ k j. Ok (Num (pos k -ℤ pos j))) (offsets (rename_value (renamed f) (Num x)) (rename_value (renamed f) Null))) (on_offsets (λ k j. Ok (Num (pos k -ℤ pos j))) (offsets (Num x) Null)) (cells-between f (Num x) Null k)
difference-renamed f t (Num x) (Ptr o j) k = at_long-renamed f t (on_offsets (λ k j. Ok (Num (pos k -ℤ pos j))) (offsets (rename_value (renamed f) (Num x)) (rename_value (renamed f) (Ptr o j)))) (on_offsets (λ k j. Ok (Num (pos k -ℤ pos j))) (offsets (Num x) (Ptr o j))) (cells-between f (Num x) (Ptr o j) k)
difference-renamed f t (Num x) Free k = at_long-renamed f t (on_offsets (λ k j. Ok (Num (pos k -ℤ pos j))) (offsets (rename_value (renamed f) (Num x)) (rename_value (renamed f) Free))) (on_offsets (λ k j. Ok (Num (pos k -ℤ pos j))) (offsets (Num x) Free)) (cells-between f (Num x) Free k)
difference-renamed f t (Num x) (Held y) k = at_long-renamed f t (on_offsets (λ k j. Ok (Num (pos k -ℤ pos j))) (offsets (rename_value (renamed f) (Num x)) (rename_value (renamed f) (Held y)))) (on_offsets (λ k j. Ok (Num (pos k -ℤ pos j))) (offsets (Num x) (Held y))) (cells-between f (Num x) (Held y) k)
difference-renamed f t (Num x) Undef k = at_long-renamed f t (on_offsets (λ k j. Ok (Num (pos k -ℤ pos j))) (offsets (rename_value (renamed f) (Num x)) (rename_value (renamed f) Undef))) (on_offsets (λ k j. Ok (Num (pos k -ℤ pos j))) (offsets (Num x) Undef)) (cells-between f (Num x) Undef k)
difference-renamed f t Null (Num y) k = at_pointer-renamed f t (moved (rename_value (renamed f) Null) (pos 0 -ℤ y)) (moved Null (pos 0 -ℤ y)) (moved-renamed f Null (pos 0 -ℤ y))
difference-renamed f t Null Null k = at_long-renamed f t (on_offsets (λ k j. Ok (Num (pos k -ℤ pos j))) (offsets (rename_value (renamed f) Null) (rename_value (renamed f) Null))) (on_offsets (λ k j. Ok (Num (pos k -ℤ pos j))) (offsets Null Null)) (cells-between f Null Null k)
difference-renamed f t Null (Ptr o j) k = at_long-renamed f t (on_offsets (λ k j. Ok (Num (pos k -ℤ pos j))) (offsets (rename_value (renamed f) Null) (rename_value (renamed f) (Ptr o j)))) (on_offsets (λ k j. Ok (Num (pos k -ℤ pos j))) (offsets Null (Ptr o j))) (cells-between f Null (Ptr o j) k)
difference-renamed f t Null Free k = at_long-renamed f t (on_offsets (λ k j. Ok (Num (pos k -ℤ pos j))) (offsets (rename_value (renamed f) Null) (rename_value (renamed f) Free))) (on_offsets (λ k j. Ok (Num (pos k -ℤ pos j))) (offsets Null Free)) (cells-between f Null Free k)
difference-renamed f t Null (Held y) k = at_long-renamed f t (on_offsets (λ k j. Ok (Num (pos k -ℤ pos j))) (offsets (rename_value (renamed f) Null) (rename_value (renamed f) (Held y)))) (on_offsets (λ k j. Ok (Num (pos k -ℤ pos j))) (offsets Null (Held y))) (cells-between f Null (Held y) k)
difference-renamed f t Null Undef k = at_long-renamed f t (on_offsets (λ k j. Ok (Num (pos k -ℤ pos j))) (offsets (rename_value (renamed f) Null) (rename_value (renamed f) Undef))) (on_offsets (λ k j. Ok (Num (pos k -ℤ pos j))) (offsets Null Undef)) (cells-between f Null Undef k)
difference-renamed f t (Ptr n i) (Num y) k = at_pointer-renamed f t (moved (rename_value (renamed f) (Ptr n i)) (pos 0 -ℤ y)) (moved (Ptr n i) (pos 0 -ℤ y)) (moved-renamed f (Ptr n i) (pos 0 -ℤ y))
difference-renamed f t (Ptr n i) Null k = at_long-renamed f t (on_offsets (λ k j. Ok (Num (pos k -ℤ pos j))) (offsets (rename_value (renamed f) (Ptr n i)) (rename_value (renamed f) Null))) (on_offsets (λ k j. Ok (Num (pos k -ℤ pos j))) (offsets (Ptr n i) Null)) (cells-between f (Ptr n i) Null k)
difference-renamed f t (Ptr n i) (Ptr o j) k = at_long-renamed f t (on_offsets (λ k j. Ok (Num (pos k -ℤ pos j))) (offsets (rename_value (renamed f) (Ptr n i)) (rename_value (renamed f) (Ptr o j)))) (on_offsets (λ k j. Ok (Num (pos k -ℤ pos j))) (offsets (Ptr n i) (Ptr o j))) (cells-between f (Ptr n i) (Ptr o j) k)
difference-renamed f t (Ptr n i) Free k = at_long-renamed f t (on_offsets (λ k j. Ok (Num (pos k -ℤ pos j))) (offsets (rename_value (renamed f) (Ptr n i)) (rename_value (renamed f) Free))) (on_offsets (λ k j. Ok (Num (pos k -ℤ pos j))) (offsets (Ptr n i) Free)) (cells-between f (Ptr n i) Free k)
difference-renamed f t (Ptr n i) (Held y) k = at_long-renamed f t (on_offsets (λ k j. Ok (Num (pos k -ℤ pos j))) (offsets (rename_value (renamed f) (Ptr n i)) (rename_value (renamed f) (Held y)))) (on_offsets (λ k j. Ok (Num (pos k -ℤ pos j))) (offsets (Ptr n i) (Held y))) (cells-between f (Ptr n i) (Held y) k)
difference-renamed f t (Ptr n i) Undef k = at_long-renamed f t (on_offsets (λ k j. Ok (Num (pos k -ℤ pos j))) (offsets (rename_value (renamed f) (Ptr n i)) (rename_value (renamed f) Undef))) (on_offsets (λ k j. Ok (Num (pos k -ℤ pos j))) (offsets (Ptr n i) Undef)) (cells-between f (Ptr n i) Undef k)
difference-renamed f t Free (Num y) k = at_pointer-renamed f t (moved (rename_value (renamed f) Free) (pos 0 -ℤ y)) (moved Free (pos 0 -ℤ y)) (moved-renamed f Free (pos 0 -ℤ y))
difference-renamed f t Free Null k = at_long-renamed f t (on_offsets (λ k j. Ok (Num (pos k -ℤ pos j))) (offsets (rename_value (renamed f) Free) (rename_value (renamed f) Null))) (on_offsets (λ k j. Ok (Num (pos k -ℤ pos j))) (offsets Free Null)) (cells-between f Free Null k)
difference-renamed f t Free (Ptr o j) k = at_long-renamed f t (on_offsets (λ k j. Ok (Num (pos k -ℤ pos j))) (offsets (rename_value (renamed f) Free) (rename_value (renamed f) (Ptr o j)))) (on_offsets (λ k j. Ok (Num (pos k -ℤ pos j))) (offsets Free (Ptr o j))) (cells-between f Free (Ptr o j) k)
difference-renamed f t Free Free k = at_long-renamed f t (on_offsets (λ k j. Ok (Num (pos k -ℤ pos j))) (offsets (rename_value (renamed f) Free) (rename_value (renamed f) Free))) (on_offsets (λ k j. Ok (Num (pos k -ℤ pos j))) (offsets Free Free)) (cells-between f Free Free k)
difference-renamed f t Free (Held y) k = at_long-renamed f t (on_offsets (λ k j. Ok (Num (pos k -ℤ pos j))) (offsets (rename_value (renamed f) Free) (rename_value (renamed f) (Held y)))) (on_offsets (λ k j. Ok (Num (pos k -ℤ pos j))) (offsets Free (Held y))) (cells-between f Free (Held y) k)
difference-renamed f t Free Undef k = at_long-renamed f t (on_offsets (λ k j. Ok (Num (pos k -ℤ pos j))) (offsets (rename_value (renamed f) Free) (rename_value (renamed f) Undef))) (on_offsets (λ k j. Ok (Num (pos k -ℤ pos j))) (offsets Free Undef)) (cells-between f Free Undef k)
difference-renamed f t (Held x) (Num y) k = at_pointer-renamed f t (moved (rename_value (renamed f) (Held x)) (pos 0 -ℤ y)) (moved (Held x) (pos 0 -ℤ y)) (moved-renamed f (Held x) (pos 0 -ℤ y))
difference-renamed f t (Held x) Null k = at_long-renamed f t (on_offsets (λ k j. Ok (Num (pos k -ℤ pos j))) (offsets (rename_value (renamed f) (Held x)) (rename_value (renamed f) Null))) (on_offsets (λ k j. Ok (Num (pos k -ℤ pos j))) (offsets (Held x) Null)) (cells-between f (Held x) Null k)
difference-renamed f t (Held x) (Ptr o j) k = at_long-renamed f t (on_offsets (λ k j. Ok (Num (pos k -ℤ pos j))) (offsets (rename_value (renamed f) (Held x)) (rename_value (renamed f) (Ptr o j)))) (on_offsets (λ k j. Ok (Num (pos k -ℤ pos j))) (offsets (Held x) (Ptr o j))) (cells-between f (Held x) (Ptr o j) k)
difference-renamed f t (Held x) Free k = at_long-renamed f t (on_offsets (λ k j. Ok (Num (pos k -ℤ pos j))) (offsets (rename_value (renamed f) (Held x)) (rename_value (renamed f) Free))) (on_offsets (λ k j. Ok (Num (pos k -ℤ pos j))) (offsets (Held x) Free)) (cells-between f (Held x) Free k)
difference-renamed f t (Held x) (Held y) k = at_long-renamed f t (on_offsets (λ k j. Ok (Num (pos k -ℤ pos j))) (offsets (rename_value (renamed f) (Held x)) (rename_value (renamed f) (Held y)))) (on_offsets (λ k j. Ok (Num (pos k -ℤ pos j))) (offsets (Held x) (Held y))) (cells-between f (Held x) (Held y) k)
difference-renamed f t (Held x) Undef k = at_long-renamed f t (on_offsets (λ k j. Ok (Num (pos k -ℤ pos j))) (offsets (rename_value (renamed f) (Held x)) (rename_value (renamed f) Undef))) (on_offsets (λ k j. Ok (Num (pos k -ℤ pos j))) (offsets (Held x) Undef)) (cells-between f (Held x) Undef k)
difference-renamed f t Undef (Num y) k = at_pointer-renamed f t (moved (rename_value (renamed f) Undef) (pos 0 -ℤ y)) (moved Undef (pos 0 -ℤ y)) (moved-renamed f Undef (pos 0 -ℤ y))
difference-renamed f t Undef Null k = at_long-renamed f t (on_offsets (λ k j. Ok (Num (pos k -ℤ pos j))) (offsets (rename_value (renamed f) Undef) (rename_value (renamed f) Null))) (on_offsets (λ k j. Ok (Num (pos k -ℤ pos j))) (offsets Undef Null)) (cells-between f Undef Null k)
difference-renamed f t Undef (Ptr o j) k = at_long-renamed f t (on_offsets (λ k j. Ok (Num (pos k -ℤ pos j))) (offsets (rename_value (renamed f) Undef) (rename_value (renamed f) (Ptr o j)))) (on_offsets (λ k j. Ok (Num (pos k -ℤ pos j))) (offsets Undef (Ptr o j))) (cells-between f Undef (Ptr o j) k)
difference-renamed f t Undef Free k = at_long-renamed f t (on_offsets (λ k j. Ok (Num (pos k -ℤ pos j))) (offsets (rename_value (renamed f) Undef) (rename_value (renamed f) Free))) (on_offsets (λ k j. Ok (Num (pos k -ℤ pos j))) (offsets Undef Free)) (cells-between f Undef Free k)
difference-renamed f t Undef (Held y) k = at_long-renamed f t (on_offsets (λ k j. Ok (Num (pos k -ℤ pos j))) (offsets (rename_value (renamed f) Undef) (rename_value (renamed f) (Held y)))) (on_offsets (λ k j. Ok (Num (pos k -ℤ pos j))) (offsets Undef (Held y))) (cells-between f Undef (Held y) k)
difference-renamed f t Undef Undef k = at_long-renamed f t (on_offsets (λ k j. Ok (Num (pos k -ℤ pos j))) (offsets (rename_value (renamed f) Undef) (rename_value (renamed f) Undef))) (on_offsets (λ k j. Ok (Num (pos k -ℤ pos j))) (offsets Undef Undef)) (cells-between f Undef Undef k)

pub numbers-renamed : (f : Pairs) (g : ℤ → ℤ → Result Value Trap) → ((x y : ℤ) → g x y ≡ rename_result f (g x y)) → (a b : Value) →
    on_numbers g (rename_value (renamed f) a) (rename_value (renamed f) b) ≡ rename_result f (on_numbers g a b)
numbers-renamed f g h (Num x) (Num y) = h x y
numbers-renamed f g h (Num x) Null = refl
numbers-renamed f g h (Num x) (Ptr o j) = refl
numbers-renamed f g h (Num x) Free = refl
numbers-renamed f g h (Num x) (Held y) = refl
numbers-renamed f g h (Num x) Undef = refl
numbers-renamed f g h Null (Num y) = refl
numbers-renamed f g h Null Null = refl
numbers-renamed f g h Null (Ptr o j) = refl
numbers-renamed f g h Null Free = refl
numbers-renamed f g h Null (Held y) = refl
numbers-renamed f g h Null Undef = refl
numbers-renamed f g h (Ptr n i) (Num y) = refl
numbers-renamed f g h (Ptr n i) Null = refl
numbers-renamed f g h (Ptr n i) (Ptr o j) = refl
numbers-renamed f g h (Ptr n i) Free = refl
numbers-renamed f g h (Ptr n i) (Held y) = refl
numbers-renamed f g h (Ptr n i) Undef = refl
numbers-renamed f g h Free (Num y) = refl
numbers-renamed f g h Free Null = refl
numbers-renamed f g h Free (Ptr o j) = refl
numbers-renamed f g h Free Free = refl
numbers-renamed f g h Free (Held y) = refl
numbers-renamed f g h Free Undef = refl
numbers-renamed f g h (Held x) (Num y) = refl
numbers-renamed f g h (Held x) Null = refl
numbers-renamed f g h (Held x) (Ptr o j) = refl
numbers-renamed f g h (Held x) Free = refl
numbers-renamed f g h (Held x) (Held y) = refl
numbers-renamed f g h (Held x) Undef = refl
numbers-renamed f g h Undef (Num y) = refl
numbers-renamed f g h Undef Null = refl
numbers-renamed f g h Undef (Ptr o j) = refl
numbers-renamed f g h Undef Free = refl
numbers-renamed f g h Undef (Held y) = refl
numbers-renamed f g h Undef Undef = refl

quotient-choice : (f : Pairs) (b : Bool) (r : Result Value Trap) → r ≡ rename_result f r →
    (if b then Err trap.Zero else r) ≡ rename_result f (if b then Err trap.Zero else r)
quotient-choice f true r e = refl
quotient-choice f false r e = e

pub quotient-plain : (f : Pairs) (t : Ty) (x y : ℤ) → quotient t x y ≡ rename_result f (quotient t x y)
quotient-plain f t x y = quotient-choice f (int_eq y (pos 0)) (number t trap.Overflow (int_div x y)) (number-plain f t trap.Overflow (int_div x y))

pub and-plain : (f : Pairs) (r s : Result Value Trap) → s ≡ rename_result f s → result_and r s ≡ rename_result f (result_and r s)
and-plain f (Ok v) s e = e
and-plain f (Err t) s e = refl

pub narrowed-renamed : (f : Pairs) (t : Ty) (a : Value) → narrowed t (rename_value (renamed f) a) ≡ rename_result f (narrowed t a)
narrowed-renamed f t (Num z) = number-plain f t trap.Range z
narrowed-renamed f t Null = refl
narrowed-renamed f t (Ptr n i) = refl
narrowed-renamed f t Free = refl
narrowed-renamed f t (Held x) = refl
narrowed-renamed f t Undef = refl

-- ---- elements

after-renamed : (f : Pairs) (p i : Value) (w : ℕ) → element_after (rename_value (renamed f) p) (rename_value (renamed f) i) w ≡ rename_result f (element_after p i w)
after-renamed f p (Num i) w = moved-renamed f p (i *ℤ pos w)
after-renamed f p Null w = refl
after-renamed f p (Ptr n i) w = refl
after-renamed f p Free w = refl
after-renamed f p (Held x) w = refl
after-renamed f p Undef w = refl

pub before-renamed : (f : Pairs) (p i : Value) (w : ℕ) → element_before (rename_value (renamed f) p) (rename_value (renamed f) i) w ≡ rename_result f (element_before p i w)
before-renamed f p (Num i) w = moved-renamed f p (pos 0 -ℤ (i *ℤ pos w))
before-renamed f p Null w = refl
before-renamed f p (Ptr n i) w = refl
before-renamed f p Free w = refl
before-renamed f p (Held x) w = refl
before-renamed f p Undef w = refl

pub element_sum-renamed : (f : Pairs) (w : ℕ) (a b : Value) → element_sum w (rename_value (renamed f) a) (rename_value (renamed f) b) ≡ rename_result f (element_sum w a b)
element_sum-renamed f w (Num i) b = after-renamed f b (Num i) w
element_sum-renamed f w Null b = after-renamed f Null b w
element_sum-renamed f w (Ptr n i) b = after-renamed f (Ptr n i) b w
element_sum-renamed f w Free b = after-renamed f Free b w
element_sum-renamed f w (Held x) b = after-renamed f (Held x) b w
element_sum-renamed f w Undef b = after-renamed f Undef b w

whole-choice : (f : Pairs) (b : Bool) (z : ℤ) → (if b then Ok (Num z) else Err trap.Bounds) ≡ rename_result f (if b then Ok (Num z) else Err trap.Bounds)
whole-choice f b z = choice-plain f b z trap.Bounds

elements-plain : (f : Pairs) (w : ℕ) (r : Result (ℕ × ℕ) Trap) →
    on_offsets (λ k j. whole_elements w (pos k -ℤ pos j)) r ≡ rename_result f (on_offsets (λ k j. whole_elements w (pos k -ℤ pos j)) r)
elements-plain f w (Ok both) =
    whole-choice f (int_eq (int_rem (pos both.0 -ℤ pos both.1) (pos w)) (pos 0)) (int_div (pos both.0 -ℤ pos both.1) (pos w))
elements-plain f w (Err t) = refl

pub elements-renamed : (f : Pairs) (p q : Value) (w : ℕ) → Keeps f p q →
    elements_between (rename_value (renamed f) p) (rename_value (renamed f) q) w ≡ rename_result f (elements_between p q w)
elements-renamed f p q w k =
    ap (on_offsets (λ k j. whole_elements w (pos k -ℤ pos j))) (offsets-keep f p q k) ∙ elements-plain f w (offsets p q)

-- ---- all operations

pub not-renamed : (f : Pairs) (a : Value) → not_value (rename_value (renamed f) a) ≡ rename_result f (not_value a)
not-renamed f a = ap truth_of (zero_test-same f a) ∙ truth_of-plain f (zero_test a)

pub defined-renamed : (f : Pairs) (v : Value) → defined (rename_value (renamed f) v) ≡ rename_result f (defined v)
defined-renamed f (Num x) = refl
defined-renamed f Null = refl
defined-renamed f (Ptr n i) = refl
defined-renamed f Free = refl
defined-renamed f (Held x) = refl
defined-renamed f Undef = refl

pub local-renamed : (f : Pairs) (vs : List Value) (n : ℕ) → defined_if (slice_get (map (rename_value (renamed f)) vs) n) ≡ rename_result f (defined_if (slice_get vs n))
local-renamed f [] n = refl
local-renamed f (v ∷ vs) zero = defined-renamed f v
local-renamed f (v ∷ vs) (suc n) = local-renamed f vs n

-- ---- the operations on two values

pub product-renamed : (f : Pairs) (t : Ty) (a b : Value) → product_of t (rename_value (renamed f) a) (rename_value (renamed f) b) ≡ rename_result f (product_of t a b)
product-renamed f t a b = numbers-renamed f (λ x y. number t trap.Overflow (x *ℤ y)) (λ x y. number-plain f t trap.Overflow (x *ℤ y)) a b

pub quotient-renamed : (f : Pairs) (t : Ty) (a b : Value) → quotient_of t (rename_value (renamed f) a) (rename_value (renamed f) b) ≡ rename_result f (quotient_of t a b)
quotient-renamed f t a b = numbers-renamed f (quotient t) (quotient-plain f t) a b

pub remainder-renamed : (f : Pairs) (t : Ty) (a b : Value) → remainder_of t (rename_value (renamed f) a) (rename_value (renamed f) b) ≡ rename_result f (remainder_of t a b)
remainder-renamed f t a b =
    numbers-renamed f (λ x y. result_and (quotient t x y) (number t trap.Overflow (int_rem x y)))
    (λ x y. and-plain f (quotient t x y) (number t trap.Overflow (int_rem x y)) (number-plain f t trap.Overflow (int_rem x y))) a b

pub equal-renamed : (f : Pairs) (a b : Value) → Keeps f a b → equal_value (rename_value (renamed f) a) (rename_value (renamed f) b) ≡ rename_result f (equal_value a b)
equal-renamed f a b k = ap truth_of (equality-keeps f a b k) ∙ truth_of-plain f (equality a b)

pub not_equal-renamed : (f : Pairs) (a b : Value) → Keeps f a b → not_equal_value (rename_value (renamed f) a) (rename_value (renamed f) b) ≡ rename_result f (not_equal_value a b)
not_equal-renamed f a b k = ap falsehood_of (equality-keeps f a b k) ∙ falsehood_of-plain f (equality a b)

-- an order
pub compared-renamed : (f : Pairs) (test : ℤ → ℤ → Bool) (a b : Value) → Keeps f a b →
    compared test (compared_numbers (rename_value (renamed f) a) (rename_value (renamed f) b)) ≡ rename_result f (compared test (compared_numbers a b))
compared-renamed f test a b k = ap (compared test) (compared_numbers-keep f a b k) ∙ compared-plain f test (compared_numbers a b)
