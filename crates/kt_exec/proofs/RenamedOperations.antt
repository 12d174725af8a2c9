-- Operations on renamed values give the renamed results, where the renaming keeps different names different.
use Rattle.std.specs.Prelude.{◌≡◌, ℕ, zero, suc, ℤ, pos, negsuc, ◌+ℤ◌, ◌-ℤ◌, ◌*ℤ◌, int_div, int_rem, ◌^◌, nat_le, ◌==◌, ◌&&◌, Bool, true, false, List, [], ◌∷◌, Result, Ok, Err, slice_get, if◌then◌else◌, refl}
use Rattle.std.specs.Result.{result_and}
use Rattle.std.proofs.Common.{ap, ◌∙◌}
use Rattle.kt_types.specs.declared.kinds.Ty.{Ty}
use Rattle.kt_types.specs.declared.kinds.Ty.TheVariants as ty
use Rattle.kt_mem.specs.declared.memory.Name.{Name}
use Rattle.kt_mem.specs.declared.memory.Name.TheVariants.{Glob, Lit, Heap}
use Rattle.kt_mem.specs.declared.memory.Value.{Value}
use Rattle.kt_mem.specs.declared.memory.Value.TheVariants.{Num, Null, Ptr, Free, Held, Undef}
use Rattle.kt_mem.specs.declared.steps.Trap.{Trap}
use Rattle.kt_mem.specs.declared.steps.Trap.TheVariants as trap
use Rattle.kt_mem.specs.Arithmetic.{fits, number, place, moved, offsets, on_offsets, on_numbers, at_pointer, at_long, sum_of, difference_of, product_of, quotient, quotient_of, remainder_of, narrowed}
use Rattle.kt_mem.specs.Comparisons.{equality, zero_test, truth_of, falsehood_of, equal_value, not_equal_value, not_value, compared_numbers, compared, as_numbers}
use Rattle.kt_mem.specs.Elements.{element_after, element_before, whole_elements, elements_between}
use Rattle.kt_mem.specs.Values.{name_eq, int_eq, defined}
use Rattle.kt_meaning.specs.Operations.{element_sum}
use Rattle.kt_meaning.specs.Thread.{defined_if}
use Rattle.kt_mem.specs.Renaming.{rename_name, rename_value, rename_values}

-- different names stay different
pub record Keeps (f : ℕ → ℕ) : Type 0 where
  pub same : (a b : ℕ) → (f a == f b) ≡ (a == b)

-- what is given, renamed
abbrev pub rename_result : (ℕ → ℕ) → Result Value Trap → Result Value Trap
rename_result f (Ok v) = Ok (rename_value f v)
rename_result f (Err t) = Err t

-- ---- numbers have no names

choice-plain : (f : ℕ → ℕ) (b : Bool) (z : ℤ) (t : Trap) →
    (if b then Ok (Num z) else Err t) ≡ rename_result f (if b then Ok (Num z) else Err t)
choice-plain f true z t = refl
choice-plain f false z t = refl

pub number-plain : (f : ℕ → ℕ) (t : Ty) (e : Trap) (z : ℤ) → number t e z ≡ rename_result f (number t e z)
number-plain f ty.Char e z = choice-plain f (fits (2 ^ 7) z) z e
number-plain f ty.Int e z = choice-plain f (fits (2 ^ 31) z) z e
number-plain f ty.Long e z = choice-plain f (fits (2 ^ 63) z) z e
number-plain f ty.Mutex e z = refl
number-plain f (ty.Struct i) e z = refl
number-plain f (ty.Array i n) e z = refl
number-plain f (ty.Ptr i) e z = refl

pub truth_of-plain : (f : ℕ → ℕ) (r : Result Bool Trap) → truth_of r ≡ rename_result f (truth_of r)
truth_of-plain f (Ok b) = refl
truth_of-plain f (Err t) = refl

pub falsehood_of-plain : (f : ℕ → ℕ) (r : Result Bool Trap) → falsehood_of r ≡ rename_result f (falsehood_of r)
falsehood_of-plain f (Ok b) = refl
falsehood_of-plain f (Err t) = refl

pub compared-plain : (f : ℕ → ℕ) (test : ℤ → ℤ → Bool) (r : Result (ℤ × ℤ) Trap) → compared test r ≡ rename_result f (compared test r)
compared-plain f test (Ok both) = refl
compared-plain f test (Err t) = refl

-- ---- names

name_eq-keeps : (f : ℕ → ℕ) → Keeps f → (n o : Name) → name_eq (rename_name f n) (rename_name f o) ≡ name_eq n o
name_eq-keeps f k (Glob i) (Glob j) = refl
name_eq-keeps f k (Glob i) (Lit v j) = refl
name_eq-keeps f k (Glob i) (Heap b) = refl
name_eq-keeps f k (Lit v i) (Glob j) = refl
name_eq-keeps f k (Lit v i) (Lit w j) = refl
name_eq-keeps f k (Lit v i) (Heap b) = refl
name_eq-keeps f k (Heap a) (Glob j) = refl
name_eq-keeps f k (Heap a) (Lit v j) = refl
name_eq-keeps f k (Heap a) (Heap b) = k.same a b

offsets-keep : (f : ℕ → ℕ) → Keeps f → (p q : Value) → offsets (rename_value f p) (rename_value f q) ≡ offsets p q
offsets-keep f k (Ptr n i) (Ptr o j) = ap (λ b. if b then Ok (i, j) else Err trap.Bounds) (name_eq-keeps f k n o)
offsets-keep f k (Num x) (Num y) = refl
offsets-keep f k (Num x) Null = refl
offsets-keep f k (Num x) (Ptr o j) = refl
offsets-keep f k (Num x) Free = refl
offsets-keep f k (Num x) (Held y) = refl
offsets-keep f k (Num x) Undef = refl
offsets-keep f k Null (Num y) = refl
offsets-keep f k Null Null = refl
offsets-keep f k Null (Ptr o j) = refl
offsets-keep f k Null Free = refl
offsets-keep f k Null (Held y) = refl
offsets-keep f k Null Undef = refl
offsets-keep f k (Ptr n i) (Num y) = refl
offsets-keep f k (Ptr n i) Null = refl
offsets-keep f k (Ptr n i) Free = refl
offsets-keep f k (Ptr n i) (Held y) = refl
offsets-keep f k (Ptr n i) Undef = refl
offsets-keep f k Free (Num y) = refl
offsets-keep f k Free Null = refl
offsets-keep f k Free (Ptr o j) = refl
offsets-keep f k Free Free = refl
offsets-keep f k Free (Held y) = refl
offsets-keep f k Free Undef = refl
offsets-keep f k (Held x) (Num y) = refl
offsets-keep f k (Held x) Null = refl
offsets-keep f k (Held x) (Ptr o j) = refl
offsets-keep f k (Held x) Free = refl
offsets-keep f k (Held x) (Held y) = refl
offsets-keep f k (Held x) Undef = refl
offsets-keep f k Undef (Num y) = refl
offsets-keep f k Undef Null = refl
offsets-keep f k Undef (Ptr o j) = refl
offsets-keep f k Undef Free = refl
offsets-keep f k Undef (Held y) = refl
offsets-keep f k Undef Undef = refl

pub equality-keeps : (f : ℕ → ℕ) → Keeps f → (p q : Value) → equality (rename_value f p) (rename_value f q) ≡ equality p q
equality-keeps f k (Ptr n i) (Ptr o j) = ap (λ b. Ok (b && (i == j))) (name_eq-keeps f k n o)
equality-keeps f k (Num x) (Num y) = refl
equality-keeps f k (Num x) Null = refl
equality-keeps f k (Num x) (Ptr o j) = refl
equality-keeps f k (Num x) Free = refl
equality-keeps f k (Num x) (Held y) = refl
equality-keeps f k (Num x) Undef = refl
equality-keeps f k Null (Num y) = refl
equality-keeps f k Null Null = refl
equality-keeps f k Null (Ptr o j) = refl
equality-keeps f k Null Free = refl
equality-keeps f k Null (Held y) = refl
equality-keeps f k Null Undef = refl
equality-keeps f k (Ptr n i) (Num y) = refl
equality-keeps f k (Ptr n i) Null = refl
equality-keeps f k (Ptr n i) Free = refl
equality-keeps f k (Ptr n i) (Held y) = refl
equality-keeps f k (Ptr n i) Undef = refl
equality-keeps f k Free (Num y) = refl
equality-keeps f k Free Null = refl
equality-keeps f k Free (Ptr o j) = refl
equality-keeps f k Free Free = refl
equality-keeps f k Free (Held y) = refl
equality-keeps f k Free Undef = refl
equality-keeps f k (Held x) (Num y) = refl
equality-keeps f k (Held x) Null = refl
equality-keeps f k (Held x) (Ptr o j) = refl
equality-keeps f k (Held x) Free = refl
equality-keeps f k (Held x) (Held y) = refl
equality-keeps f k (Held x) Undef = refl
equality-keeps f k Undef (Num y) = refl
equality-keeps f k Undef Null = refl
equality-keeps f k Undef (Ptr o j) = refl
equality-keeps f k Undef Free = refl
equality-keeps f k Undef (Held y) = refl
equality-keeps f k Undef Undef = refl

pub compared_numbers-keep : (f : ℕ → ℕ) → Keeps f → (p q : Value) → compared_numbers (rename_value f p) (rename_value f q) ≡ compared_numbers p q
compared_numbers-keep f k (Ptr n i) (Ptr o j) = ap as_numbers (offsets-keep f k (Ptr n i) (Ptr o j))
compared_numbers-keep f k (Num x) (Num y) = refl
compared_numbers-keep f k (Num x) Null = refl
compared_numbers-keep f k (Num x) (Ptr o j) = refl
compared_numbers-keep f k (Num x) Free = refl
compared_numbers-keep f k (Num x) (Held y) = refl
compared_numbers-keep f k (Num x) Undef = refl
compared_numbers-keep f k Null (Num y) = refl
compared_numbers-keep f k Null Null = refl
compared_numbers-keep f k Null (Ptr o j) = refl
compared_numbers-keep f k Null Free = refl
compared_numbers-keep f k Null (Held y) = refl
compared_numbers-keep f k Null Undef = refl
compared_numbers-keep f k (Ptr n i) (Num y) = refl
compared_numbers-keep f k (Ptr n i) Null = refl
compared_numbers-keep f k (Ptr n i) Free = refl
compared_numbers-keep f k (Ptr n i) (Held y) = refl
compared_numbers-keep f k (Ptr n i) Undef = refl
compared_numbers-keep f k Free (Num y) = refl
compared_numbers-keep f k Free Null = refl
compared_numbers-keep f k Free (Ptr o j) = refl
compared_numbers-keep f k Free Free = refl
compared_numbers-keep f k Free (Held y) = refl
compared_numbers-keep f k Free Undef = refl
compared_numbers-keep f k (Held x) (Num y) = refl
compared_numbers-keep f k (Held x) Null = refl
compared_numbers-keep f k (Held x) (Ptr o j) = refl
compared_numbers-keep f k (Held x) Free = refl
compared_numbers-keep f k (Held x) (Held y) = refl
compared_numbers-keep f k (Held x) Undef = refl
compared_numbers-keep f k Undef (Num y) = refl
compared_numbers-keep f k Undef Null = refl
compared_numbers-keep f k Undef (Ptr o j) = refl
compared_numbers-keep f k Undef Free = refl
compared_numbers-keep f k Undef (Held y) = refl
compared_numbers-keep f k Undef Undef = refl

pub zero_test-same : (f : ℕ → ℕ) (v : Value) → zero_test (rename_value f v) ≡ zero_test v
zero_test-same f (Num x) = refl
zero_test-same f Null = refl
zero_test-same f (Ptr n i) = refl
zero_test-same f Free = refl
zero_test-same f (Held x) = refl
zero_test-same f Undef = refl

-- ---- pointers

choice-place : (f : ℕ → ℕ) (b : Bool) (n : Name) (k : ℕ) →
    (if b then Ok (Ptr (rename_name f n) k) else Err trap.Bounds) ≡ rename_result f (if b then Ok (Ptr n k) else Err trap.Bounds)
choice-place f true n k = refl
choice-place f false n k = refl

place-renamed : (f : ℕ → ℕ) (n : Name) (z : ℤ) → place (rename_name f n) z ≡ rename_result f (place n z)
place-renamed f n (pos k) = choice-place f (nat_le k 65536) n k
place-renamed f n (negsuc k) = refl

pub moved-renamed : (f : ℕ → ℕ) (p : Value) (d : ℤ) → moved (rename_value f p) d ≡ rename_result f (moved p d)
moved-renamed f (Ptr n k) d = place-renamed f n (pos k +ℤ d)
moved-renamed f (Num x) d = refl
moved-renamed f Null d = refl
moved-renamed f Free d = refl
moved-renamed f (Held x) d = refl
moved-renamed f Undef d = refl

at_pointer-renamed : (f : ℕ → ℕ) (t : Ty) (r s : Result Value Trap) → r ≡ rename_result f s → at_pointer t r ≡ rename_result f (at_pointer t s)
at_pointer-renamed f ty.Char r s e = refl
at_pointer-renamed f ty.Int r s e = refl
at_pointer-renamed f ty.Long r s e = refl
at_pointer-renamed f ty.Mutex r s e = refl
at_pointer-renamed f (ty.Struct i) r s e = refl
at_pointer-renamed f (ty.Array i n) r s e = refl
at_pointer-renamed f (ty.Ptr i) r s e = e

at_long-renamed : (f : ℕ → ℕ) (t : Ty) (r s : Result Value Trap) → r ≡ rename_result f s → at_long t r ≡ rename_result f (at_long t s)
at_long-renamed f ty.Char r s e = refl
at_long-renamed f ty.Int r s e = refl
at_long-renamed f ty.Long r s e = e
at_long-renamed f ty.Mutex r s e = refl
at_long-renamed f (ty.Struct i) r s e = refl
at_long-renamed f (ty.Array i n) r s e = refl
at_long-renamed f (ty.Ptr i) r s e = refl

between-plain : (f : ℕ → ℕ) (r : Result (ℕ × ℕ) Trap) →
    on_offsets (λ k j. Ok (Num (pos k -ℤ pos j))) r ≡ rename_result f (on_offsets (λ k j. Ok (Num (pos k -ℤ pos j))) r)
between-plain f (Ok both) = refl
between-plain f (Err t) = refl

cells-between : (f : ℕ → ℕ) → Keeps f → (p q : Value) → on_offsets (λ k j. Ok (Num (pos k -ℤ pos j))) (offsets (rename_value f p) (rename_value f q))
    ≡ rename_result f (on_offsets (λ k j. Ok (Num (pos k -ℤ pos j))) (offsets p q))
cells-between f k p q =
    ap (on_offsets (λ k j. Ok (Num (pos k -ℤ pos j)))) (offsets-keep f k p q) ∙ between-plain f (offsets p q)

-- ---- arithmetic

pub sum-renamed : (f : ℕ → ℕ) (t : Ty) (a b : Value) → sum_of t (rename_value f a) (rename_value f b) ≡ rename_result f (sum_of t a b)
sum-renamed f t (Num x) (Num y) = number-plain f t trap.Overflow (x +ℤ y)
sum-renamed f t (Num x) Null = at_pointer-renamed f t (moved (rename_value f Null) x) (moved Null x) (moved-renamed f Null x)
sum-renamed f t (Num x) (Ptr o j) = at_pointer-renamed f t (moved (rename_value f (Ptr o j)) x) (moved (Ptr o j) x) (moved-renamed f (Ptr o j) x)
sum-renamed f t (Num x) Free = at_pointer-renamed f t (moved (rename_value f Free) x) (moved Free x) (moved-renamed f Free x)
sum-renamed f t (Num x) (Held y) = at_pointer-renamed f t (moved (rename_value f (Held y)) x) (moved (Held y) x) (moved-renamed f (Held y) x)
sum-renamed f t (Num x) Undef = at_pointer-renamed f t (moved (rename_value f Undef) x) (moved Undef x) (moved-renamed f Undef x)
sum-renamed f t Null (Num y) = at_pointer-renamed f t (moved (rename_value f Null) y) (moved Null y) (moved-renamed f Null y)
sum-renamed f t Null Null = refl
sum-renamed f t Null (Ptr o j) = refl
sum-renamed f t Null Free = refl
sum-renamed f t Null (Held y) = refl
sum-renamed f t Null Undef = refl
sum-renamed f t (Ptr n i) (Num y) = at_pointer-renamed f t (moved (rename_value f (Ptr n i)) y) (moved (Ptr n i) y) (moved-renamed f (Ptr n i) y)
sum-renamed f t (Ptr n i) Null = refl
sum-renamed f t (Ptr n i) (Ptr o j) = refl
sum-renamed f t (Ptr n i) Free = refl
sum-renamed f t (Ptr n i) (Held y) = refl
sum-renamed f t (Ptr n i) Undef = refl
sum-renamed f t Free (Num y) = at_pointer-renamed f t (moved (rename_value f Free) y) (moved Free y) (moved-renamed f Free y)
sum-renamed f t Free Null = refl
sum-renamed f t Free (Ptr o j) = refl
sum-renamed f t Free Free = refl
sum-renamed f t Free (Held y) = refl
sum-renamed f t Free Undef = refl
sum-renamed f t (Held x) (Num y) = at_pointer-renamed f t (moved (rename_value f (Held x)) y) (moved (Held x) y) (moved-renamed f (Held x) y)
sum-renamed f t (Held x) Null = refl
sum-renamed f t (Held x) (Ptr o j) = refl
sum-renamed f t (Held x) Free = refl
sum-renamed f t (Held x) (Held y) = refl
sum-renamed f t (Held x) Undef = refl
sum-renamed f t Undef (Num y) = at_pointer-renamed f t (moved (rename_value f Undef) y) (moved Undef y) (moved-renamed f Undef y)
sum-renamed f t Undef Null = refl
sum-renamed f t Undef (Ptr o j) = refl
sum-renamed f t Undef Free = refl
sum-renamed f t Undef (Held y) = refl
sum-renamed f t Undef Undef = refl

pub difference-renamed : (f : ℕ → ℕ) → Keeps f → (t : Ty) (a b : Value) →
    difference_of t (rename_value f a) (rename_value f b) ≡ rename_result f (difference_of t a b)
difference-renamed f k t (Num x) (Num y) = number-plain f t trap.Overflow (x -ℤ y)
difference-renamed f k t (Num x) Null = at_long-renamed f t (on_offsets (λ k j. Ok (Num (pos k -ℤ pos j))) (offsets (rename_value f (Num x)) (rename_value f Null))) (on_offsets (λ k j. Ok (Num (pos k -ℤ pos j))) (offsets (Num x) Null)) (cells-between f k (Num x) Null)
difference-renamed f k t (Num x) (Ptr o j) = at_long-renamed f t (on_offsets (λ k j. Ok (Num (pos k -ℤ pos j))) (offsets (rename_value f (Num x)) (rename_value f (Ptr o j)))) (on_offsets (λ k j. Ok (Num (pos k -ℤ pos j))) (offsets (Num x) (Ptr o j))) (cells-between f k (Num x) (Ptr o j))
difference-renamed f k t (Num x) Free = at_long-renamed f t (on_offsets (λ k j. Ok (Num (pos k -ℤ pos j))) (offsets (rename_value f (Num x)) (rename_value f Free))) (on_offsets (λ k j. Ok (Num (pos k -ℤ pos j))) (offsets (Num x) Free)) (cells-between f k (Num x) Free)
difference-renamed f k t (Num x) (Held y) = at_long-renamed f t (on_offsets (λ k j. Ok (Num (pos k -ℤ pos j))) (offsets (rename_value f (Num x)) (rename_value f (Held y)))) (on_offsets (λ k j. Ok (Num (pos k -ℤ pos j))) (offsets (Num x) (Held y))) (cells-between f k (Num x) (Held y))
difference-renamed f k t (Num x) Undef = at_long-renamed f t (on_offsets (λ k j. Ok (Num (pos k -ℤ pos j))) (offsets (rename_value f (Num x)) (rename_value f Undef))) (on_offsets (λ k j. Ok (Num (pos k -ℤ pos j))) (offsets (Num x) Undef)) (cells-between f k (Num x) Undef)
difference-renamed f k t Null (Num y) = at_pointer-renamed f t (moved (rename_value f Null) (pos 0 -ℤ y)) (moved Null (pos 0 -ℤ y)) (moved-renamed f Null (pos 0 -ℤ y))
difference-renamed f k t Null Null = at_long-renamed f t (on_offsets (λ k j. Ok (Num (pos k -ℤ pos j))) (offsets (rename_value f Null) (rename_value f Null))) (on_offsets (λ k j. Ok (Num (pos k -ℤ pos j))) (offsets Null Null)) (cells-between f k Null Null)
difference-renamed f k t Null (Ptr o j) = at_long-renamed f t (on_offsets (λ k j. Ok (Num (pos k -ℤ pos j))) (offsets (rename_value f Null) (rename_value f (Ptr o j)))) (on_offsets (λ k j. Ok (Num (pos k -ℤ pos j))) (offsets Null (Ptr o j))) (cells-between f k Null (Ptr o j))
difference-renamed f k t Null Free = at_long-renamed f t (on_offsets (λ k j. Ok (Num (pos k -ℤ pos j))) (offsets (rename_value f Null) (rename_value f Free))) (on_offsets (λ k j. Ok (Num (pos k -ℤ pos j))) (offsets Null Free)) (cells-between f k Null Free)
difference-renamed f k t Null (Held y) = at_long-renamed f t (on_offsets (λ k j. Ok (Num (pos k -ℤ pos j))) (offsets (rename_value f Null) (rename_value f (Held y)))) (on_offsets (λ k j. Ok (Num (pos k -ℤ pos j))) (offsets Null (Held y))) (cells-between f k Null (Held y))
difference-renamed f k t Null Undef = at_long-renamed f t (on_offsets (λ k j. Ok (Num (pos k -ℤ pos j))) (offsets (rename_value f Null) (rename_value f Undef))) (on_offsets (λ k j. Ok (Num (pos k -ℤ pos j))) (offsets Null Undef)) (cells-between f k Null Undef)
difference-renamed f k t (Ptr n i) (Num y) = at_pointer-renamed f t (moved (rename_value f (Ptr n i)) (pos 0 -ℤ y)) (moved (Ptr n i) (pos 0 -ℤ y)) (moved-renamed f (Ptr n i) (pos 0 -ℤ y))
difference-renamed f k t (Ptr n i) Null = at_long-renamed f t (on_offsets (λ k j. Ok (Num (pos k -ℤ pos j))) (offsets (rename_value f (Ptr n i)) (rename_value f Null))) (on_offsets (λ k j. Ok (Num (pos k -ℤ pos j))) (offsets (Ptr n i) Null)) (cells-between f k (Ptr n i) Null)
difference-renamed f k t (Ptr n i) (Ptr o j) = at_long-renamed f t (on_offsets (λ k j. Ok (Num (pos k -ℤ pos j))) (offsets (rename_value f (Ptr n i)) (rename_value f (Ptr o j)))) (on_offsets (λ k j. Ok (Num (pos k -ℤ pos j))) (offsets (Ptr n i) (Ptr o j))) (cells-between f k (Ptr n i) (Ptr o j))
difference-renamed f k t (Ptr n i) Free = at_long-renamed f t (on_offsets (λ k j. Ok (Num (pos k -ℤ pos j))) (offsets (rename_value f (Ptr n i)) (rename_value f Free))) (on_offsets (λ k j. Ok (Num (pos k -ℤ pos j))) (offsets (Ptr n i) Free)) (cells-between f k (Ptr n i) Free)
difference-renamed f k t (Ptr n i) (Held y) = at_long-renamed f t (on_offsets (λ k j. Ok (Num (pos k -ℤ pos j))) (offsets (rename_value f (Ptr n i)) (rename_value f (Held y)))) (on_offsets (λ k j. Ok (Num (pos k -ℤ pos j))) (offsets (Ptr n i) (Held y))) (cells-between f k (Ptr n i) (Held y))
difference-renamed f k t (Ptr n i) Undef = at_long-renamed f t (on_offsets (λ k j. Ok (Num (pos k -ℤ pos j))) (offsets (rename_value f (Ptr n i)) (rename_value f Undef))) (on_offsets (λ k j. Ok (Num (pos k -ℤ pos j))) (offsets (Ptr n i) Undef)) (cells-between f k (Ptr n i) Undef)
difference-renamed f k t Free (Num y) = at_pointer-renamed f t (moved (rename_value f Free) (pos 0 -ℤ y)) (moved Free (pos 0 -ℤ y)) (moved-renamed f Free (pos 0 -ℤ y))
difference-renamed f k t Free Null = at_long-renamed f t (on_offsets (λ k j. Ok (Num (pos k -ℤ pos j))) (offsets (rename_value f Free) (rename_value f Null))) (on_offsets (λ k j. Ok (Num (pos k -ℤ pos j))) (offsets Free Null)) (cells-between f k Free Null)
difference-renamed f k t Free (Ptr o j) = at_long-renamed f t (on_offsets (λ k j. Ok (Num (pos k -ℤ pos j))) (offsets (rename_value f Free) (rename_value f (Ptr o j)))) (on_offsets (λ k j. Ok (Num (pos k -ℤ pos j))) (offsets Free (Ptr o j))) (cells-between f k Free (Ptr o j))
difference-renamed f k t Free Free = at_long-renamed f t (on_offsets (λ k j. Ok (Num (pos k -ℤ pos j))) (offsets (rename_value f Free) (rename_value f Free))) (on_offsets (λ k j. Ok (Num (pos k -ℤ pos j))) (offsets Free Free)) (cells-between f k Free Free)
difference-renamed f k t Free (Held y) = at_long-renamed f t (on_offsets (λ k j. Ok (Num (pos k -ℤ pos j))) (offsets (rename_value f Free) (rename_value f (Held y)))) (on_offsets (λ k j. Ok (Num (pos k -ℤ pos j))) (offsets Free (Held y))) (cells-between f k Free (Held y))
difference-renamed f k t Free Undef = at_long-renamed f t (on_offsets (λ k j. Ok (Num (pos k -ℤ pos j))) (offsets (rename_value f Free) (rename_value f Undef))) (on_offsets (λ k j. Ok (Num (pos k -ℤ pos j))) (offsets Free Undef)) (cells-between f k Free Undef)
difference-renamed f k t (Held x) (Num y) = at_pointer-renamed f t (moved (rename_value f (Held x)) (pos 0 -ℤ y)) (moved (Held x) (pos 0 -ℤ y)) (moved-renamed f (Held x) (pos 0 -ℤ y))
difference-renamed f k t (Held x) Null = at_long-renamed f t (on_offsets (λ k j. Ok (Num (pos k -ℤ pos j))) (offsets (rename_value f (Held x)) (rename_value f Null))) (on_offsets (λ k j. Ok (Num (pos k -ℤ pos j))) (offsets (Held x) Null)) (cells-between f k (Held x) Null)
difference-renamed f k t (Held x) (Ptr o j) = at_long-renamed f t (on_offsets (λ k j. Ok (Num (pos k -ℤ pos j))) (offsets (rename_value f (Held x)) (rename_value f (Ptr o j)))) (on_offsets (λ k j. Ok (Num (pos k -ℤ pos j))) (offsets (Held x) (Ptr o j))) (cells-between f k (Held x) (Ptr o j))
difference-renamed f k t (Held x) Free = at_long-renamed f t (on_offsets (λ k j. Ok (Num (pos k -ℤ pos j))) (offsets (rename_value f (Held x)) (rename_value f Free))) (on_offsets (λ k j. Ok (Num (pos k -ℤ pos j))) (offsets (Held x) Free)) (cells-between f k (Held x) Free)
difference-renamed f k t (Held x) (Held y) = at_long-renamed f t (on_offsets (λ k j. Ok (Num (pos k -ℤ pos j))) (offsets (rename_value f (Held x)) (rename_value f (Held y)))) (on_offsets (λ k j. Ok (Num (pos k -ℤ pos j))) (offsets (Held x) (Held y))) (cells-between f k (Held x) (Held y))
difference-renamed f k t (Held x) Undef = at_long-renamed f t (on_offsets (λ k j. Ok (Num (pos k -ℤ pos j))) (offsets (rename_value f (Held x)) (rename_value f Undef))) (on_offsets (λ k j. Ok (Num (pos k -ℤ pos j))) (offsets (Held x) Undef)) (cells-between f k (Held x) Undef)
difference-renamed f k t Undef (Num y) = at_pointer-renamed f t (moved (rename_value f Undef) (pos 0 -ℤ y)) (moved Undef (pos 0 -ℤ y)) (moved-renamed f Undef (pos 0 -ℤ y))
difference-renamed f k t Undef Null = at_long-renamed f t (on_offsets (λ k j. Ok (Num (pos k -ℤ pos j))) (offsets (rename_value f Undef) (rename_value f Null))) (on_offsets (λ k j. Ok (Num (pos k -ℤ pos j))) (offsets Undef Null)) (cells-between f k Undef Null)
difference-renamed f k t Undef (Ptr o j) = at_long-renamed f t (on_offsets (λ k j. Ok (Num (pos k -ℤ pos j))) (offsets (rename_value f Undef) (rename_value f (Ptr o j)))) (on_offsets (λ k j. Ok (Num (pos k -ℤ pos j))) (offsets Undef (Ptr o j))) (cells-between f k Undef (Ptr o j))
difference-renamed f k t Undef Free = at_long-renamed f t (on_offsets (λ k j. Ok (Num (pos k -ℤ pos j))) (offsets (rename_value f Undef) (rename_value f Free))) (on_offsets (λ k j. Ok (Num (pos k -ℤ pos j))) (offsets Undef Free)) (cells-between f k Undef Free)
difference-renamed f k t Undef (Held y) = at_long-renamed f t (on_offsets (λ k j. Ok (Num (pos k -ℤ pos j))) (offsets (rename_value f Undef) (rename_value f (Held y)))) (on_offsets (λ k j. Ok (Num (pos k -ℤ pos j))) (offsets Undef (Held y))) (cells-between f k Undef (Held y))
difference-renamed f k t Undef Undef = at_long-renamed f t (on_offsets (λ k j. Ok (Num (pos k -ℤ pos j))) (offsets (rename_value f Undef) (rename_value f Undef))) (on_offsets (λ k j. Ok (Num (pos k -ℤ pos j))) (offsets Undef Undef)) (cells-between f k Undef Undef)

pub numbers-renamed : (f : ℕ → ℕ) (g : ℤ → ℤ → Result Value Trap) → ((x y : ℤ) → g x y ≡ rename_result f (g x y)) → (a b : Value) →
    on_numbers g (rename_value f a) (rename_value f b) ≡ rename_result f (on_numbers g a b)
numbers-renamed f g h (Num x) (Num y) = h x y
numbers-renamed f g h (Num x) Null = refl
numbers-renamed f g h (Num x) (Ptr o j) = refl
numbers-renamed f g h (Num x) Free = refl
numbers-renamed f g h (Num x) (Held y) = refl
numbers-renamed f g h (Num x) Undef = refl
numbers-renamed f g h Null (Num y) = refl
numbers-renamed f g h Null Null = refl
numbers-renamed f g h Null (Ptr o j) = refl
numbers-renamed f g h Null Free = refl
numbers-renamed f g h Null (Held y) = refl
numbers-renamed f g h Null Undef = refl
numbers-renamed f g h (Ptr n i) (Num y) = refl
numbers-renamed f g h (Ptr n i) Null = refl
numbers-renamed f g h (Ptr n i) (Ptr o j) = refl
numbers-renamed f g h (Ptr n i) Free = refl
numbers-renamed f g h (Ptr n i) (Held y) = refl
numbers-renamed f g h (Ptr n i) Undef = refl
numbers-renamed f g h Free (Num y) = refl
numbers-renamed f g h Free Null = refl
numbers-renamed f g h Free (Ptr o j) = refl
numbers-renamed f g h Free Free = refl
numbers-renamed f g h Free (Held y) = refl
numbers-renamed f g h Free Undef = refl
numbers-renamed f g h (Held x) (Num y) = refl
numbers-renamed f g h (Held x) Null = refl
numbers-renamed f g h (Held x) (Ptr o j) = refl
numbers-renamed f g h (Held x) Free = refl
numbers-renamed f g h (Held x) (Held y) = refl
numbers-renamed f g h (Held x) Undef = refl
numbers-renamed f g h Undef (Num y) = refl
numbers-renamed f g h Undef Null = refl
numbers-renamed f g h Undef (Ptr o j) = refl
numbers-renamed f g h Undef Free = refl
numbers-renamed f g h Undef (Held y) = refl
numbers-renamed f g h Undef Undef = refl

quotient-choice : (f : ℕ → ℕ) (b : Bool) (r : Result Value Trap) → r ≡ rename_result f r →
    (if b then Err trap.Zero else r) ≡ rename_result f (if b then Err trap.Zero else r)
quotient-choice f true r e = refl
quotient-choice f false r e = e

pub quotient-plain : (f : ℕ → ℕ) (t : Ty) (x y : ℤ) → quotient t x y ≡ rename_result f (quotient t x y)
quotient-plain f t x y = quotient-choice f (int_eq y (pos 0)) (number t trap.Overflow (int_div x y)) (number-plain f t trap.Overflow (int_div x y))

pub and-plain : (f : ℕ → ℕ) (r s : Result Value Trap) → s ≡ rename_result f s → result_and r s ≡ rename_result f (result_and r s)
and-plain f (Ok v) s e = e
and-plain f (Err t) s e = refl

pub narrowed-renamed : (f : ℕ → ℕ) (t : Ty) (a : Value) → narrowed t (rename_value f a) ≡ rename_result f (narrowed t a)
narrowed-renamed f t (Num z) = number-plain f t trap.Range z
narrowed-renamed f t Null = refl
narrowed-renamed f t (Ptr n i) = refl
narrowed-renamed f t Free = refl
narrowed-renamed f t (Held x) = refl
narrowed-renamed f t Undef = refl

-- ---- elements

after-renamed : (f : ℕ → ℕ) (p i : Value) (w : ℕ) → element_after (rename_value f p) (rename_value f i) w ≡ rename_result f (element_after p i w)
after-renamed f p (Num i) w = moved-renamed f p (i *ℤ pos w)
after-renamed f p Null w = refl
after-renamed f p (Ptr n i) w = refl
after-renamed f p Free w = refl
after-renamed f p (Held x) w = refl
after-renamed f p Undef w = refl

pub before-renamed : (f : ℕ → ℕ) (p i : Value) (w : ℕ) → element_before (rename_value f p) (rename_value f i) w ≡ rename_result f (element_before p i w)
before-renamed f p (Num i) w = moved-renamed f p (pos 0 -ℤ (i *ℤ pos w))
before-renamed f p Null w = refl
before-renamed f p (Ptr n i) w = refl
before-renamed f p Free w = refl
before-renamed f p (Held x) w = refl
before-renamed f p Undef w = refl

pub element_sum-renamed : (f : ℕ → ℕ) (w : ℕ) (a b : Value) → element_sum w (rename_value f a) (rename_value f b) ≡ rename_result f (element_sum w a b)
element_sum-renamed f w (Num i) b = after-renamed f b (Num i) w
element_sum-renamed f w Null b = after-renamed f Null b w
element_sum-renamed f w (Ptr n i) b = after-renamed f (Ptr n i) b w
element_sum-renamed f w Free b = after-renamed f Free b w
element_sum-renamed f w (Held x) b = after-renamed f (Held x) b w
element_sum-renamed f w Undef b = after-renamed f Undef b w

whole-choice : (f : ℕ → ℕ) (b : Bool) (z : ℤ) → (if b then Ok (Num z) else Err trap.Bounds) ≡ rename_result f (if b then Ok (Num z) else Err trap.Bounds)
whole-choice f b z = choice-plain f b z trap.Bounds

elements-plain : (f : ℕ → ℕ) (w : ℕ) (r : Result (ℕ × ℕ) Trap) →
    on_offsets (λ k j. whole_elements w (pos k -ℤ pos j)) r ≡ rename_result f (on_offsets (λ k j. whole_elements w (pos k -ℤ pos j)) r)
elements-plain f w (Ok both) =
    whole-choice f (int_eq (int_rem (pos both.0 -ℤ pos both.1) (pos w)) (pos 0)) (int_div (pos both.0 -ℤ pos both.1) (pos w))
elements-plain f w (Err t) = refl

pub elements-renamed : (f : ℕ → ℕ) → Keeps f → (p q : Value) (w : ℕ) →
    elements_between (rename_value f p) (rename_value f q) w ≡ rename_result f (elements_between p q w)
elements-renamed f k p q w =
    ap (on_offsets (λ k j. whole_elements w (pos k -ℤ pos j))) (offsets-keep f k p q) ∙ elements-plain f w (offsets p q)

-- ---- all operations

pub not-renamed : (f : ℕ → ℕ) (a : Value) → not_value (rename_value f a) ≡ rename_result f (not_value a)
not-renamed f a = ap truth_of (zero_test-same f a) ∙ truth_of-plain f (zero_test a)

pub defined-renamed : (f : ℕ → ℕ) (v : Value) → defined (rename_value f v) ≡ rename_result f (defined v)
defined-renamed f (Num x) = refl
defined-renamed f Null = refl
defined-renamed f (Ptr n i) = refl
defined-renamed f Free = refl
defined-renamed f (Held x) = refl
defined-renamed f Undef = refl

pub local-renamed : (f : ℕ → ℕ) (vs : List Value) (n : ℕ) → defined_if (slice_get (rename_values f vs) n) ≡ rename_result f (defined_if (slice_get vs n))
local-renamed f [] n = refl
local-renamed f (v ∷ vs) zero = defined-renamed f v
local-renamed f (v ∷ vs) (suc n) = local-renamed f vs n

-- ---- the operations on two values

pub product-renamed : (f : ℕ → ℕ) (t : Ty) (a b : Value) → product_of t (rename_value f a) (rename_value f b) ≡ rename_result f (product_of t a b)
product-renamed f t a b = numbers-renamed f (λ x y. number t trap.Overflow (x *ℤ y)) (λ x y. number-plain f t trap.Overflow (x *ℤ y)) a b

pub quotient-renamed : (f : ℕ → ℕ) (t : Ty) (a b : Value) → quotient_of t (rename_value f a) (rename_value f b) ≡ rename_result f (quotient_of t a b)
quotient-renamed f t a b = numbers-renamed f (quotient t) (quotient-plain f t) a b

pub remainder-renamed : (f : ℕ → ℕ) (t : Ty) (a b : Value) → remainder_of t (rename_value f a) (rename_value f b) ≡ rename_result f (remainder_of t a b)
remainder-renamed f t a b =
    numbers-renamed f (λ x y. result_and (quotient t x y) (number t trap.Overflow (int_rem x y)))
    (λ x y. and-plain f (quotient t x y) (number t trap.Overflow (int_rem x y)) (number-plain f t trap.Overflow (int_rem x y))) a b

pub equal-renamed : (f : ℕ → ℕ) → Keeps f → (a b : Value) → equal_value (rename_value f a) (rename_value f b) ≡ rename_result f (equal_value a b)
equal-renamed f k a b = ap truth_of (equality-keeps f k a b) ∙ truth_of-plain f (equality a b)

pub not_equal-renamed : (f : ℕ → ℕ) → Keeps f → (a b : Value) → not_equal_value (rename_value f a) (rename_value f b) ≡ rename_result f (not_equal_value a b)
not_equal-renamed f k a b = ap falsehood_of (equality-keeps f k a b) ∙ falsehood_of-plain f (equality a b)

-- an order
pub compared-renamed : (f : ℕ → ℕ) → Keeps f → (test : ℤ → ℤ → Bool) (a b : Value) →
    compared test (compared_numbers (rename_value f a) (rename_value f b)) ≡ rename_result f (compared test (compared_numbers a b))
compared-renamed f k test a b = ap (compared test) (compared_numbers-keep f k a b) ∙ compared-plain f test (compared_numbers a b)
