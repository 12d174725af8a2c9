-- What an operation gives is of the type that the typed tree tells.
use Rattle.std.proofs.Common.{◌≡◌, ℕ, zero, suc, ℤ, pos, negsuc, ◌+ℤ◌, ◌-ℤ◌, ◌*ℤ◌, ◌-◌, int_div, int_rem, int_lt, int_le, ◌<◌, ◌≤◌, ◌^◌, ◌==◌, ◌&&◌, ◌||◌, ◌/◌, neg_ℤ, ◌⊎◌, inl, inr, ◌∙◌, sym, ap, subst, true, false, Bool, cond, List, [], ◌∷◌, take, slice_get, Option, Some, None, Result, Ok, Err, refl, arith, rules, nat_le, nat_lt, not, FitsSigned, w64, div-le_self}
use Rattle.std.proofs.lemmas.Bool.{false≢true, and_parts, or_cases, eqb-true}
use Rattle.std.proofs.lemmas.Bool.Decides.{nat_tests}
use Rattle.std.specs.Int.Signed.{mag}
use Rattle.std.specs.Result.{result_and}
use Rattle.kt_types.specs.declared.kinds.FieldDecl.{FieldDecl}
use Rattle.kt_types.specs.declared.kinds.Ty.{Ty}
use Rattle.kt_types.specs.declared.kinds.Ty.TheVariants as ty
use Rattle.kt_types.specs.Table.{Table, fields_of}
use Rattle.kt_types.specs.Layout.{cells_before}
use Rattle.kt_mem.specs.declared.memory.Name.{Name}
use Rattle.kt_mem.specs.declared.memory.Value.{Value}
use Rattle.kt_mem.specs.declared.memory.Value.TheVariants.{Num, Null, Ptr, Free, Held, Undef}
use Rattle.kt_mem.specs.declared.steps.Trap.{Trap}
use Rattle.kt_mem.specs.declared.steps.Trap.TheVariants as trap
use Rattle.kt_mem.specs.Values.{name_eq, int_eq, truth}
use Rattle.kt_mem.specs.Arithmetic.{fits, within, number, has_type, place, moved, offsets, on_offsets, sum_of, difference_of, product_of, quotient, quotient_of, remainder_of, narrowed}
use Rattle.kt_mem.specs.Comparisons.{equality, zero_test, truth_of, falsehood_of, equal_value, not_equal_value, not_value, compared, compared_numbers, less_value, greater_value, less_equal_value, greater_equal_value}
use Rattle.kt_mem.specs.Elements.{element_after, element_before, whole_elements, elements_between}
use Rattle.kt_mem.specs.Memory.{and_then}
use Rattle.kt_tree.specs.declared.expr.Operation.{Operation}
use Rattle.kt_tree.specs.declared.expr.Operation.TheVariants as operation
use Rattle.kt_tree.specs.Kinds.{Scope, int_type, long_type, is_integer_type, pointee_of, is_integer, is_scalar, points_to, points_to_field, points_to_struct, field_at, is_complete, is_same, common, is_comparable, is_moved, is_operation}
use Rattle.kt_tree.specs.Typed.{is_modified}
use Rattle.kt_tree.specs.Version.{HasOnePlaces}
use Rattle.kt_meaning.specs.Values.{is_of, IsOf, IsAt, AreAt}
use Rattle.kt_meaning.specs.Operations.{of_one, of_two, at_type, arithmetic, width, element_sum, field_place, apply_operation, converted, changed}

-- the places of `int` and `long`
pub record HasScalars (types : Table) : Type 0 where
  pub int_is : slice_get types.types 1 ≡ Some ty.Int
  pub long_is : slice_get types.types 2 ≡ Some ty.Long
  pub long_place : (t : ℕ) → slice_get types.types t ≡ Some ty.Long → t ≡ 2

same_in_take : (xs : List Ty) (n i : ℕ) → i < n → slice_get (take n xs) i ≡ slice_get xs i
same_in_take xs zero i h = absurd (omega arith)
same_in_take [] (suc n) i h = refl
same_in_take (x ∷ xs) (suc n) zero h = refl
same_in_take (x ∷ xs) (suc n) (suc i) h = same_in_take xs n i (omega arith)

pub scalars-HasScalars : (types : Table) → take 4 types.types ≡ ty.Char ∷ ty.Int ∷ ty.Long ∷ ty.Mutex ∷ [] → HasOnePlaces types → HasScalars types
scalars-HasScalars types h places = record {
  int_is = sym (same_in_take types.types 4 1 (omega arith)) ∙ ap (λ xs. slice_get xs 1) h;
  long_is = sym (same_in_take types.types 4 2 (omega arith)) ∙ ap (λ xs. slice_get xs 2) h;
  long_place = λ t e. places t 2 ty.Long e (sym (same_in_take types.types 4 2 (omega arith)) ∙ ap (λ xs. slice_get xs 2) h);
}

-- ---- values of a type

pub at-the-type : (types : Table) (t : ℕ) (u : Ty) (v : Value) → slice_get types.types t ≡ Some u → is_of u v ≡ true → IsAt types t v
at-the-type types t u v e h = subst (λ o. IsOf o v) (sym e) h

pub truth-IsAt : (types : Table) → HasScalars types → (b : Bool) → IsAt types 1 (truth b)
truth-IsAt types h true = at-the-type types 1 ty.Int (truth true) h.int_is refl
truth-IsAt types h false = at-the-type types 1 ty.Int (truth false) h.int_is refl

truth-at-int : (types : Table) (t : ℕ) (b : Bool) (v : Value) → HasScalars types → (t == int_type) ≡ true → truth b ≡ v → IsAt types t v
truth-at-int types t b v h e same =
    subst (λ n. IsAt types n v) (sym (eqb-true t 1 e)) (subst (λ x. IsAt types 1 x) same (truth-IsAt types h b))

-- a value of an integer type is a number
pub record IsNumber (v : Value) : Type 0 where
  pub value : ℤ
  pub is : v ≡ Num value

pub number-of : (o : Option Ty) (v : Value) → is_integer_type o ≡ true → IsOf o v → IsNumber v
number-of None v i h = absurd h
number-of (Some ty.Char) (Num z) i h = record { value = z; is = refl }
number-of (Some ty.Int) (Num z) i h = record { value = z; is = refl }
number-of (Some ty.Long) (Num z) i h = record { value = z; is = refl }
number-of (Some ty.Char) _ i h = absurd (false≢true h)
number-of (Some ty.Int) _ i h = absurd (false≢true h)
number-of (Some ty.Long) _ i h = absurd (false≢true h)
number-of (Some _) v i h = absurd (false≢true i)

pub number-at : (s : Scope) (t : ℕ) (v : Value) → is_integer s t ≡ true → IsAt s.types t v → IsNumber v
number-at s t v i h = number-of (slice_get s.types.types t) v i h

-- ---- numbers

within-typed : (limit : ℕ) (e : Trap) (z : ℤ) (v : Value) (P : Value → Bool) → P (Num z) ≡ fits limit z → within limit e z ≡ Ok v → P v ≡ true
within-typed limit e z v P is h = by_test (fits limit z) refl h
  where
    by_test : (b : Bool) → fits limit z ≡ b → cond b (Ok (Num z)) (Err e) ≡ Ok v → P v ≡ true
    by_test true t h = let same : Num z ≡ v = cc in subst (λ (x : Value). P x ≡ true) same (is ∙ t)
    by_test false t h = absurd cc

pub and-true : (b : Bool) → (b && true) ≡ b
and-true true = refl
and-true false = refl

number-typed : (u : Ty) (e : Trap) (z : ℤ) (v : Value) → number u e z ≡ Ok v → is_of u v ≡ true
number-typed ty.Char e z v h = within-typed (2 ^ 7) e z v (is_of ty.Char) (and-true (fits (2 ^ 7) z)) h
number-typed ty.Int e z v h = within-typed (2 ^ 31) e z v (is_of ty.Int) (and-true (fits (2 ^ 31) z)) h
number-typed ty.Long e z v h = within-typed (2 ^ 63) e z v (is_of ty.Long) (and-true (fits (2 ^ 63) z)) h
number-typed _ e z v h = absurd cc

quotient-typed : (u : Ty) (x y : ℤ) (v : Value) → quotient u x y ≡ Ok v → is_of u v ≡ true
quotient-typed u x y v h = by_test (int_eq y (pos 0)) h
  where
    by_test : (b : Bool) → cond b (Err trap.Zero) (number u trap.Overflow (int_div x y)) ≡ Ok v → is_of u v ≡ true
    by_test true h = absurd cc
    by_test false h = number-typed u trap.Overflow (int_div x y) v h

remainder-typed : (u : Ty) (z : ℤ) (v : Value) (r : Result Value Trap) → result_and r (number u trap.Overflow z) ≡ Ok v → is_of u v ≡ true
remainder-typed u z v (Ok q) h = number-typed u trap.Overflow z v h
remainder-typed u z v (Err e) h = absurd cc

pub narrowed-typed : (u : Ty) (a v : Value) → narrowed u a ≡ Ok v → is_of u v ≡ true
narrowed-typed u (Num z) v h = number-typed u trap.Range z v h
narrowed-typed u _ v h = absurd cc

-- ---- pointers

place-typed : (u : ℕ) (n : Name) (z : ℤ) (v : Value) → place n z ≡ Ok v → is_of (ty.Ptr u) v ≡ true
place-typed u n (pos k) v h = by_test (nat_le k 65536) refl h
  where
    by_test : (b : Bool) → nat_le k 65536 ≡ b → cond b (Ok (Ptr n k)) (Err trap.Bounds) ≡ Ok v → is_of (ty.Ptr u) v ≡ true
    by_test true t h =
        let small : nat_lt k 4294967296 ≡ true = grind (arith, nat_tests, t) in
        let same : Ptr n k ≡ v = cc in
        subst (λ (x : Value). is_of (ty.Ptr u) x ≡ true) same small
    by_test false t h = absurd cc
place-typed u n (negsuc k) v h = absurd cc

moved-typed : (u : ℕ) (p : Value) (d : ℤ) (v : Value) → moved p d ≡ Ok v → is_of (ty.Ptr u) v ≡ true
moved-typed u (Ptr n k) d v h = place-typed u n (pos k +ℤ d) v h
moved-typed u _ d v h = absurd cc

after-typed : (u : ℕ) (p i : Value) (n : ℕ) (v : Value) → element_after p i n ≡ Ok v → is_of (ty.Ptr u) v ≡ true
after-typed u p (Num i) n v h = moved-typed u p (i *ℤ pos n) v h
after-typed u p _ n v h = absurd cc

before-typed : (u : ℕ) (p i : Value) (n : ℕ) (v : Value) → element_before p i n ≡ Ok v → is_of (ty.Ptr u) v ≡ true
before-typed u p (Num i) n v h = moved-typed u p (pos 0 -ℤ (i *ℤ pos n)) v h
before-typed u p _ n v h = absurd cc

sum-typed : (u n : ℕ) (a b v : Value) → element_sum n a b ≡ Ok v → is_of (ty.Ptr u) v ≡ true
sum-typed u n (Num i) b v h = after-typed u b (Num i) n v h
sum-typed u n Null b v h = after-typed u Null b n v h
sum-typed u n (Ptr m k) b v h = after-typed u (Ptr m k) b n v h
sum-typed u n Free b v h = after-typed u Free b n v h
sum-typed u n (Held k) b v h = after-typed u (Held k) b n v h
sum-typed u n Undef b v h = after-typed u Undef b n v h

field-typed : (types : Table) (fields : Option (List FieldDecl)) (index u : ℕ) (p v : Value) → field_place types fields index p ≡ Ok v → is_of (ty.Ptr u) v ≡ true
field-typed types None index u p v h = absurd cc
field-typed types (Some fields) index u p v h = moved-typed u p (pos (cells_before types fields index)) v h

-- a value of a pointer type has an offset of 32 bits
offset-of : (o : Option Ty) (n : Name) (k : ℕ) → IsOf o (Ptr n k) → k < 4294967296
offset-of None n k h = absurd h
offset-of (Some u) n k h = let parts = and_parts (has_type u (Ptr n k)) (nat_lt k 4294967296) h in grind (arith, nat_tests, parts.1)

-- the type of what a pointer points to
pub record IsPointer (o : Option Ty) : Type 0 where
  pub to : ℕ
  pub is : o ≡ Some (ty.Ptr to)

pub pointer-of : (o : Option Ty) (e : ℕ) → is_same (pointee_of o) e ≡ true → IsPointer o
pointer-of (Some (ty.Ptr u)) e h = record { to = u; is = refl }
pointer-of None e h = absurd (false≢true h)
pointer-of (Some _) e h = absurd (false≢true h)

pointer-typed : (types : Table) (t : ℕ) (v : Value) → IsPointer (slice_get types.types t) → ((u : ℕ) → is_of (ty.Ptr u) v ≡ true) → IsAt types t v
pointer-typed types t v p h = at-the-type types t (ty.Ptr p.to) v p.is (h p.to)

-- ---- differences

fits-below : (limit : ℕ) (z : ℤ) → mag z < limit → fits limit z ≡ true
fits-below limit (pos n) h = grind (arith, nat_tests)
fits-below limit (negsuc n) h = grind (arith, nat_tests)

mag-neg : (n : ℕ) → mag (neg_ℤ (pos n)) ≡ n - 1
mag-neg zero = refl
mag-neg (suc n) = omega arith

-- a quotient is no larger than its dividend
quotient-small : (z : ℤ) (n : ℕ) → mag (int_div z (pos n)) ≤ mag z
quotient-small (pos m) n = omega (arith, div-le_self m n)
quotient-small (negsuc m) n = omega (arith, mag-neg (suc m / n), div-le_self (suc m) n)

between-typed : (n k j : ℕ) (v : Value) → k < 4294967296 → j < 4294967296 → whole_elements n (pos k -ℤ pos j) ≡ Ok v → is_of ty.Long v ≡ true
between-typed n k j v small small' h = by_test (int_eq (int_rem (pos k -ℤ pos j) (pos n)) (pos 0)) h
  where
    by_test : (b : Bool) → cond b (Ok (Num (int_div (pos k -ℤ pos j) (pos n)))) (Err trap.Bounds) ≡ Ok v → is_of ty.Long v ≡ true
    by_test true h =
        let apart : FitsSigned w64 (pos k -ℤ pos j) = search rules in
        let fit : fits (2 ^ 63) (int_div (pos k -ℤ pos j) (pos n)) ≡ true =
        fits-below (2 ^ 63) (int_div (pos k -ℤ pos j) (pos n)) (omega (arith, apart.sfits, quotient-small (pos k -ℤ pos j) n)) in
        let same : Num (int_div (pos k -ℤ pos j) (pos n)) ≡ v = cc in
        subst (λ (x : Value). is_of ty.Long x ≡ true) same (and-true (fits (2 ^ 63) (int_div (pos k -ℤ pos j) (pos n))) ∙ fit)
    by_test false h = absurd cc

offsets-small : (o o' : Option Ty) (p q : Value) (both : ℕ × ℕ) → IsOf o p → IsOf o' q → offsets p q ≡ Ok both → (both.0 < 4294967296) × (both.1 < 4294967296)
offsets-small o o' (Ptr n k) (Ptr m j) both s r h = by_test (name_eq n m) h
  where
    by_test : (b : Bool) → cond b (Ok (k, j)) (Err trap.Bounds) ≡ Ok both → (both.0 < 4294967296) × (both.1 < 4294967296)
    by_test true h =
        let same : ◌≡◌ {A = ℕ × ℕ} (k, j) both = cc in
        subst (λ (x : ℕ × ℕ). (x.0 < 4294967296) × (x.1 < 4294967296)) same (offset-of o n k s, offset-of o' m j r)
    by_test false h = let never : ⊥ = cc in absurd never
offsets-small o o' Null Null both s r h = let never : ⊥ = cc in absurd never
offsets-small o o' Null (Ptr m j) both s r h = let never : ⊥ = cc in absurd never
offsets-small o o' (Ptr n k) Null both s r h = let never : ⊥ = cc in absurd never
offsets-small o o' _ _ both s r h = let never : ⊥ = cc in absurd never

elements-between-typed : (o o' : Option Ty) (p q : Value) (n : ℕ) (v : Value) → IsOf o p → IsOf o' q → elements_between p q n ≡ Ok v → is_of ty.Long v ≡ true
elements-between-typed o o' p q n v s r h = by_answer (offsets p q) refl h
  where
    by_answer : (x : Result (ℕ × ℕ) Trap) → offsets p q ≡ x → on_offsets (λ k j. whole_elements n (pos k -ℤ pos j)) x ≡ Ok v → is_of ty.Long v ≡ true
    by_answer (Ok both) e h = let small = offsets-small o o' p q both s r e in between-typed n (both.0) (both.1) v (small.0) (small.1) h
    by_answer (Err e) f h = absurd cc

-- ---- comparisons

pub record IsTruth (v : Value) : Type 0 where
  pub test : Bool
  pub is : truth test ≡ v

truth_of-typed : (r : Result Bool Trap) (v : Value) → truth_of r ≡ Ok v → IsTruth v
truth_of-typed (Ok b) v h = record { test = b; is = cc }
truth_of-typed (Err e) v h = absurd cc

falsehood_of-typed : (r : Result Bool Trap) (v : Value) → falsehood_of r ≡ Ok v → IsTruth v
falsehood_of-typed (Ok b) v h = record { test = not b; is = cc }
falsehood_of-typed (Err e) v h = absurd cc

compared-typed : (test : ℤ → ℤ → Bool) (r : Result (ℤ × ℤ) Trap) (v : Value) → compared test r ≡ Ok v → IsTruth v
compared-typed test (Ok both) v h = record { test = test (both.0) (both.1); is = cc }
compared-typed test (Err e) v h = absurd cc

truth-typed : (types : Table) (t : ℕ) (v : Value) → HasScalars types → (t == int_type) ≡ true → IsTruth v → IsAt types t v
truth-typed types t v h e b = truth-at-int types t b.test v h e b.is

-- ---- how many operands

pub record IsUnary (takes : List ℕ → Bool) : Type 0 where
  pub none : takes [] ≡ false
  pub more : (a b : ℕ) (ts : List ℕ) → takes (a ∷ b ∷ ts) ≡ false

pub record IsBinary (takes : List ℕ → Bool) : Type 0 where
  pub none : takes [] ≡ false
  pub one : (a : ℕ) → takes (a ∷ []) ≡ false
  pub more : (a b c : ℕ) (ts : List ℕ) → takes (a ∷ b ∷ c ∷ ts) ≡ false

never : (b : Bool) → b ≡ false → b ≡ true → ⊥
never b n h = false≢true (sym n ∙ h)

on-one : (types : Table) (takes : List ℕ → Bool) → IsUnary takes → (ts : List ℕ) (vs : List Value) (f : Value → Result Value Trap) (v : Value) (P : Type 0) →
    takes ts ≡ true → AreAt types ts vs → ((a : ℕ) (x : Value) → takes (a ∷ []) ≡ true → IsAt types a x → f x ≡ Ok v → P) → of_one f vs ≡ Ok v → P
on-one types takes u [] vs f v P h r k e = absurd (never _ u.none h)
on-one types takes u (a ∷ b ∷ ts) vs f v P h r k e = absurd (never _ (u.more a b ts) h)
on-one types takes u (a ∷ []) [] f v P h r k e = absurd r
on-one types takes u (a ∷ []) (x ∷ []) f v P h r k e = k a x h (r.0) e
on-one types takes u (a ∷ []) (x ∷ y ∷ vs) f v P h r k e = absurd (r.1)

on-two : (types : Table) (takes : List ℕ → Bool) → IsBinary takes → (ts : List ℕ) (vs : List Value) (f : Value → Value → Result Value Trap) (v : Value) (P : Type 0) →
    takes ts ≡ true → AreAt types ts vs →
    ((a b : ℕ) (x y : Value) → takes (a ∷ b ∷ []) ≡ true → IsAt types a x → IsAt types b y → f x y ≡ Ok v → P) → of_two f vs ≡ Ok v → P
on-two types takes u [] vs f v P h r k e = absurd (never _ u.none h)
on-two types takes u (a ∷ []) vs f v P h r k e = absurd (never _ (u.one a) h)
on-two types takes u (a ∷ b ∷ c ∷ ts) vs f v P h r k e = absurd (never _ (u.more a b c ts) h)
on-two types takes u (a ∷ b ∷ []) [] f v P h r k e = absurd r
on-two types takes u (a ∷ b ∷ []) (x ∷ []) f v P h r k e = absurd (r.1)
on-two types takes u (a ∷ b ∷ []) (x ∷ y ∷ []) f v P h r k e = k a b x y h (r.0) (r.1.0) e
on-two types takes u (a ∷ b ∷ []) (x ∷ y ∷ z ∷ vs) f v P h r k e = absurd (r.1.1)

at-typed : (o : Option Ty) (g : Ty → Result Value Trap) (v : Value) → ((u : Ty) → g u ≡ Ok v → is_of u v ≡ true) → at_type g o ≡ Ok v → IsOf o v
at-typed None g v h e = absurd cc
at-typed (Some u) g v h e = h u e

-- ---- each operation

-- two integers at their common type
abbrev are_integers : Scope → ℕ → ℕ → ℕ → Bool
are_integers s t a b = is_integer s a && is_integer s b && (common a b == t)

arithmetic-typed : (s : Scope) (t a b : ℕ) (x y v : Value) (f : Ty → Value → Value → Result Value Trap) →
    ((u : Ty) (m n : ℤ) → f u (Num m) (Num n) ≡ Ok v → is_of u v ≡ true) →
    are_integers s t a b ≡ true → IsAt s.types a x → IsAt s.types b y → at_type (λ u. f u x y) (slice_get s.types.types t) ≡ Ok v → IsAt s.types t v
arithmetic-typed s t a b x y v f h i xa yb e =
    let parts = and_parts (is_integer s a && is_integer s b) (common a b == t) i in
    let both = and_parts (is_integer s a) (is_integer s b) (parts.0) in
    let x' = number-at s a x (both.0) xa in
    let y' = number-at s b y (both.1) yb in
    at-typed (slice_get s.types.types t) (λ u. f u x y) v
    (λ u g. h u x'.value y'.value (subst (λ z. f u (Num x'.value) z ≡ Ok v) y'.is (subst (λ z. f u z y ≡ Ok v) x'.is g))) e

module _ (s : Scope) (scalars : HasScalars s.types) (t : ℕ) (ts : List ℕ) (vs : List Value) (v : Value) (are : AreAt s.types ts vs) where
  by-arithmetic : (op : Operation) (f : Ty → Value → Value → Result Value Trap) → IsBinary (is_operation s op t) →
      ((a b : ℕ) → is_operation s op t (a ∷ b ∷ []) ≡ true → are_integers s t a b ≡ true) →
      ((u : Ty) (m n : ℤ) → f u (Num m) (Num n) ≡ Ok v → is_of u v ≡ true) →
      is_operation s op t ts ≡ true → arithmetic f (slice_get s.types.types t) vs ≡ Ok v → IsAt s.types t v
  by-arithmetic op f two integers typed h e =
      on-two s.types (is_operation s op t) two ts vs (λ a b. at_type (λ u. f u a b) (slice_get s.types.types t)) v (IsAt s.types t v) h are
      (λ a b x y i xa yb g. arithmetic-typed s t a b x y v f typed (integers a b i) xa yb g) e

  -- a comparison gives a truth value
  by-truth : (op : Operation) (f : Value → Value → Result Value Trap) → IsBinary (is_operation s op t) →
      ((a b : ℕ) → is_operation s op t (a ∷ b ∷ []) ≡ true → (is_comparable s a b && (t == int_type)) ≡ true) →
      ((x y : Value) → f x y ≡ Ok v → IsTruth v) →
      is_operation s op t ts ≡ true → of_two f vs ≡ Ok v → IsAt s.types t v
  by-truth op f two comparable typed h e =
      on-two s.types (is_operation s op t) two ts vs f v (IsAt s.types t v) h are
      (λ a b x y i xa yb g. truth-typed s.types t v scalars ((and_parts (is_comparable s a b) (t == int_type) (comparable a b i)).1) (typed x y g)) e

  -- an integer moves a pointer, which is of the type of the whole
  moved-pointer : (e p i : ℕ) → is_moved s e t p i ≡ true → IsPointer (slice_get s.types.types t)
  moved-pointer e p i h =
      let parts = and_parts ((p == t) && points_to s p e && is_complete s e) (is_integer s i) h in
      let parts' = and_parts ((p == t) && points_to s p e) (is_complete s e) (parts.0) in
      let parts'' = and_parts (p == t) (points_to s p e) (parts'.0) in
      pointer-of (slice_get s.types.types t) e (subst (λ q. points_to s q e ≡ true) (eqb-true p t (parts''.0)) (parts''.1))

  moved-either : (e a b : ℕ) → (is_moved s e t a b || is_moved s e t b a) ≡ true → IsPointer (slice_get s.types.types t)
  moved-either e a b h = by_case (or_cases (is_moved s e t a b) (is_moved s e t b a) h)
    where
      by_case : (is_moved s e t a b ≡ true) ⊎ (is_moved s e t b a ≡ true) → IsPointer (slice_get s.types.types t)
      by_case (inl h) = moved-pointer e a b h
      by_case (inr h) = moved-pointer e b a h

  by-moving : (op : Operation) (f : Value → Value → Result Value Trap) → IsBinary (is_operation s op t) →
      ((a b : ℕ) → is_operation s op t (a ∷ b ∷ []) ≡ true → IsPointer (slice_get s.types.types t)) →
      ((x y : Value) (u : ℕ) → f x y ≡ Ok v → is_of (ty.Ptr u) v ≡ true) →
      is_operation s op t ts ≡ true → of_two f vs ≡ Ok v → IsAt s.types t v
  by-moving op f two points typed h e =
      on-two s.types (is_operation s op t) two ts vs f v (IsAt s.types t v) h are
      (λ a b x y i xa yb g. pointer-typed s.types t v (points a b i) (λ u. typed x y u g)) e

  by-difference : (e : ℕ) → is_operation s (operation.ElementsBetween e) t ts ≡ true → of_two (λ p q. elements_between p q (width s.types e)) vs ≡ Ok v → IsAt s.types t v
  by-difference n h e =
      on-two s.types (is_operation s (operation.ElementsBetween n) t) (record { none = refl; one = λ a. refl; more = λ a b c ts. refl }) ts vs
      (λ p q. elements_between p q (width s.types n)) v (IsAt s.types t v) h are
      (λ a b x y i xa yb g.
      let parts = and_parts ((a == b) && points_to s a n && is_complete s n) (t == long_type) i in
      subst (λ k. IsAt s.types k v) (sym (eqb-true t 2 (parts.1)))
      (at-the-type s.types 2 ty.Long v scalars.long_is
      (elements-between-typed (slice_get s.types.types a) (slice_get s.types.types b) x y (width s.types n) v xa yb g))) e

  by-field : (number index : ℕ) → is_operation s (operation.Field number index) t ts ≡ true →
      of_one (field_place s.types (fields_of s.types number) index) vs ≡ Ok v → IsAt s.types t v
  by-field number index h e =
      on-one s.types (is_operation s (operation.Field number index) t) (record { none = refl; more = λ a b ts. refl }) ts vs
      (field_place s.types (fields_of s.types number) index) v (IsAt s.types t v) h are
      (λ a x i xa g.
      let parts = and_parts (points_to_struct s a number) (points_to_field s t (field_at s number index)) i in
      pointer-typed s.types t v (field-pointer (field_at s number index) (parts.1)) (λ u. field-typed s.types (fields_of s.types number) index u x v g)) e
    where
      field-pointer : (f : Option FieldDecl) → points_to_field s t f ≡ true → IsPointer (slice_get s.types.types t)
      field-pointer None h = absurd (false≢true h)
      field-pointer (Some f) h = pointer-of (slice_get s.types.types t) _ h

  by-not : is_operation s operation.Not t ts ≡ true → of_one not_value vs ≡ Ok v → IsAt s.types t v
  by-not h e =
      on-one s.types (is_operation s operation.Not t) (record { none = refl; more = λ a b ts. refl }) ts vs not_value v (IsAt s.types t v) h are
      (λ a x i xa g. truth-typed s.types t v scalars ((and_parts (is_scalar s a) (t == int_type) i).1) (truth_of-typed (zero_test x) v g)) e

  by-converting : is_operation s operation.Convert t ts ≡ true → of_one (λ a. at_type (λ u. narrowed u a) (slice_get s.types.types t)) vs ≡ Ok v → IsAt s.types t v
  by-converting h e =
      on-one s.types (is_operation s operation.Convert t) (record { none = refl; more = λ a b ts. refl }) ts vs (λ a. at_type (λ u. narrowed u a) (slice_get s.types.types t)) v (IsAt s.types t v) h are
      (λ a x i xa g. at-typed (slice_get s.types.types t) (λ u. narrowed u x) v (λ u k. narrowed-typed u x v k) g) e

  -- what an operation gives is of the type of the whole
  pub operation-typed : (op : Operation) → is_operation s op t ts ≡ true → apply_operation s.types op t vs ≡ Ok v → IsAt s.types t v
  operation-typed operation.Add h e =
      by-arithmetic operation.Add sum_of (record { none = refl; one = λ a. refl; more = λ a b c ts. refl }) (λ a b i. i)
      (λ u m n g. number-typed u trap.Overflow (m +ℤ n) v g) h e
  operation-typed operation.Subtract h e =
      by-arithmetic operation.Subtract difference_of (record { none = refl; one = λ a. refl; more = λ a b c ts. refl }) (λ a b i. i)
      (λ u m n g. number-typed u trap.Overflow (m -ℤ n) v g) h e
  operation-typed operation.Multiply h e =
      by-arithmetic operation.Multiply product_of (record { none = refl; one = λ a. refl; more = λ a b c ts. refl }) (λ a b i. i)
      (λ u m n g. number-typed u trap.Overflow (m *ℤ n) v g) h e
  operation-typed operation.Divide h e =
      by-arithmetic operation.Divide quotient_of (record { none = refl; one = λ a. refl; more = λ a b c ts. refl }) (λ a b i. i)
      (λ u m n g. quotient-typed u m n v g) h e
  operation-typed operation.Remainder h e =
      by-arithmetic operation.Remainder remainder_of (record { none = refl; one = λ a. refl; more = λ a b c ts. refl }) (λ a b i. i)
      (λ u m n g. remainder-typed u (int_rem m n) v (quotient u m n) g) h e
  operation-typed operation.Less h e =
      by-truth operation.Less less_value (record { none = refl; one = λ a. refl; more = λ a b c ts. refl }) (λ a b i. i)
      (λ x y g. compared-typed int_lt (compared_numbers x y) v g) h e
  operation-typed operation.Greater h e =
      by-truth operation.Greater greater_value (record { none = refl; one = λ a. refl; more = λ a b c ts. refl }) (λ a b i. i)
      (λ x y g. compared-typed (λ m n. int_lt n m) (compared_numbers x y) v g) h e
  operation-typed operation.LessEqual h e =
      by-truth operation.LessEqual less_equal_value (record { none = refl; one = λ a. refl; more = λ a b c ts. refl }) (λ a b i. i)
      (λ x y g. compared-typed int_le (compared_numbers x y) v g) h e
  operation-typed operation.GreaterEqual h e =
      by-truth operation.GreaterEqual greater_equal_value (record { none = refl; one = λ a. refl; more = λ a b c ts. refl }) (λ a b i. i)
      (λ x y g. compared-typed (λ m n. int_le n m) (compared_numbers x y) v g) h e
  operation-typed operation.Equal h e =
      by-truth operation.Equal equal_value (record { none = refl; one = λ a. refl; more = λ a b c ts. refl }) (λ a b i. i)
      (λ x y g. truth_of-typed (equality x y) v g) h e
  operation-typed operation.NotEqual h e =
      by-truth operation.NotEqual not_equal_value (record { none = refl; one = λ a. refl; more = λ a b c ts. refl }) (λ a b i. i)
      (λ x y g. falsehood_of-typed (equality x y) v g) h e
  operation-typed operation.Not h e = by-not h e
  operation-typed operation.Convert h e = by-converting h e
  operation-typed (operation.ElementAfter n) h e =
      by-moving (operation.ElementAfter n) (element_sum (width s.types n)) (record { none = refl; one = λ a. refl; more = λ a b c ts. refl }) (λ a b i. moved-either n a b i)
      (λ x y u g. sum-typed u (width s.types n) x y v g) h e
  operation-typed (operation.ElementBefore n) h e =
      by-moving (operation.ElementBefore n) (λ p i. element_before p i (width s.types n)) (record { none = refl; one = λ a. refl; more = λ a b c ts. refl }) (λ a b i. moved-pointer n a b i)
      (λ x y u g. before-typed u x y (width s.types n) v g) h e
  operation-typed (operation.ElementsBetween n) h e = by-difference n h e
  operation-typed (operation.Field number index) h e = by-field number index h e

-- ---- `x op= e`

converted-typed : (s : Scope) (own t : ℕ) (v new : Value) → IsAt s.types own v → converted s.types own t v ≡ Ok new → IsAt s.types t new
converted-typed s own t v new h e = by_test (own == t) refl e
  where
    by_test : (b : Bool) → (own == t) ≡ b → cond b (Ok v) (at_type (λ u. narrowed u v) (slice_get s.types.types t)) ≡ Ok new → IsAt s.types t new
    by_test true c e = let same : v ≡ new = cc in subst (λ n. IsAt s.types n new) (eqb-true own t c) (subst (λ x. IsAt s.types own x) same h)
    by_test false c e = at-typed (slice_get s.types.types t) (λ u. narrowed u v) new (λ u g. narrowed-typed u v new g) e

-- what a cell holds after a change is of its type
pub changed-typed : (s : Scope) → HasScalars s.types → (op : Operation) (own t p b : ℕ) (before v new : Value) →
    is_modified s own t (is_operation s op own) p b ≡ true → IsAt s.types t before → IsAt s.types b v →
    changed s.types op own t before v ≡ Ok new → IsAt s.types t new
changed-typed s scalars op own t p b before v new h x y e =
    by_answer (apply_operation s.types op own (before ∷ v ∷ [])) refl e
  where
    by_answer : (r : Result Value Trap) → apply_operation s.types op own (before ∷ v ∷ []) ≡ r → and_then r (converted s.types own t) ≡ Ok new → IsAt s.types t new
    by_answer (Ok w) a e =
        let parts = and_parts (points_to s p t && is_scalar s t && is_operation s op own (t ∷ b ∷ [])) ((own == t) || (is_integer s own && is_integer s t)) h in
        let parts' = and_parts (points_to s p t && is_scalar s t) (is_operation s op own (t ∷ b ∷ [])) (parts.0) in
        converted-typed s own t w new (operation-typed s scalars own (t ∷ b ∷ []) (before ∷ v ∷ []) w (x, (y, tt)) op (parts'.1) a) e
    by_answer (Err u) a e = absurd cc
