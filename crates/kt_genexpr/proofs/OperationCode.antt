-- An operation's instruction gives what the operation gives, for as many operands as typing says.
use Rattle.std.proofs.Common.{◌≡◌, ℕ, ◌==◌, ◌&&◌, ◌||◌, Bool, true, false, cond, List, [], ◌∷◌, ◌++◌, length, reverse, take, slice_get, option_and_then, Option, Some, None, Result, refl, sym, ap, ◌∙◌, subst, arith, ◌⊎◌, inl, inr}
use Rattle.std.specs.Option.{is_some}
use Rattle.std.proofs.lemmas.Bool.{false≢true, and_parts, or_cases, eqb-true}
use Rattle.kt_types.specs.declared.kinds.FieldDecl.{FieldDecl}
use Rattle.kt_types.specs.declared.kinds.Ty.{Ty}
use Rattle.kt_types.specs.declared.kinds.Ty.TheVariants as ty
use Rattle.kt_types.specs.Table.{Table, fields_of}
use Rattle.kt_mem.specs.declared.memory.Value.{Value}
use Rattle.kt_mem.specs.declared.steps.Trap.{Trap}
use Rattle.kt_mem.specs.Arithmetic.{sum_of, difference_of, product_of, quotient_of, remainder_of, narrowed}
use Rattle.kt_mem.specs.Comparisons.{equal_value, not_equal_value, not_value, less_value, greater_value, less_equal_value, greater_equal_value}
use Rattle.kt_mem.specs.Elements.{element_before, elements_between}
use Rattle.kt_tree.specs.declared.expr.Operation.{Operation}
use Rattle.kt_tree.specs.declared.expr.Operation.TheVariants as operation
use Rattle.kt_tree.specs.Kinds.{Scope, is_integer_type, pointee_of, long_type, is_integer, is_scalar, is_pointer, common, is_operation, points_to_struct, points_to_field, field_at}
use Rattle.kt_meaning.specs.Operations.{of_one, of_two, at_type, arithmetic, width, element_sum, field_place, apply_operation}
use Rattle.kt_code.specs.declared.instr.Instr.TheVariants as instr
use Rattle.kt_code.specs.Machine.{Here, gives, unary, binary, do_one}
use Rattle.kt_genexpr.specs.ExpressionCode.{or_char, type_at, cells_to, operation_code}

-- ---- types that are there

pub integer-there : (o : Option Ty) → is_integer_type o ≡ true → is_some o ≡ true
integer-there None h = absurd (false≢true h)
integer-there (Some u) h = refl

pub pointer-there : (o : Option Ty) → is_some (pointee_of o) ≡ true → is_some o ≡ true
pointer-there None h = absurd (false≢true h)
pointer-there (Some u) h = refl

pub scalar-there : (s : Scope) (t : ℕ) → is_scalar s t ≡ true → is_some (slice_get s.types.types t) ≡ true
scalar-there s t h = by_case (or_cases (is_integer s t) (is_pointer s t) h)
  where
    by_case : (is_integer s t ≡ true) ⊎ (is_pointer s t ≡ true) → is_some (slice_get s.types.types t) ≡ true
    by_case (inl i) = integer-there (slice_get s.types.types t) i
    by_case (inr i) = pointer-there (slice_get s.types.types t) i

pub there-is : (o : Option Ty) → is_some o ≡ true → o ≡ Some (or_char o)
there-is None h = absurd (false≢true h)
there-is (Some u) h = refl

-- the places of `int` and `long`
scalar-places : (us : List Ty) → take 4 us ≡ ty.Char ∷ ty.Int ∷ ty.Long ∷ ty.Mutex ∷ [] → (is_some (slice_get us 1) ≡ true) × (is_some (slice_get us 2) ≡ true)
scalar-places [] h = absurd cc
scalar-places (a ∷ []) h = absurd cc
scalar-places (a ∷ b ∷ []) h = absurd cc
scalar-places (a ∷ b ∷ c ∷ us) h = (refl, refl)

common-there : (types : Table) → take 4 types.types ≡ ty.Char ∷ ty.Int ∷ ty.Long ∷ ty.Mutex ∷ [] → (a b : ℕ) → is_some (slice_get types.types (common a b)) ≡ true
common-there types scalars a b = by_test ((a == long_type) || (b == long_type))
  where
    by_test : (long : Bool) → is_some (slice_get types.types (cond long 2 1)) ≡ true
    by_test true = (scalar-places types.types scalars).1
    by_test false = (scalar-places types.types scalars).0

-- ---- how many operands

abbrev pub arity : Operation → ℕ
arity operation.Not = 1
arity operation.Convert = 1
arity (operation.Field number index) = 1
arity _ = 2

pub operands-counted : (s : Scope) (op : Operation) (t : ℕ) (ts : List ℕ) → is_operation s op t ts ≡ true → length ts ≡ arity op
operands-counted s operation.Add t (a ∷ b ∷ []) h = refl
operands-counted s operation.Subtract t (a ∷ b ∷ []) h = refl
operands-counted s operation.Multiply t (a ∷ b ∷ []) h = refl
operands-counted s operation.Divide t (a ∷ b ∷ []) h = refl
operands-counted s operation.Remainder t (a ∷ b ∷ []) h = refl
operands-counted s operation.Less t (a ∷ b ∷ []) h = refl
operands-counted s operation.Greater t (a ∷ b ∷ []) h = refl
operands-counted s operation.LessEqual t (a ∷ b ∷ []) h = refl
operands-counted s operation.GreaterEqual t (a ∷ b ∷ []) h = refl
operands-counted s operation.Equal t (a ∷ b ∷ []) h = refl
operands-counted s operation.NotEqual t (a ∷ b ∷ []) h = refl
operands-counted s operation.Not t (a ∷ []) h = refl
operands-counted s operation.Convert t (a ∷ []) h = refl
operands-counted s (operation.ElementAfter e) t (a ∷ b ∷ []) h = refl
operands-counted s (operation.ElementBefore e) t (a ∷ b ∷ []) h = refl
operands-counted s (operation.ElementsBetween e) t (a ∷ b ∷ []) h = refl
operands-counted s (operation.Field number index) t (a ∷ []) h = refl
operands-counted s op t ts h = absurd (false≢true h)

-- one operand and two, the latest first
unary-does : (f : Value → Result Value Trap) (x : Here) (us rest : List Value) → length us ≡ 1 → unary f x (us ++ rest) ≡ gives x rest (of_one f (reverse us))
unary-does f x [] rest e = absurd (omega arith)
unary-does f x (a ∷ []) rest e = refl
unary-does f x (a ∷ b ∷ us) rest e = absurd (omega arith)

binary-does : (f : Value → Value → Result Value Trap) (x : Here) (us rest : List Value) → length us ≡ 2 →
    binary f x (us ++ rest) ≡ gives x rest (of_two f (reverse us))
binary-does f x [] rest e = absurd (omega arith)
binary-does f x (b ∷ []) rest e = absurd (omega arith)
binary-does f x (b ∷ a ∷ []) rest e = refl
binary-does f x (b ∷ a ∷ z ∷ us) rest e = absurd (omega arith)

-- ---- what an operation needs of the table

-- the type that the operation resolves is there, and its field
abbrev Resolves : Scope → Operation → ℕ → Type 0
Resolves s operation.Add t = is_some (slice_get s.types.types t) ≡ true
Resolves s operation.Subtract t = is_some (slice_get s.types.types t) ≡ true
Resolves s operation.Multiply t = is_some (slice_get s.types.types t) ≡ true
Resolves s operation.Divide t = is_some (slice_get s.types.types t) ≡ true
Resolves s operation.Remainder t = is_some (slice_get s.types.types t) ≡ true
Resolves s operation.Convert t = is_some (slice_get s.types.types t) ≡ true
Resolves s (operation.Field number index) t = is_some (fields_of s.types number) ≡ true
Resolves s _ t = Unit {0}

field-there : (s : Scope) (t index : ℕ) (o : Option (List FieldDecl)) →
    points_to_field s t (option_and_then (λ fields. slice_get fields index) o) ≡ true → is_some o ≡ true
field-there s t index None h = absurd (false≢true h)
field-there s t index (Some fields) h = refl

module _ (s : Scope) (scalars : take 4 s.types.types ≡ ty.Char ∷ ty.Int ∷ ty.Long ∷ ty.Mutex ∷ []) where
  arithmetic-resolves : (t a b : ℕ) → (is_integer s a && is_integer s b && (common a b == t)) ≡ true → is_some (slice_get s.types.types t) ≡ true
  arithmetic-resolves t a b h =
      let parts = and_parts (is_integer s a && is_integer s b) (common a b == t) h in
      subst (λ n. is_some (slice_get s.types.types n) ≡ true) (eqb-true (common a b) t (parts.1)) (common-there s.types scalars a b)

  resolves : (op : Operation) (t : ℕ) (ts : List ℕ) → is_operation s op t ts ≡ true → Resolves s op t
  resolves operation.Add t (a ∷ b ∷ []) h = arithmetic-resolves t a b h
  resolves operation.Subtract t (a ∷ b ∷ []) h = arithmetic-resolves t a b h
  resolves operation.Multiply t (a ∷ b ∷ []) h = arithmetic-resolves t a b h
  resolves operation.Divide t (a ∷ b ∷ []) h = arithmetic-resolves t a b h
  resolves operation.Remainder t (a ∷ b ∷ []) h = arithmetic-resolves t a b h
  resolves operation.Convert t (a ∷ []) h = integer-there (slice_get s.types.types t) ((and_parts (is_integer s a) (is_integer s t) h).1)
  resolves (operation.Field number index) t (p ∷ []) h =
      field-there s t index (fields_of s.types number) ((and_parts (points_to_struct s p number) (points_to_field s t (field_at s number index)) h).1)
  resolves operation.Less t ts h = tt
  resolves operation.Greater t ts h = tt
  resolves operation.LessEqual t ts h = tt
  resolves operation.GreaterEqual t ts h = tt
  resolves operation.Equal t ts h = tt
  resolves operation.NotEqual t ts h = tt
  resolves operation.Not t ts h = tt
  resolves (operation.ElementAfter e) t ts h = tt
  resolves (operation.ElementBefore e) t ts h = tt
  resolves (operation.ElementsBetween e) t ts h = tt
  resolves op t ts h = absurd (false≢true h)

-- ---- each operation

-- a missing type aside, arithmetic is that at the type of the instruction
arithmetic-at : (f : Ty → Value → Value → Result Value Trap) (o : Option Ty) (vs : List Value) → is_some o ≡ true → arithmetic f o vs ≡ of_two (f (or_char o)) vs
arithmetic-at f None vs h = absurd (false≢true h)
arithmetic-at f (Some u) vs h = refl

converting-at : (o : Option Ty) (vs : List Value) → is_some o ≡ true → of_one (λ a. at_type (λ u. narrowed u a) o) vs ≡ of_one (narrowed (or_char o)) vs
converting-at None vs h = absurd (false≢true h)
converting-at (Some u) vs h = refl

module _ (s : Scope) (entries : List ℕ) (x : Here) (us rest : List Value) where
  -- the instruction, and what the operation gives
  abbrev Does : Operation → ℕ → Type 0
  Does op t = do_one entries (operation_code s.types op t) x (us ++ rest) ≡ gives x rest (apply_operation s.types op t (reverse us))

  by-arithmetic : (f : Ty → Value → Value → Result Value Trap) (o : Option Ty) → length us ≡ 2 → is_some o ≡ true →
      binary (f (or_char o)) x (us ++ rest) ≡ gives x rest (arithmetic f o (reverse us))
  by-arithmetic f o two there = binary-does (f (or_char o)) x us rest two ∙ ap (gives x rest) (sym (arithmetic-at f o (reverse us) there))

  does-it : (op : Operation) (t : ℕ) → length us ≡ arity op → Resolves s op t → Does op t
  does-it operation.Add t n there = by-arithmetic sum_of (slice_get s.types.types t) n there
  does-it operation.Subtract t n there = by-arithmetic difference_of (slice_get s.types.types t) n there
  does-it operation.Multiply t n there = by-arithmetic product_of (slice_get s.types.types t) n there
  does-it operation.Divide t n there = by-arithmetic quotient_of (slice_get s.types.types t) n there
  does-it operation.Remainder t n there = by-arithmetic remainder_of (slice_get s.types.types t) n there
  does-it operation.Less t n there = binary-does less_value x us rest n
  does-it operation.Greater t n there = binary-does greater_value x us rest n
  does-it operation.LessEqual t n there = binary-does less_equal_value x us rest n
  does-it operation.GreaterEqual t n there = binary-does greater_equal_value x us rest n
  does-it operation.Equal t n there = binary-does equal_value x us rest n
  does-it operation.NotEqual t n there = binary-does not_equal_value x us rest n
  does-it operation.Not t n there = unary-does not_value x us rest n
  does-it operation.Convert t n there =
      unary-does (narrowed (type_at s.types t)) x us rest n ∙ ap (gives x rest) (sym (converting-at (slice_get s.types.types t) (reverse us) there))
  does-it (operation.ElementAfter e) t n there = binary-does (element_sum (width s.types e)) x us rest n
  does-it (operation.ElementBefore e) t n there = binary-does (λ p i. element_before p i (width s.types e)) x us rest n
  does-it (operation.ElementsBetween e) t n there = binary-does (λ p q. elements_between p q (width s.types e)) x us rest n
  does-it (operation.Field number index) t n there = by_fields (fields_of s.types number) there
    where
      by_fields : (o : Option (List FieldDecl)) → is_some o ≡ true →
          do_one entries (instr.Field (cells_to s.types o index)) x (us ++ rest) ≡ gives x rest (of_one (field_place s.types o index) (reverse us))
      by_fields None h = absurd (false≢true h)
      by_fields (Some fields) h = unary-does (field_place s.types (Some fields) index) x us rest n

  -- for operands of as many types as the operation takes
  pub operation-does : take 4 s.types.types ≡ ty.Char ∷ ty.Int ∷ ty.Long ∷ ty.Mutex ∷ [] → (op : Operation) (t : ℕ) (ts : List ℕ) →
      is_operation s op t ts ≡ true → length us ≡ length ts → Does op t
  operation-does scalars op t ts h n = does-it op t (n ∙ operands-counted s op t ts h) (resolves s scalars op t ts h)
