-- Numbers, sums and comparisons: each operation takes its operands, and gives the type that typing says.
use Rattle.std.proofs.Common.{◌≡◌, ℕ, ◌^◌, ◌==◌, ◌&&◌, ◌||◌, not, nat_lt, nat_le, pos, Bool, true, false, [], ◌∷◌, Option, Some, None, Ok, if◌then◌else◌, refl, sym, ap, subst, ◌⊎◌, inl, inr, arith, leb-true, lt-ltb}
use Rattle.std.proofs.lemmas.Bool.{and_parts, or_left, or_right, or_parts, false≢true}
use Rattle.kt_lex.specs.declared.number.Number.{Number}
use Rattle.kt_lex.specs.Numbers.{greatest}
use Rattle.kt_grammar.specs.declared.operator.BinaryOperator.{BinaryOperator}
use Rattle.kt_grammar.specs.declared.operator.BinaryOperator.TheVariants as binary
use Rattle.kt_tree.specs.declared.expr.Operation.{Operation}
use Rattle.kt_tree.specs.declared.expr.Operation.TheVariants as operation
use Rattle.kt_tree.specs.Kinds as kinds
use Rattle.kt_tree.specs.Kinds.{Scope, is_operation, is_moved, is_comparable, int_type}
use Rattle.kt_names.specs.declared.ctype.CType.{CType}
use Rattle.kt_names.specs.declared.fault.CheckFault.{CheckFault}
use Rattle.kt_names.specs.declared.fault.CheckFault.TheVariants.{BadType, Incomplete}
use Rattle.kt_names.specs.Checked.{Checked, fault, and_then, found}
use Rattle.kt_names.specs.Types.{int, long, pointee, is_integer, is_pointer, same_ctype, common}
use Rattle.kt_names.specs.Environment.{Environment, is_complete}
use Rattle.kt_names.specs.Operands.{Operand, Value, value_of_type, number_value, null_of, pointer}
use Rattle.kt_names.specs.Views.{is_null}
use Rattle.kt_names.specs.Rules.{number, arithmetic_of, comparison_of, moving_of, Combined, moved, combined, elements_between, in_order, sum_of, comparable, compared, with_null, arm_values, of_values}
use Rattle.kt_terms.proofs.Agrees.{Agrees, Has, Holds}
use Rattle.kt_terms.proofs.Gives.{Gives, given, faulty, if-test, by-test, afterwards, pair}
use Rattle.kt_terms.proofs.Nulls.{with-both, with-first, with-second, with-neither, arms-both, arms-first, arms-second, arms-neither}
use Rattle.kt_terms.proofs.SoundTypes.{same-ctypes, number-itself, integer-of, is-integer, integer-there, integer-common, of_int, of_long, pointee-of, int-place, long-place, holds-integer, common-is, comparable-there}
use Rattle.kt_terms.proofs.SoundOperands.{ValueOf, IsOperand, IsValue, IsPointer, int-number, null-value, value-sound, scalar-sound, pointer-sound}
use Rattle.kt_terms.proofs.SoundPlaces.{of-two, pointing, moves}

-- ---- numbers

below-long : (n : ℕ) → nat_le n greatest ≡ true → nat_lt n (2 ^ 63) ≡ true
below-long n e = let le = leb-true n greatest e in lt-ltb n (2 ^ 63) (omega arith)

below-int : (n : ℕ) → nat_le n 2147483647 ≡ true → nat_lt n (2 ^ 31) ≡ true
below-int n e = let le = leb-true n 2147483647 e in lt-ltb n (2 ^ 31) (omega arith)

not-not : (b : Bool) → not b ≡ false → b ≡ true
not-not true e = refl
not-not false e = absurd (false≢true (sym e))

-- ---- which operations there are

arithmetic-takes : (s : Scope) (op : BinaryOperator) (f : CheckFault) (t a b : ℕ) → (kinds.is_integer s a && kinds.is_integer s b && (kinds.common a b == t)) ≡ true
    → Gives (λ o. is_operation s o t (a ∷ b ∷ []) ≡ true) (found (arithmetic_of op) f)
arithmetic-takes s binary.Add f t a b h = given _ _ h
arithmetic-takes s binary.Subtract f t a b h = given _ _ h
arithmetic-takes s binary.Multiply f t a b h = given _ _ h
arithmetic-takes s binary.Divide f t a b h = given _ _ h
arithmetic-takes s binary.Remainder f t a b h = given _ _ h
arithmetic-takes s _ f t a b h = faulty _ _

moving-takes : (s : Scope) (op : BinaryOperator) (f : CheckFault) (e t p i : ℕ) → is_moved s e t p i ≡ true → Gives (λ o. is_operation s o t (p ∷ i ∷ []) ≡ true) (found (moving_of op e) f)
moving-takes s binary.Add f e t p i h = given _ _ (or_left _ _ h)
moving-takes s binary.Subtract f e t p i h = given _ _ h
moving-takes s _ f e t p i h = faulty _ _

-- an integer may stand before the pointer
moving-back : (s : Scope) (f : CheckFault) (e t p i : ℕ) → is_moved s e t p i ≡ true → Gives (λ o. is_operation s o t (i ∷ p ∷ []) ≡ true) (found (moving_of binary.Add e) f)
moving-back s f e t p i h = given _ _ (or_right _ _ h)

-- the operation compares two of a type
abbrev pub Compares : Operation → Type 0
Compares o = (s : Scope) (t a b : ℕ) → (is_comparable s a b && (t == int_type)) ≡ true → is_operation s o t (a ∷ b ∷ []) ≡ true

pub comparison-is : (op : BinaryOperator) (o : Operation) → comparison_of op ≡ Some o → Compares o
comparison-is binary.Less o e = let same : operation.Less ≡ o = cc in subst Compares same (λ s t a b h. h)
comparison-is binary.Greater o e = let same : operation.Greater ≡ o = cc in subst Compares same (λ s t a b h. h)
comparison-is binary.LessEqual o e = let same : operation.LessEqual ≡ o = cc in subst Compares same (λ s t a b h. h)
comparison-is binary.GreaterEqual o e = let same : operation.GreaterEqual ≡ o = cc in subst Compares same (λ s t a b h. h)
comparison-is binary.Equal o e = let same : operation.Equal ≡ o = cc in subst Compares same (λ s t a b h. h)
comparison-is binary.NotEqual o e = let same : operation.NotEqual ≡ o = cc in subst Compares same (λ s t a b h. h)
comparison-is _ o e = absurd cc

no-pointer : (t : CType) → is_integer t ≡ true → is_pointer t ≡ true → ⊥
no-pointer t i p =
    let zero-stars = (and_parts (t.stars == 0) _ i).0 in
    false≢true (rw zero-stars at p)

module _ (env : Environment) (s : Scope) (agrees : Agrees env s) where
  number-by : (n : Number) (b : Bool) → (n.long || not (nat_le n.value 2147483647)) ≡ b → nat_le n.value greatest ≡ true
      → ValueOf env s (if b then long else int) (number_value env (if b then long else int) (pos n.value))
  number-by n true e le = (rw (long-place env s agrees, below-long n.value le) refl, holds-integer env s agrees of_long)
  number-by n false e le =
      let parts = or_parts n.long (not (nat_le n.value 2147483647)) e in
      int-number env s agrees (pos n.value) (below-int n.value (not-not (nat_le n.value 2147483647) parts.1))

  pub number-sound : (at : ℕ) (n : Number) → Gives (IsOperand env s) (number env at n)
  number-sound at n =
      by-test (IsOperand env s) ((n.value == 0) && not n.long && not n.hexadecimal) _ _ (λ z. given (IsOperand env s) _ tt)
      (λ z. if-test (IsOperand env s) (nat_le n.value greatest) _ _ (λ le. given (IsOperand env s) _ (number-by n _ refl le)))

  -- ---- sums

  -- the operation takes the two, and gives either the first's type or an integer where that is one
  abbrev pub IsCombined : CType → CType → Combined → Type 0
  IsCombined a b c =
      (is_operation s c.operation (env.place c.own) (env.place a ∷ env.place b ∷ []) ≡ true)
      × Holds s.types.types c.own
      × ((c.own ≡ a) ⊎ ((is_integer c.own ≡ true) × (is_integer a ≡ true)))

  moved-by : (at : ℕ) (op : BinaryOperator) (t i : CType) (o : Option CType) → pointee t ≡ o → Holds s.types.types t → is_integer i ≡ true
      → Gives (IsCombined t i) (moved env at t o op)
  moved-by at op t i None is h whole = faulty _ _
  moved-by at op t i (Some e) is h whole =
      let same = pointee-of t e is in
      afterwards (λ m. is_complete env e ≡ true → is_operation s m (env.place t) (env.place t ∷ env.place i ∷ []) ≡ true) (IsCombined t i)
      (found (moving_of op (env.place e)) (BadType at)) _
      (record { gives = λ m is complete. (moving-takes s op (BadType at) (env.place e) (env.place t) (env.place t) (env.place i) (moves env s agrees t e i same h.0 complete whole)).gives m is })
      (λ m takes. if-test (IsCombined t i) (is_complete env e) _ _ (λ complete. given (IsCombined t i) _ (takes complete, h, inl refl)))

  pub combined-sound : (at : ℕ) (op : BinaryOperator) (a b : CType) → Holds s.types.types a → Gives (IsCombined a b) (combined env at op a b)
  unfolding combined
  combined-sound at op a b h =
      by-test (IsCombined a b) (is_integer a && is_integer b) _ _
      (λ is. let parts = and_parts (is_integer a) (is_integer b) is in
      let i = integer-of a parts.0 in
      let j = integer-of b parts.1 in
      afterwards (λ o. is_operation s o (env.place (common a b)) (env.place a ∷ env.place b ∷ []) ≡ true) (IsCombined a b) (found (arithmetic_of op) (BadType at)) _
      (arithmetic-takes s op (BadType at) (env.place (common a b)) (env.place a) (env.place b) (rw (integer-there env s agrees i, integer-there env s agrees j, common-is env s agrees i j) refl))
      (λ o takes. given (IsCombined a b) _ (takes, holds-integer env s agrees (integer-common i j), inr (is-integer (integer-common i j), parts.0))))
      (λ other. if-test (IsCombined a b) (is_integer b) _ _ (λ is. moved-by at op a b (pointee a) refl h is))

  -- the two the other way round
  abbrev IsTurned : CType → CType → Combined → Type 0
  IsTurned a b c = (is_operation s c.operation (env.place c.own) (env.place a ∷ env.place b ∷ []) ≡ true) × Holds s.types.types c.own

  turned-by : (at : ℕ) (i t : CType) (o : Option CType) → pointee t ≡ o → Holds s.types.types t → is_integer i ≡ true → Gives (IsTurned i t) (moved env at t o binary.Add)
  turned-by at i t None is h whole = faulty _ _
  turned-by at i t (Some e) is h whole =
      let same = pointee-of t e is in
      afterwards (λ m. is_complete env e ≡ true → is_operation s m (env.place t) (env.place i ∷ env.place t ∷ []) ≡ true) (IsTurned i t)
      (found (moving_of binary.Add (env.place e)) (BadType at)) (λ m. if is_complete env e then Ok (record { operation = m; own = t }) else fault (Incomplete at))
      (record { gives = λ m is complete. (moving-back s (BadType at) (env.place e) (env.place t) (env.place t) (env.place i) (moves env s agrees t e i same h.0 complete whole)).gives m is })
      (λ m takes. if-test (IsTurned i t) (is_complete env e) (Ok (record { operation = m; own = t })) (Incomplete at) (λ complete. given (IsTurned i t) _ (takes complete, h)))

  turned-sound : (at : ℕ) (i t : CType) → is_integer i ≡ true → is_pointer t ≡ true → Holds s.types.types t → Gives (IsTurned i t) (combined env at binary.Add t i)
  unfolding combined
  turned-sound at i t whole is h =
      by-test (IsTurned i t) (is_integer t && is_integer i) _ _
      (λ ints. absurd (no-pointer t (and_parts (is_integer t) (is_integer i) ints).0 is))
      (λ other. if-test (IsTurned i t) (is_integer i) _ _ (λ _. turned-by at i t (pointee t) refl h whole))

  in-order : (c : Combined) (a b : Value) → IsValue env s a → IsValue env s b → IsTurned a.ty b.ty c → IsOperand env s (in_order env c a b)
  in-order c a b h k t = (of-two s c.operation (env.place c.own) (env.place a.ty) (env.place b.ty) a.expression b.expression h.0 k.0 t.0, t.1)

  combination : (at : ℕ) (op : BinaryOperator) (a b : Value) → IsValue env s a → IsValue env s b
      → Gives (IsOperand env s) (and_then (combined env at op a.ty b.ty) (λ c. Ok (in_order env c a b)))
  combination at op a b h k =
      afterwards (IsCombined a.ty b.ty) (IsOperand env s) (combined env at op a.ty b.ty) _ (combined-sound at op a.ty b.ty h.1)
      (λ c t. given (IsOperand env s) _ (in-order c a b h k (t.0, t.1)))

  between-by : (at : ℕ) (a b : Value) (o : Option CType) → pointee a.ty ≡ o → same_ctype a.ty b.ty ≡ true → IsValue env s a → IsValue env s b → Gives (IsOperand env s) (elements_between env at a b o)
  between-by at a b None is same h k = faulty _ _
  between-by at a b (Some e) is same h k =
      let pointer = pointee-of a.ty e is in
      let inner : Has s.types.types e = (subst (λ p. Has s.types.types p) pointer h.1.0).1 in
      let places : env.place b.ty ≡ env.place a.ty = ap env.place (sym (same-ctypes a.ty b.ty same)) in
      if-test (IsOperand env s) (is_complete env e) _ _
      (λ complete. given (IsOperand env s) _ (
        of-two s (operation.ElementsBetween (env.place e)) (env.place long) (env.place a.ty) (env.place b.ty) a.expression b.expression h.0 k.0
            (rw (places, number-itself (env.place a.ty), pointing env s agrees a.ty e pointer h.1.0, agrees.complete e inner complete, long-place env s agrees) refl),
        holds-integer env s agrees of_long,
      ))

  pub sum-sound : (at : ℕ) (op : BinaryOperator) (a b : Value) → IsValue env s a → IsValue env s b → Gives (IsOperand env s) (sum_of env at op a b)
  sum-sound at binary.Subtract a b h k =
      by-test (IsOperand env s) (is_pointer a.ty && same_ctype a.ty b.ty) _ _
      (λ both. between-by at a b (pointee a.ty) refl (and_parts (is_pointer a.ty) (same_ctype a.ty b.ty) both).1 h k)
      (λ other. combination at binary.Subtract a b h k)
  sum-sound at binary.Add a b h k =
      by-test (IsOperand env s) (is_integer a.ty && is_pointer b.ty) _ _
      (λ both. let parts = and_parts (is_integer a.ty) (is_pointer b.ty) both in
      afterwards (IsTurned a.ty b.ty) (IsOperand env s) (combined env at binary.Add b.ty a.ty) _ (turned-sound at a.ty b.ty parts.0 parts.1 k.1)
      (λ c t. given (IsOperand env s) _ (in-order c a b h k t)))
      (λ other. combination at binary.Add a b h k)
  sum-sound at op a b h k = combination at op a b h k

  -- ---- comparisons

  pub compared-sound : (at : ℕ) (op : Operation) (a b : Value) → Compares op → IsValue env s a → IsValue env s b → Gives (IsOperand env s) (compared env at op a b)
  compared-sound at op a b compares h k =
      if-test (IsOperand env s) (comparable a.ty b.ty) _ _
      (λ is. given (IsOperand env s) _ (
        of-two s op (env.place int) (env.place a.ty) (env.place b.ty) a.expression b.expression h.0 k.0
            (compares s (env.place int) (env.place a.ty) (env.place b.ty) (rw (comparable-there env s agrees a.ty b.ty h.1.0 is, int-place env s agrees) refl)),
        holds-integer env s agrees of_int,
      ))

  abbrev pub AreValues : Value × Value → Type 0
  AreValues x = IsValue env s x.0 × IsValue env s x.1

  null-first : (own up : ℕ) (b : Operand) → IsOperand env s b → Gives AreValues (and_then (pointer env own up b) (λ v. Ok (value_of_type v.ty (null_of env v.ty), v)))
  null-first own up b k =
      afterwards (IsPointer env s) AreValues (pointer env own up b) _ (pointer-sound env s agrees own up b k)
      (λ v h. given AreValues _ (null-value env s agrees v.ty h.1 h.0.1.0, h.0))

  null-second : (own up : ℕ) (a : Operand) → IsOperand env s a → Gives AreValues (and_then (pointer env own up a) (λ v. Ok (v, value_of_type v.ty (null_of env v.ty))))
  null-second own up a h =
      afterwards (IsPointer env s) AreValues (pointer env own up a) _ (pointer-sound env s agrees own up a h)
      (λ v k. given AreValues _ (k.0, null-value env s agrees v.ty k.1 k.0.1.0))

  pub with-null-sound : (at right : ℕ) (a b : Operand) → IsOperand env s a → IsOperand env s b → Gives AreValues (with_null env at right a b)
  with-null-sound at right a b h k = by (is_null a) (is_null b) refl refl
    where
      by : (m n : Bool) → is_null a ≡ m → is_null b ≡ n → Gives AreValues (with_null env at right a b)
      by true true e f = rw (with-both env at right a b e f) (pair (IsValue env s) (IsValue env s) _ _ (scalar-sound env s agrees at at a h) (scalar-sound env s agrees right at b k))
      by true false e f = rw (with-first env at right a b e f) (null-first right at b k)
      by false true e f = rw (with-second env at right a b e f) (null-second at at a h)
      by false false e f = rw (with-neither env at right a b e f) (pair (IsValue env s) (IsValue env s) _ _ (value-sound env s agrees at at a h) (value-sound env s agrees right at b k))

  pub arm-values-sound : (at one other : ℕ) (a b : Operand) → IsOperand env s a → IsOperand env s b → Gives AreValues (arm_values env at one other a b)
  arm-values-sound at one other a b h k = by (is_null a) (is_null b) refl refl
    where
      by : (m n : Bool) → is_null a ≡ m → is_null b ≡ n → Gives AreValues (arm_values env at one other a b)
      by true true e f = rw (arms-both env at one other a b e f) (pair (IsValue env s) (IsValue env s) _ _ (scalar-sound env s agrees one at a h) (scalar-sound env s agrees other at b k))
      by true false e f = rw (arms-first env at one other a b e f) (null-first other at b k)
      by false true e f = rw (arms-second env at one other a b e f) (null-second one at a h)
      by false false e f = rw (arms-neither env at one other a b e f) (pair (IsValue env s) (IsValue env s) _ _ (value-sound env s agrees one at a h) (value-sound env s agrees other at b k))

  values-by : (at : ℕ) (op : BinaryOperator) (a b : Value) (o : Option Operation) → comparison_of op ≡ o → IsValue env s a → IsValue env s b
      → Gives (IsOperand env s) (elim o as (λ _. Checked Operand) [ None ↦ sum_of env at op a b | (Some p) ↦ compared env at p a b ])
  values-by at op a b None is h k = sum-sound at op a b h k
  values-by at op a b (Some p) is h k = compared-sound at p a b (comparison-is op p is) h k

  pub of_values-sound : (at : ℕ) (op : BinaryOperator) (a b : Value) → IsValue env s a → IsValue env s b → Gives (IsOperand env s) (of_values env at op a b)
  of_values-sound at op a b h k = values-by at op a b (comparison_of op) refl h k
