-- What an expression is to the expression around it: its tree has the type that typing says.
use Rattle.std.proofs.Common.{◌≡◌, ℕ, ℤ, pos, ◌&&◌, Bool, true, false, slice_get, Some, Ok, refl, subst}
use Rattle.std.proofs.lemmas.Bool.{and_parts}
use Rattle.kt_tree.specs.Kinds.{Scope, fits_in}
use Rattle.kt_tree.specs.Typed.{kind, NoValue, Of}
use Rattle.kt_tree.specs.Tree.{Expression}
use Rattle.kt_names.specs.declared.ctype.CType.{CType}
use Rattle.kt_names.specs.declared.fault.CheckFault.TheVariants.{BadType}
use Rattle.kt_names.specs.Checked.{and_then}
use Rattle.kt_names.specs.Types.{char, int, pointer_to, is_integer, is_pointer, is_scalar, same_ctype}
use Rattle.kt_names.specs.Environment.{Environment}
use Rattle.kt_names.specs.Operands.{Operand, Valued, Zero, Null, LocalPlace, CellPlace, ArrayPlace, WholePlace, NoResult, Value, value_of_type, number_value, zero as zero_of, null_of, load, value, scalar, tested, integer, pointer, converted_to, convert_value, convert_null, convert}
use Rattle.kt_terms.proofs.Agrees.{Agrees, Has, Holds}
use Rattle.kt_terms.proofs.Gives.{Gives, given, faulty, if-test, by-test, afterwards}
use Rattle.kt_terms.proofs.SoundTypes.{same-ctypes, integer-of, integer-there, int-place, pointer-there, pointer-scalar, by-pointer, scalar-there, holds-integer, of_int, points}

-- the expression has the value of a type
abbrev pub ValueOf : Environment → Scope → CType → Expression → Type 0
ValueOf env s t e = (kind s e ≡ Some (Of (env.place t))) × Holds s.types.types t

-- the expression is a pointer to a type
abbrev pub PointerAt : Environment → Scope → CType → Expression → Type 0
PointerAt env s t p = (kind s p ≡ Some (Of (env.place (pointer_to t)))) × Has s.types.types (pointer_to t)

abbrev pub IsOperand : Environment → Scope → Operand → Type 0
IsOperand env s (Valued t e) = ValueOf env s t e
IsOperand env s Zero = Unit {0}
IsOperand env s Null = Has s.types.types (pointer_to char)
IsOperand env s (LocalPlace x t) = (slice_get s.locals x ≡ Some (env.place t)) × Holds s.types.types t
IsOperand env s (CellPlace t p) = PointerAt env s t p × (is_scalar t ≡ true)
IsOperand env s (ArrayPlace t p) = PointerAt env s t p
IsOperand env s (WholePlace t p) = PointerAt env s t p
IsOperand env s (NoResult e) = kind s e ≡ Some NoValue

abbrev pub IsValue : Environment → Scope → Value → Type 0
IsValue env s v = ValueOf env s v.ty v.expression

abbrev pub IsInteger : Environment → Scope → Value → Type 0
IsInteger env s v = IsValue env s v × (is_integer v.ty ≡ true)

abbrev pub IsPointer : Environment → Scope → Value → Type 0
IsPointer env s v = IsValue env s v × (is_pointer v.ty ≡ true)

module _ (env : Environment) (s : Scope) (agrees : Agrees env s) where
  pub int-number : (n : ℤ) → fits_in 31 n ≡ true → ValueOf env s int (number_value env int n)
  int-number n fits = (rw (int-place env s agrees, fits) refl, holds-integer env s agrees of_int)

  pub zero-value : ValueOf env s int (zero_of env)
  zero-value = int-number (pos 0) refl

  null-pointer : (e : CType) → Has s.types.types (pointer_to e) → ValueOf env s (pointer_to e) (null_of env (pointer_to e))
  null-pointer e has = (rw (pointer-there env s agrees e has) refl, (has, pointer-scalar e))

  pub null-value : (t : CType) → is_pointer t ≡ true → Has s.types.types t → ValueOf env s t (null_of env t)
  null-value t is has = by-pointer env s agrees (λ p. Has s.types.types p → ValueOf env s p (null_of env p)) t is null-pointer has

  pub load-value : (t : CType) (p : Expression) → PointerAt env s t p → is_scalar t ≡ true → ValueOf env s t (load env t p)
  load-value t p h is =
      let holds : Holds s.types.types t = (h.1.1, is) in
      (rw (h.0, points env s agrees t h.1, scalar-there env s agrees t holds) refl, holds)

  pub value-sound : (own up : ℕ) (o : Operand) → IsOperand env s o → Gives (IsValue env s) (value env own up o)
  value-sound own up (Valued t e) h = given _ _ h
  value-sound own up Zero h = given _ _ zero-value
  value-sound own up Null h = faulty _ _
  value-sound own up (LocalPlace x t) h = given _ _ (rw h.0 refl, h.1)
  value-sound own up (CellPlace t p) h = given _ _ (load-value t p h.0 h.1)
  value-sound own up (ArrayPlace t p) h = given _ _ (h.0, (h.1, pointer-scalar t))
  value-sound own up (WholePlace t p) h = faulty _ _
  value-sound own up (NoResult e) h = faulty _ _

  pub scalar-sound : (own up : ℕ) (o : Operand) → IsOperand env s o → Gives (IsValue env s) (scalar env own up o)
  scalar-sound own up Null h = given _ _ (null-pointer char h)
  scalar-sound own up o h = value-sound own up o h

  pub integer-sound : (own up : ℕ) (o : Operand) → IsOperand env s o → Gives (IsInteger env s) (integer env own up o)
  integer-sound own up o h =
      afterwards (IsValue env s) (IsInteger env s) (value env own up o) (tested is_integer up) (value-sound own up o h)
      (λ v k. if-test (IsInteger env s) (is_integer v.ty) (Ok v) (BadType up) (λ t. given (IsInteger env s) v (k, t)))

  pub pointer-sound : (own up : ℕ) (o : Operand) → IsOperand env s o → Gives (IsPointer env s) (pointer env own up o)
  pointer-sound own up o h =
      afterwards (IsValue env s) (IsPointer env s) (value env own up o) (tested is_pointer up) (value-sound own up o h)
      (λ v k. if-test (IsPointer env s) (is_pointer v.ty) (Ok v) (BadType up) (λ t. given (IsPointer env s) v (k, t)))

  pub converted-value : (t : CType) (v : Value) → IsInteger env s v → is_integer t ≡ true → ValueOf env s t (converted_to env t v)
  converted-value t v h is = by (same_ctype v.ty t) refl
    where
      by : (b : Bool) → same_ctype v.ty t ≡ b → ValueOf env s t (converted_to env t v)
      by true e = rw e (subst (λ u. ValueOf env s u v.expression) (same-ctypes v.ty t e) h.0)
      by false e =
          rw e (
            rw (h.0.0, integer-there env s agrees (integer-of v.ty h.1), integer-there env s agrees (integer-of t is)) refl,
            holds-integer env s agrees (integer-of t is),
          )

  pub convert_value-sound : (t : CType) (up : ℕ) (v : Value) → IsValue env s v → Gives (ValueOf env s t) (convert_value env t up v)
  convert_value-sound t up v h =
      by-test (ValueOf env s t) (is_integer t && is_integer v.ty) _ _
      (λ both. let parts = and_parts (is_integer t) (is_integer v.ty) both in given (ValueOf env s t) _ (converted-value t v (h, parts.1) parts.0))
      (λ other. if-test (ValueOf env s t) (is_pointer t && same_ctype v.ty t) _ _
      (λ both. let parts = and_parts (is_pointer t) (same_ctype v.ty t) both in
      given (ValueOf env s t) _ (subst (λ u. ValueOf env s u v.expression) (same-ctypes v.ty t parts.1) h)))

  pub convert_null-sound : (t : CType) (up : ℕ) → Has s.types.types t → Gives (ValueOf env s t) (convert_null env t up)
  convert_null-sound t up has = if-test (ValueOf env s t) (is_pointer t) _ _ (λ is. given (ValueOf env s t) _ (null-value t is has))

  convert-other : (t : CType) (own up : ℕ) (o : Operand) → IsOperand env s o → Gives (ValueOf env s t) (and_then (value env own up o) (convert_value env t up))
  convert-other t own up o h =
      afterwards (IsValue env s) (ValueOf env s t) (value env own up o) (convert_value env t up) (value-sound own up o h) (convert_value-sound t up)

  pub convert-sound : (t : CType) (own up : ℕ) (o : Operand) → Has s.types.types t → IsOperand env s o → Gives (ValueOf env s t) (convert env t own up o)
  convert-sound t own up Null has h = convert_null-sound t up has
  convert-sound t own up Zero has h =
      by-test (ValueOf env s t) (is_integer t) _ _
      (λ is. given (ValueOf env s t) _ (converted-value t (value_of_type int (zero_of env)) (zero-value, refl) is))
      (λ other. convert_null-sound t up has)
  convert-sound t own up o has h = convert-other t own up o h
