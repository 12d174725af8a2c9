-- Operators: what an operator gives has the type that typing says, where its operands have theirs.
use Rattle.std.proofs.Common.{◌≡◌, ℕ, ◌==◌, ◌&&◌, ◌||◌, pos, Bool, true, false, [], ◌∷◌, slice_get, Option, Some, None, Ok, if◌then◌else◌, refl, sym, ap, subst, ◌⊎◌, inl, inr}
use Rattle.std.proofs.lemmas.Bool.{and_parts, and_from, or_left, or_right}
use Rattle.std.proofs.lemmas.Bool.Decides.{Decides-eqb}
use Rattle.kt_grammar.specs.declared.operator.BinaryOperator.{BinaryOperator}
use Rattle.kt_grammar.specs.declared.operator.BinaryOperator.TheVariants as binary
use Rattle.kt_grammar.specs.declared.operator.AssignOperator.{AssignOperator}
use Rattle.kt_grammar.specs.declared.operator.PrefixOperator.{PrefixOperator}
use Rattle.kt_grammar.specs.declared.operator.PrefixOperator.TheVariants as prefix
use Rattle.kt_tree.specs.declared.expr.Operation.{Operation}
use Rattle.kt_tree.specs.declared.expr.Operation.TheVariants as operation
use Rattle.kt_tree.specs.declared.expr.Request.TheVariants as request
use Rattle.kt_tree.specs.Kinds as kinds
use Rattle.kt_tree.specs.Kinds.{Scope, is_operation, points_to}
use Rattle.kt_tree.specs.Typed.{kind, Of, is_choice}
use Rattle.kt_tree.specs.Tree.{Expression, LocalRead, LocalSet, Operated, Requested, Modified, Both, Either, Chosen, NoMore, More}
use Rattle.kt_names.specs.declared.ctype.Root.{Root}
use Rattle.kt_names.specs.declared.ctype.Root.TheVariants as root
use Rattle.kt_names.specs.declared.ctype.CType.{CType}
use Rattle.kt_names.specs.declared.fault.CheckFault.{CheckFault}
use Rattle.kt_names.specs.declared.fault.CheckFault.TheVariants.{BadType}
use Rattle.kt_names.specs.Checked.{Checked, and_then, both, found}
use Rattle.kt_names.specs.Types.{int, pointee, is_integer, is_pointer, is_scalar, same_root, same_ctype, common}
use Rattle.kt_names.specs.Environment.{Environment}
use Rattle.kt_names.specs.Operands.{Operand, Valued, LocalPlace, CellPlace, WholePlace, Value, value_of_type, zero as zero_of, value, scalar, integer, pointer, converted_to, convert}
use Rattle.kt_names.specs.Rules.{operated, Combined, combined, equal, compared, with_null, of_values, operator, arms, arm_values, chosen_of, choice, compound_of, local_combined, local_changed, changed, assigned, assignment, one, dereferenced, address_of, unary}
use Rattle.kt_terms.proofs.Agrees.{Agrees, Has, Holds}
use Rattle.kt_terms.proofs.Gives.{Gives, given, faulty, afterwards, pair}
use Rattle.kt_terms.proofs.SoundTypes.{same-ctypes, number-itself, Integer, of_char, of_int, of_long, integer-of, integer-there, integer-common, pointee-of, int-place, is-pointer-there, scalar-there, holds-integer, common-is, points, pointer-scalar}
use Rattle.kt_terms.proofs.SoundOperands.{ValueOf, PointerAt, IsOperand, IsValue, IsInteger, IsPointer, int-number, zero-value, value-sound, scalar-sound, integer-sound, pointer-sound, converted-value, convert-sound}
use Rattle.kt_terms.proofs.SoundPlaces.{of-one, of-two, place_at-sound}
use Rattle.kt_terms.proofs.SoundArithmetic.{Compares, AreValues, IsCombined, combined-sound, compared-sound, with-null-sound, arm-values-sound, of_values-sound}

same-root-itself : (r : Root) → same_root r r ≡ true
same-root-itself root.Char = refl
same-root-itself root.Int = refl
same-root-itself root.Long = refl
same-root-itself root.Mutex = refl
same-root-itself (root.Struct s) = number-itself s

pub same-itself : (t : CType) → same_ctype t t ≡ true
same-itself t = and_from (same_root t.root t.root) (t.stars == t.stars) (same-root-itself t.root) (number-itself t.stars)

-- the type of a negated integer
negated : {t : CType} → Integer t → common int t ≡ common t t
negated of_char = refl
negated of_int = refl
negated of_long = refl

module _ (env : Environment) (s : Scope) (agrees : Agrees env s) where
  both-value : (a b : Value) → IsValue env s a → IsValue env s b → ValueOf env s int (Both a.expression b.expression)
  both-value a b h k =
      (rw (h.0, k.0, scalar-there env s agrees a.ty h.1, scalar-there env s agrees b.ty k.1, int-place env s agrees) refl, holds-integer env s agrees of_int)

  either-value : (a b : Value) → IsValue env s a → IsValue env s b → ValueOf env s int (Either a.expression b.expression)
  either-value a b h k =
      (rw (h.0, k.0, scalar-there env s agrees a.ty h.1, scalar-there env s agrees b.ty k.1, int-place env s agrees) refl, holds-integer env s agrees of_int)

  equal-sound : (at right : ℕ) (op : Operation) (a b : Operand) → Compares op → IsOperand env s a → IsOperand env s b → Gives (IsOperand env s) (equal env at right op a b)
  equal-sound at right op a b compares h k =
      afterwards (AreValues env s agrees) (IsOperand env s) (with_null env at right a b) (λ x. compared env at op x.0 x.1) (with-null-sound env s agrees at right a b h k)
      (λ x g. compared-sound env s agrees at op x.0 x.1 compares g.0 g.1)

  scalars-sound : (at right : ℕ) (a b : Operand) → IsOperand env s a → IsOperand env s b → Gives (AreValues env s agrees) (both (scalar env at at a) (scalar env right at b))
  scalars-sound at right a b h k = pair (IsValue env s) (IsValue env s) _ _ (scalar-sound env s agrees at at a h) (scalar-sound env s agrees right at b k)

  values-sound : (at right : ℕ) (op : BinaryOperator) (a b : Operand) → IsOperand env s a → IsOperand env s b
      → Gives (IsOperand env s) (and_then (both (value env at at a) (value env right at b)) (λ x. of_values env at op x.0 x.1))
  values-sound at right op a b h k =
      afterwards (AreValues env s agrees) (IsOperand env s) (both (value env at at a) (value env right at b)) (λ x. of_values env at op x.0 x.1)
      (pair (IsValue env s) (IsValue env s) _ _ (value-sound env s agrees at at a h) (value-sound env s agrees right at b k))
      (λ x g. of_values-sound env s agrees at op x.0 x.1 g.0 g.1)

  pub operator-sound : (at right : ℕ) (op : BinaryOperator) (a b : Operand) → IsOperand env s a → IsOperand env s b → Gives (IsOperand env s) (operator env at right op a b)
  operator-sound at right binary.And a b h k =
      afterwards (AreValues env s agrees) (IsOperand env s) (both (scalar env at at a) (scalar env right at b)) (λ x. Ok (Valued int (Both x.0.expression x.1.expression)))
      (scalars-sound at right a b h k) (λ x g. given (IsOperand env s) _ (both-value x.0 x.1 g.0 g.1))
  operator-sound at right binary.Or a b h k =
      afterwards (AreValues env s agrees) (IsOperand env s) (both (scalar env at at a) (scalar env right at b)) (λ x. Ok (Valued int (Either x.0.expression x.1.expression)))
      (scalars-sound at right a b h k) (λ x g. given (IsOperand env s) _ (either-value x.0 x.1 g.0 g.1))
  operator-sound at right binary.Equal a b h k = equal-sound at right operation.Equal a b (λ s t a b h. h) h k
  operator-sound at right binary.NotEqual a b h k = equal-sound at right operation.NotEqual a b (λ s t a b h. h) h k
  operator-sound at right op a b h k = values-sound at right op a b h k

  -- ---- choices

  abbrev IsArm : Value → Value → CType → Type 0
  IsArm a b t = Holds s.types.types t × (is_choice s (env.place t) (env.place a.ty) (env.place b.ty) ≡ true)

  arms-by : (f : CheckFault) (a b : Value) (i p : Bool) → (is_integer a.ty && is_integer b.ty) ≡ i → (is_pointer a.ty && same_ctype a.ty b.ty) ≡ p → IsValue env s a
      → Gives (IsArm a b) (found (if i then Some (common a.ty b.ty) else (if p then Some a.ty else None)) f)
  arms-by f a b true p e g h =
      let parts = and_parts (is_integer a.ty) (is_integer b.ty) e in
      let i = integer-of a.ty parts.0 in
      let j = integer-of b.ty parts.1 in
      let takes : (kinds.is_integer s (env.place a.ty) && kinds.is_integer s (env.place b.ty) && (kinds.common (env.place a.ty) (env.place b.ty) == env.place (common a.ty b.ty))) ≡ true =
      and_from _ _ (and_from _ _ (integer-there env s agrees i) (integer-there env s agrees j)) (common-is env s agrees i j) in
      given (IsArm a b) _ (holds-integer env s agrees (integer-common i j), or_left _ _ takes)
  arms-by f a b false true e g h =
      let parts = and_parts (is_pointer a.ty) (same_ctype a.ty b.ty) g in
      let places : env.place b.ty ≡ env.place a.ty = ap env.place (sym (same-ctypes a.ty b.ty parts.1)) in
      let takes : (kinds.is_pointer s (env.place a.ty) && (env.place a.ty == env.place a.ty) && (env.place b.ty == env.place a.ty)) ≡ true =
      and_from _ _ (and_from _ _ (is-pointer-there env s agrees a.ty h.1.0 parts.0) (number-itself (env.place a.ty))) ((Decides-eqb (env.place b.ty) (env.place a.ty)).1 places) in
      given (IsArm a b) _ (h.1, or_right _ _ takes)
  arms-by f a b false false e g h = faulty _ _

  chosen-sound : (at : ℕ) (x : Value × (Value × Value)) → IsValue env s x.0 → AreValues env s agrees x.1 → Gives (IsOperand env s) (chosen_of env at x)
  chosen-sound at x h k =
      afterwards (IsArm x.1.0 x.1.1) (IsOperand env s) (found (arms x.1.0 x.1.1) (BadType at)) _ (arms-by (BadType at) x.1.0 x.1.1 _ _ refl refl k.0)
      (λ t arm. given (IsOperand env s) (Valued t (Chosen x.0.expression (env.place t) x.1.0.expression x.1.1.expression))
      (rw (h.0, k.0.0, k.1.0, scalar-there env s agrees x.0.ty h.1, arm.1) refl, arm.0))

  pub choice-sound : (at one other : ℕ) (c a b : Operand) → IsOperand env s c → IsOperand env s a → IsOperand env s b → Gives (IsOperand env s) (choice env at one other c a b)
  choice-sound at one other c a b g h k =
      afterwards (λ x. IsValue env s x.0 × AreValues env s agrees x.1) (IsOperand env s) (both (scalar env at at c) (arm_values env at one other a b)) (chosen_of env at)
      (pair (IsValue env s) (AreValues env s agrees) _ _ (scalar-sound env s agrees at at c g) (arm-values-sound env s agrees at one other a b h k))
      (λ x p. chosen-sound at x p.0 p.1)

  -- ---- assignment

  local-set : (old : Bool) (x t : ℕ) (e : Expression) → slice_get s.locals x ≡ Some t → kind s e ≡ Some (Of t) → kind s (local_changed old x e) ≡ Some (Of t)
  local-set false x t e at k = rw (at, k, number-itself t) refl
  local-set true x t e at k = rw (at, k, number-itself t) refl

  -- what is combined, as its place takes it
  as-taken : (t : CType) (v : Value) → IsValue env s v → (v.ty ≡ t) ⊎ ((is_integer v.ty ≡ true) × (is_integer t ≡ true)) → ValueOf env s t (converted_to env t v)
  as-taken t v h (inl same) = rw (subst (λ u. same_ctype v.ty u ≡ true) same (same-itself v.ty)) (subst (λ u. ValueOf env s u v.expression) same h)
  as-taken t v h (inr ints) = converted-value env s agrees t v (h, ints.0) ints.1

  changed-local : (x : ℕ) (t : CType) (old : Bool) (v : Value) (c : Combined) → IsOperand env s (LocalPlace x t) → IsValue env s v → IsCombined env s agrees t v.ty c
      → ValueOf env s t (local_changed old x (local_combined env x t c v))
  changed-local x t old v c h k g =
      let value = value_of_type c.own (operated env c.operation c.own (LocalRead x) v.expression) in
      let read : kind s (LocalRead x) ≡ Some (Of (env.place t)) = rw h.0 refl in
      let whole : IsValue env s value = (of-two s c.operation (env.place c.own) (env.place t) (env.place v.ty) (LocalRead x) v.expression read k.0 g.0, g.1) in
      let taken = as-taken t value whole g.2 in
      (local-set old x (env.place t) _ h.0 taken.0, h.1)

  own-fits : (t : CType) (c : Combined) → (c.own ≡ t) ⊎ ((is_integer c.own ≡ true) × (is_integer t ≡ true))
      → ((env.place c.own == env.place t) || (kinds.is_integer s (env.place c.own) && kinds.is_integer s (env.place t))) ≡ true
  own-fits t c (inl same) =
      let one : (env.place c.own == env.place t) ≡ true = (Decides-eqb (env.place c.own) (env.place t)).1 (ap env.place same) in
      or_left _ _ one
  own-fits t c (inr ints) = or_right _ _ (and_from _ _ (integer-there env s agrees (integer-of c.own ints.0)) (integer-there env s agrees (integer-of t ints.1)))

  changed-cell : (t : CType) (p : Expression) (old : Bool) (v : Value) (c : Combined) → IsOperand env s (CellPlace t p) → IsValue env s v → IsCombined env s agrees t v.ty c
      → ValueOf env s t (Modified c.operation (env.place c.own) (env.place t) old p v.expression)
  changed-cell t p old v c h k g =
      let holds : Holds s.types.types t = (h.0.1.1, h.1) in
      (rw (h.0.0, k.0, points env s agrees t h.0.1, scalar-there env s agrees t holds, g.0, own-fits t c g.2) refl, holds)

  pub changed-sound : (at : ℕ) (old : Bool) (op : BinaryOperator) (a : Operand) (v : Value) → IsOperand env s a → IsValue env s v → Gives (IsOperand env s) (changed env at old op a v)
  changed-sound at old op (LocalPlace x t) v h k =
      afterwards (IsCombined env s agrees t v.ty) (IsOperand env s) (combined env at op t v.ty) (λ c. Ok (Valued t (local_changed old x (local_combined env x t c v))))
      (combined-sound env s agrees at op t v.ty h.1)
      (λ c g. given (IsOperand env s) _ (changed-local x t old v c h k g))
  changed-sound at old op (CellPlace t p) v h k =
      afterwards (IsCombined env s agrees t v.ty) (IsOperand env s) (combined env at op t v.ty)
      (λ c. Ok (Valued t (Modified c.operation (env.place c.own) (env.place t) old p v.expression)))
      (combined-sound env s agrees at op t v.ty (h.0.1.1, h.1))
      (λ c g. given (IsOperand env s) _ (changed-cell t p old v c h k g))
  changed-sound at old op _ v h k = faulty _ _

  stored : (t : CType) (p v : Expression) → PointerAt env s t p × (is_scalar t ≡ true) → ValueOf env s t v
      → ValueOf env s t (Requested request.Store (Some (env.place t)) (More p (More v NoMore)))
  stored t p v h k = (rw (h.0.0, k.0, points env s agrees t h.0.1, scalar-there env s agrees t k.1, number-itself (env.place t)) refl, k.1)

  assigned-sound : (at right : ℕ) (a e : Operand) → IsOperand env s a → IsOperand env s e → Gives (IsOperand env s) (assigned env at right a e)
  assigned-sound at right (LocalPlace x t) e h k =
      afterwards (ValueOf env s t) (IsOperand env s) (convert env t right at e) (λ v. Ok (Valued t (LocalSet x v))) (convert-sound env s agrees t right at e h.1.0 k)
      (λ v g. given (IsOperand env s) _ (local-set false x (env.place t) v h.0 g.0, h.1))
  assigned-sound at right (CellPlace t p) e h k =
      afterwards (ValueOf env s t) (IsOperand env s) (convert env t right at e) (λ v. Ok (Valued t (Requested request.Store (Some (env.place t)) (More p (More v NoMore)))))
      (convert-sound env s agrees t right at e h.0.1.1 k)
      (λ v g. given (IsOperand env s) _ (stored t p v h g))
  assigned-sound at right _ e h k = faulty _ _

  assignment-by : (at right : ℕ) (o : Option BinaryOperator) (a e : Operand) → IsOperand env s a → IsOperand env s e
      → Gives (IsOperand env s) (elim o as (λ _. Checked Operand) [ None ↦ assigned env at right a e | (Some b) ↦ and_then (value env right at e) (λ v. changed env at false b a v) ])
  assignment-by at right None a e h k = assigned-sound at right a e h k
  assignment-by at right (Some b) a e h k =
      afterwards (IsValue env s) (IsOperand env s) (value env right at e) (λ v. changed env at false b a v) (value-sound env s agrees right at e k)
      (λ v g. changed-sound at false b a v h g)

  pub assignment-sound : (at right : ℕ) (op : AssignOperator) (a e : Operand) → IsOperand env s a → IsOperand env s e → Gives (IsOperand env s) (assignment env at right op a e)
  assignment-sound at right op a e h k = assignment-by at right (compound_of op) a e h k

  pub one-value : IsValue env s (one env)
  one-value = int-number env s agrees (pos 1) refl

  -- ---- operators of one operand

  dereferenced-by : (at : ℕ) (p : Value) (o : Option CType) → pointee p.ty ≡ o → IsPointer env s p → Gives (IsOperand env s) (dereferenced at p o)
  dereferenced-by at p None is h = faulty _ _
  dereferenced-by at p (Some e) is h =
      let same = pointee-of p.ty e is in
      given (IsOperand env s) _ (place_at-sound env s agrees e p.expression (rw (← same) h.0.0, subst (λ u. Has s.types.types u) same h.0.1.0))

  address-sound : (at : ℕ) (a : Operand) → IsOperand env s a → Gives (IsOperand env s) (address_of at a)
  address-sound at (CellPlace t p) h = given _ _ (h.0.0, (h.0.1, pointer-scalar t))
  address-sound at (WholePlace t p) h = given _ _ (h.0, (h.1, pointer-scalar t))
  address-sound at _ h = faulty _ _

  negated-value : (v : Value) → IsInteger env s v → ValueOf env s (common v.ty v.ty) (operated env operation.Subtract (common v.ty v.ty) (zero_of env) v.expression)
  negated-value v h =
      let i = integer-of v.ty h.1 in
      let same : (kinds.common (env.place int) (env.place v.ty) == env.place (common v.ty v.ty)) ≡ true = rw (← negated i) (common-is env s agrees of_int i) in
      let takes : is_operation s operation.Subtract (env.place (common v.ty v.ty)) (env.place int ∷ env.place v.ty ∷ []) ≡ true =
      and_from _ _ (and_from _ _ (integer-there env s agrees of_int) (integer-there env s agrees i)) same in
      let zeroed = zero-value env s agrees in (
        of-two s operation.Subtract (env.place (common v.ty v.ty)) (env.place int) (env.place v.ty) (zero_of env) v.expression zeroed.0 h.0.0 takes,
        holds-integer env s agrees (integer-common i i),
      )

  not-value : (v : Value) → IsValue env s v → ValueOf env s int (Operated operation.Not (env.place int) (More v.expression NoMore))
  not-value v h =
      (of-one s operation.Not (env.place int) (env.place v.ty) v.expression h.0 (rw (scalar-there env s agrees v.ty h.1, int-place env s agrees) refl), holds-integer env s agrees of_int)

  pub unary-sound : (at inner : ℕ) (op : PrefixOperator) (a : Operand) → IsOperand env s a → Gives (IsOperand env s) (unary env at inner op a)
  unary-sound at inner prefix.Negate a h =
      afterwards (IsInteger env s) (IsOperand env s) (integer env inner at a)
      (λ v. Ok (Valued (common v.ty v.ty) (operated env operation.Subtract (common v.ty v.ty) (zero_of env) v.expression)))
      (integer-sound env s agrees inner at a h)
      (λ v g. given (IsOperand env s) _ (negated-value v g))
  unary-sound at inner prefix.Not a h =
      afterwards (IsValue env s) (IsOperand env s) (scalar env inner at a) (λ v. Ok (Valued int (Operated operation.Not (env.place int) (More v.expression NoMore))))
      (scalar-sound env s agrees inner at a h)
      (λ v g. given (IsOperand env s) _ (not-value v g))
  unary-sound at inner prefix.Dereference a h =
      afterwards (IsPointer env s) (IsOperand env s) (pointer env inner at a) (λ p. dereferenced at p (pointee p.ty)) (pointer-sound env s agrees inner at a h)
      (λ p g. dereferenced-by at p (pointee p.ty) refl g)
  unary-sound at inner prefix.AddressOf a h = address-sound at a h
  unary-sound at inner prefix.Increment a h = changed-sound at false binary.Add a (one env) h one-value
  unary-sound at inner prefix.Decrement a h = changed-sound at false binary.Subtract a (one env) h one-value
