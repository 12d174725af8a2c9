-- Places of elements and fields: the pointer to each has its type.
use Rattle.std.proofs.Common.{◌≡◌, ℕ, suc, ◌+◌, ◌==◌, Bool, true, false, List, [], ◌∷◌, slice_get, Option, Some, None, Ok, refl, sym, ap, ◌∙◌, subst, arith}
use Rattle.std.proofs.lemmas.Bool.{and_parts, false≢true, cond_both}
use Rattle.std.specs.Str.{bytes_eq}
use Rattle.kt_grammar.specs.declared.tree.Name.{Name}
use Rattle.kt_types.specs.declared.kinds.Ty.TheVariants as ty
use Rattle.kt_tree.specs.declared.expr.Operation.{Operation}
use Rattle.kt_tree.specs.declared.expr.Operation.TheVariants as operation
use Rattle.kt_tree.specs.Kinds.{Scope, type_at, pointee_of, is_operation, is_moved, is_struct_type, points_to, points_to_struct}
use Rattle.kt_tree.specs.Typed.{kind, Of}
use Rattle.kt_tree.specs.Tree.{Expression, Operated, NoMore, More}
use Rattle.kt_names.specs.declared.ctype.Root.{Root}
use Rattle.kt_names.specs.declared.ctype.Root.TheVariants as root
use Rattle.kt_names.specs.declared.ctype.CType.{CType}
use Rattle.kt_names.specs.declared.fault.CheckFault.TheVariants.{Unknown}
use Rattle.kt_names.specs.Checked.{both, found}
use Rattle.kt_names.specs.Types.{pointer_to, pointee, is_integer, is_scalar}
use Rattle.kt_names.specs.Environment.{Environment, Struct, FieldOf, Found, is_struct, struct_in, struct_numbered, is_complete, field_from}
use Rattle.kt_names.specs.Operands.{Operand, CellPlace, ArrayPlace, WholePlace, Value, integer, pointer}
use Rattle.kt_names.specs.Rules.{operated, place_at, element_place, element, field_pointer, field_of, field_place, struct_field, member, pointed_field, pointed}
use Rattle.kt_terms.proofs.Agrees.{Agrees, Has, IsField}
use Rattle.kt_terms.proofs.Gives.{Gives, given, faulty, if-test, afterwards, pair, when-found}
use Rattle.kt_terms.proofs.SoundTypes.{same-number, number-itself, pointee-of, integer-of, integer-there, at-pointer, at-root, points}
use Rattle.kt_terms.proofs.SoundOperands.{PointerAt, IsOperand, IsInteger, IsPointer, integer-sound, pointer-sound}

-- an operation of one operand, and of two
pub of-one : (s : Scope) (op : Operation) (t pa : ℕ) (a : Expression) → kind s a ≡ Some (Of pa) → is_operation s op t (pa ∷ []) ≡ true → kind s (Operated op t (More a NoMore)) ≡ Some (Of t)
of-one s op t pa a e ok = rw (e, ok) refl

pub of-two : (s : Scope) (op : Operation) (t pa pb : ℕ) (a b : Expression) → kind s a ≡ Some (Of pa) → kind s b ≡ Some (Of pb) → is_operation s op t (pa ∷ pb ∷ []) ≡ true
    → kind s (Operated op t (More a (More b NoMore))) ≡ Some (Of t)
of-two s op t pa pb a b e f ok = rw (e, f, ok) refl

-- ---- fields of structs

to-struct : (s : Scope) (t e n : ℕ) → type_at s t ≡ Some (ty.Ptr e) → type_at s e ≡ Some (ty.Struct n) → points_to_struct s t n ≡ true
to-struct s t e n a b =
    subst (λ o. elim (pointee_of o) as (λ _. Bool) [ None ↦ false | (Some k) ↦ is_struct_type (type_at s k) n ] ≡ true) (sym a)
    (subst (λ o. is_struct_type o n ≡ true) (sym b) (number-itself n))

struct-of : (t : CType) → is_struct t ≡ true → (n : ℕ) × (t ≡ record { root = root.Struct n; stars = 0 })
struct-of t e = by t.root t.stars e
  where
    by : (r : Root) (n : ℕ) → is_struct (record { root = r; stars = n }) ≡ true → (k : ℕ) × (◌≡◌ {A = CType} (record { root = r; stars = n }) (record { root = root.Struct k; stars = 0 }))
    by (root.Struct k) n e = (k, λ i. record { root = root.Struct k; stars = same-number n 0 (and_parts (n == 0) true e).0 i })
    by root.Char n e = absurd (false≢true (and_parts (n == 0) false e).1)
    by root.Int n e = absurd (false≢true (and_parts (n == 0) false e).1)
    by root.Long n e = absurd (false≢true (and_parts (n == 0) false e).1)
    by root.Mutex n e = absurd (false≢true (and_parts (n == 0) false e).1)

field-at : (name : List ℕ) (n : ℕ) (fields : List FieldOf) (x : Found) → field_from n fields name ≡ Some x → (i : ℕ) × (x.index ≡ n + i) × (slice_get fields i ≡ Some x.field)
field-at name n [] x e = absurd cc
field-at name n (f ∷ fields) x e = by (bytes_eq f.name name) refl (field-at name (n + 1) fields x)
  where
    by : (b : Bool) → bytes_eq f.name name ≡ b → (field_from (n + 1) fields name ≡ Some x → (i : ℕ) × (x.index ≡ (n + 1) + i) × (slice_get fields i ≡ Some x.field))
        → (i : ℕ) × (x.index ≡ n + i) × (slice_get (f ∷ fields) i ≡ Some x.field)
    by true t later =
        let found : Some (record { index = n; field = f }) ≡ Some x = rw t at e in
        let same : record { index = n; field = f } ≡ x = cc in
        let index : n ≡ x.index = ap (λ (y : Found). y.index) same in
        (0, omega arith, ap (λ (y : Found). Some y.field) same)
    by false t later =
        let (i, index, at) = later (rw t at e) in
        (suc i, omega arith, at)

struct-number : (structs : List Struct) (n : ℕ) (d : Struct) → struct_numbered structs n ≡ Some d → d.number ≡ n
struct-number [] n d e = absurd cc
struct-number (x ∷ structs) n d e = by (x.number == n) refl (struct-number structs n d)
  where
    by : (b : Bool) → (x.number == n) ≡ b → (struct_numbered structs n ≡ Some d → d.number ≡ n) → d.number ≡ n
    by true t later =
        let found : Some x ≡ Some d = rw t at e in
        let same : x ≡ d = cc in
        ap (λ (y : Struct). y.number) (sym same) ∙ same-number x.number n t
    by false t later = later (rw t at e)

module _ (env : Environment) (s : Scope) (agrees : Agrees env s) where
  pub place_at-sound : (t : CType) (p : Expression) → PointerAt env s t p → IsOperand env s (place_at t p)
  place_at-sound t p h = cond_both (is_scalar t) (CellPlace t p) (WholePlace t p) (IsOperand env s) (λ is. (h, is)) (λ not. h)

  -- ---- elements

  pub pointing : (t e : CType) → t ≡ pointer_to e → Has s.types.types t → points_to s (env.place t) (env.place e) ≡ true
  pointing t e same has = subst (λ p. Has s.types.types p → points_to s (env.place p) (env.place e) ≡ true) (sym same) (points env s agrees e) has

  -- a pointer that an integer moves
  pub moves : (t e i : CType) → t ≡ pointer_to e → Has s.types.types t → is_complete env e ≡ true → is_integer i ≡ true
      → is_moved s (env.place e) (env.place t) (env.place t) (env.place i) ≡ true
  moves t e i same has complete is =
      let inner : Has s.types.types e = (subst (λ p. Has s.types.types p) same has).1 in
      rw (number-itself (env.place t), pointing t e same has, agrees.complete e inner complete, integer-there env s agrees (integer-of i is)) refl

  element-pointer : (e : CType) (p i : Value) → p.ty ≡ pointer_to e → IsPointer env s p → IsInteger env s i → is_complete env e ≡ true
      → PointerAt env s e (operated env (operation.ElementAfter (env.place e)) p.ty p.expression i.expression)
  element-pointer e p i same h k complete =
      let moved = moves p.ty e i.ty same h.0.1.0 complete k.1 in
      let typed = of-two s (operation.ElementAfter (env.place e)) (env.place p.ty) (env.place p.ty) (env.place i.ty) p.expression i.expression h.0.0 k.0.0 (rw moved refl) in
      (rw (← same) typed, subst (λ t. Has s.types.types t) same h.0.1.0)

  element-by : (at : ℕ) (p i : Value) (o : Option CType) → pointee p.ty ≡ o → IsPointer env s p → IsInteger env s i → Gives (IsOperand env s) (element_place env at p i o)
  element-by at p i None is h k = faulty _ _
  element-by at p i (Some e) is h k =
      if-test (IsOperand env s) (is_complete env e) _ _
      (λ complete. given (IsOperand env s) _ (place_at-sound e _ (element-pointer e p i (pointee-of p.ty e is) h k complete)))

  pub element-sound : (at right : ℕ) (a i : Operand) → IsOperand env s a → IsOperand env s i → Gives (IsOperand env s) (element env at right a i)
  element-sound at right a i h k =
      afterwards (λ x. IsPointer env s x.0 × IsInteger env s x.1) (IsOperand env s) (both (pointer env at at a) (integer env right at i)) (λ x. element_place env at x.0 x.1 (pointee x.0.ty))
      (pair (IsPointer env s) (IsInteger env s) _ _ (pointer-sound env s agrees at at a h) (integer-sound env s agrees right at i k))
      (λ x g. element-by at x.0 x.1 (pointee x.0.ty) refl g.0 g.1)

  -- ---- fields

  abbrev struct : ℕ → CType
  struct n = record { root = root.Struct n; stars = 0 }

  field-kind : (n : ℕ) (p : Expression) (x : Found) → PointerAt env s (struct n) p → IsField s env.place n x.index x.field → PointerAt env s x.field.ty (field_pointer env n p x)
  field-kind n p x h f =
      let (fd, at, same, has) = f in (
        of-one s (operation.Field n x.index) (env.place (pointer_to x.field.ty)) (env.place (pointer_to (struct n))) p h.0
            (rw (to-struct s (env.place (pointer_to (struct n))) (env.place (struct n)) n (at-pointer env s agrees (struct n) h.1) (at-root env s agrees (root.Struct n) h.1.1), at, same, points env s agrees x.field.ty has) refl),
        has,
      )

  field-operand : (n : ℕ) (p : Expression) (x : Found) → PointerAt env s x.field.ty (field_pointer env n p x) → IsOperand env s (field_of env n p x)
  field-operand n p x h =
      cond_both x.field.array (ArrayPlace x.field.ty (field_pointer env n p x)) (place_at x.field.ty (field_pointer env n p x)) (IsOperand env s)
      (λ is. h) (λ not. place_at-sound x.field.ty (field_pointer env n p x) h)

  field-by : (at n : ℕ) (p : Expression) (f : Name) (o : Option Struct) → struct_numbered env.structs n ≡ o → PointerAt env s (struct n) p → Gives (IsOperand env s) (field_place env at p f o)
  field-by at n p f None is h = faulty _ _
  field-by at n p f (Some d) is h =
      let number : n ≡ d.number = sym (struct-number env.structs n d is) in
      afterwards (λ x. field_from 0 d.fields f.word ≡ Some x) (IsOperand env s) (found (field_from 0 d.fields f.word) (Unknown f.at)) (λ x. Ok (field_of env d.number p x))
      (when-found (field_from 0 d.fields f.word) (Unknown f.at))
      (λ x e. let (i, index, at) = field-at f.word 0 d.fields x e in
      let same : i ≡ x.index = omega arith in
      let there : slice_get d.fields x.index ≡ Some x.field = subst (λ k. slice_get d.fields k ≡ Some x.field) same at in
      given (IsOperand env s) _
      (field-operand d.number p x
      (subst (λ k. PointerAt env s x.field.ty (field_pointer env k p x)) number (field-kind n p x h (agrees.fields n d is x.index x.field there)))))

  struct_field-sound : (at : ℕ) (p : Expression) (f : Name) (t : CType) → PointerAt env s t p → Gives (IsOperand env s) (struct_field env at p f t)
  struct_field-sound at p f t h =
      if-test (IsOperand env s) (is_struct t) _ _
      (λ is. let (n, same) = struct-of t is in
      subst (λ u. PointerAt env s u p → Gives (IsOperand env s) (field_place env at p f (struct_in env u))) (sym same) (field-by at n p f (struct_numbered env.structs n) refl) h)

  pub member-sound : (at : ℕ) (a : Operand) (f : Name) → IsOperand env s a → Gives (IsOperand env s) (member env at a f)
  member-sound at (WholePlace t p) f h = struct_field-sound at p f t h
  member-sound at _ f h = faulty _ _

  pointed-by : (at : ℕ) (p : Value) (f : Name) (o : Option CType) → pointee p.ty ≡ o → IsPointer env s p → Gives (IsOperand env s) (pointed_field env at p.expression f o)
  pointed-by at p f None is h = faulty _ _
  pointed-by at p f (Some t) is h =
      let same = pointee-of p.ty t is in
      struct_field-sound at p.expression f t (rw (← same) h.0.0, subst (λ u. Has s.types.types u) same h.0.1.0)

  pub pointed-sound : (at : ℕ) (a : Operand) (f : Name) → IsOperand env s a → Gives (IsOperand env s) (pointed env at a f)
  pointed-sound at a f h =
      afterwards (IsPointer env s) (IsOperand env s) (pointer env at at a) (λ p. pointed_field env at p.expression f (pointee p.ty))
      (pointer-sound env s agrees at at a h) (λ p k. pointed-by at p f (pointee p.ty) refl k)
