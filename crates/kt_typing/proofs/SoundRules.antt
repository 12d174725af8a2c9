-- What the rules of operators give is sound.
use Rattle.std.proofs.Common.{◌≡◌, ℕ, ◌==◌, ◌&&◌, Bool, true, false, [], ◌∷◌, slice_get, Option, Some, None, option_and_then, Result, Ok, Err, if◌then◌else◌, refl, ◌∙◌, subst, arith}
use Rattle.std.proofs.lemmas.Bool.Decides.{nat_tests}
use Rattle.kt_tree.specs.declared.expr.Operation.{Operation}
use Rattle.kt_tree.specs.declared.expr.Operation.TheVariants as operation
use Rattle.kt_tree.specs.Tree.{Expression, Operated, Modified, Both, Either, Chosen}
use Rattle.kt_tree.specs.Kinds.{Scope, is_pointer, is_scalar, is_operation, pointee}
use Rattle.kt_tree.specs.Typed.{kind, Of, if_so, set_kind, logical_kind, choice_kind, modified_kind}
use Rattle.kt_typing.specs.declared.fault.Fault.{Fault}
use Rattle.kt_typing.specs.declared.standing.Standing.{Standing}
use Rattle.kt_typing.specs.declared.standing.Standing.TheVariants as standing
use Rattle.kt_typing.specs.Operands.{Operand, Value, operand, valued, of_type, value, scalar, trees_of}
use Rattle.kt_typing.specs.Rules.{given, is_null, is_null_itself, null_value, converted, convert, place_standing, place_at, indexed, is_whole, null_beside, value_beside, local_changed}
use Rattle.kt_typing.specs.Sound.{HasType, IsNullTree, IsSoundAs, IsSound}
use Rattle.kt_typing.proofs.SoundOperands.{IsOf, Sound, sound-err, sound-ok, value-sound, scalar-sound, operated-kind}

-- ---- conversions

-- an operand that stands as null or `0` is null of any pointer type
null-as : (s : Scope) (what : Standing) (t : ℕ) (e : Expression) → IsSoundAs s what t e → is_null what ≡ true → IsNullTree s e
null-as s standing.Zero t e h is = h.1
null-as s standing.Null t e h is = h.1
null-as s standing.Value t e h is = absurd cc
null-as s (standing.Local x) t e h is = absurd cc
null-as s standing.Cell t e h is = absurd cc
null-as s standing.Whole t e h is = absurd cc
null-as s standing.Elements t e h is = absurd cc
null-as s (standing.Size at) t e h is = absurd cc
null-as s (standing.Product c) t e h is = absurd cc
null-as s standing.Nothing t e h is = absurd cc
null-as s (standing.Entry f) t e h is = absurd cc

null-itself : (what : Standing) → is_null_itself what ≡ true → is_null what ≡ true
null-itself standing.Null is = refl
null-itself standing.Zero is = absurd cc
null-itself standing.Value is = absurd cc
null-itself (standing.Local x) is = absurd cc
null-itself standing.Cell is = absurd cc
null-itself standing.Whole is = absurd cc
null-itself standing.Elements is = absurd cc
null-itself (standing.Size at) is = absurd cc
null-itself (standing.Product c) is = absurd cc
null-itself standing.Nothing is = absurd cc
null-itself (standing.Entry f) is = absurd cc

left : (a b : Bool) → (a && b) ≡ true → a ≡ true
left true b h = refl
left false b h = absurd cc

right : (a b : Bool) → (a && b) ≡ true → b ≡ true
right true b h = h
right false b h = absurd cc

equal : (a b : ℕ) → (a == b) ≡ true → a ≡ b
equal a b h = grind (arith, nat_tests)

module _ (s : Scope) where
  some-is : (u v : Value) → IsOf s u → Some u ≡ Some v → IsOf s v
  some-is u v h e = let same : u ≡ v = cc in subst (IsOf s) same h

  pub converted-sound : (t : ℕ) (v : Value) → IsOf s v → (w : Value) → converted s t v ≡ Some w → IsOf s w × (w.ty ≡ t)
  converted-sound t v h w is = by (v.ty == t) refl (is_operation s operation.Convert t (v.ty ∷ [])) refl is
    where
      by : (same : Bool) → (v.ty == t) ≡ same → (fits : Bool) → is_operation s operation.Convert t (v.ty ∷ []) ≡ fits
          → (if same then Some v else (if fits then Some (of_type t (Operated operation.Convert t (trees_of (v ∷ [])))) else None)) ≡ Some w → IsOf s w × (w.ty ≡ t)
      by true a fits b e = let eq : v ≡ w = cc in subst (λ u. IsOf s u × (u.ty ≡ t)) eq (h, equal v.ty t a)
      by false a true b e = let eq : of_type t (Operated operation.Convert t (trees_of (v ∷ []))) ≡ w = cc in
          subst (λ u. IsOf s u × (u.ty ≡ t)) eq (operated-kind s operation.Convert t (v ∷ []) (h, tt) ∙ rw b refl, refl)
      by false a false b e = absurd cc

  pub convert-sound : (t : ℕ) (x : Operand) → IsSound s x → (w : Value) → convert s t x ≡ Some w → IsOf s w × (w.ty ≡ t)
  convert-sound t x h w is = by (is_pointer s t && is_null x.standing) refl (value s x) refl is
    where
      by : (b : Bool) → (is_pointer s t && is_null x.standing) ≡ b → (o : Option Value) → value s x ≡ o
          → (if b then Some (null_value t x) else option_and_then (converted s t) o) ≡ Some w → IsOf s w × (w.ty ≡ t)
      by true a o v e = let eq : null_value t x ≡ w = cc in
          subst (λ u. IsOf s u × (u.ty ≡ t)) eq
          (null-as s x.standing x.ty x.tree h (right (is_pointer s t) (is_null x.standing) a) t (left (is_pointer s t) (is_null x.standing) a), refl)
      by false a None v e = absurd cc
      by false a (Some u) v e = converted-sound t u (value-sound s x h u v) w e

  -- ---- places

  place-by : (t : ℕ) (e : Expression) → HasType s t e → (o : Option ℕ) → pointee s t ≡ o
      → IsSoundAs s (elim o as (λ _. Standing) [ None ↦ standing.Whole | (Some c) ↦ if is_scalar s c then standing.Cell else standing.Whole ]) t e
  place-by t e h None p = h
  place-by t e h (Some c) p = by (is_scalar s c) refl
    where
      by : (b : Bool) → is_scalar s c ≡ b → IsSoundAs s (if b then standing.Cell else standing.Whole) t e
      by true sc = (h, λ d q. let same : c ≡ d = cc in subst (λ k. is_scalar s k ≡ true) same sc)
      by false sc = h

  pub place-sound : (t : ℕ) (e : Expression) → HasType s t e → IsSoundAs s (place_standing s t) t e
  place-sound t e h = place-by t e h (pointee s t) refl

  pub place-at-sound : (r : Result Operand Fault) → ((x : Operand) → r ≡ Ok x → HasType s x.ty x.tree) → Sound s (place_at s r)
  place-at-sound (Err f) h = sound-err s f
  place-at-sound (Ok p) h = sound-ok s _ (place-sound p.ty p.tree (h p refl))

  pub given-valued : (at t : ℕ) (e : Expression) (b : Bool) → kind s e ≡ if_so b (Of t) → (x : Operand) → given at e (if_so b (Of t)) ≡ Ok x → HasType s x.ty x.tree
  given-valued at t e true h x is = let same : valued at t e ≡ x = cc in subst (λ y. HasType s y.ty y.tree) same h
  given-valued at t e false h x is = absurd cc

  pub indexed-as : (at : ℕ) (what : Standing) (t : ℕ) (e : Expression) → IsSoundAs s what t e → (v : Value) → indexed s (operand at what t e) ≡ Some v → IsOf s v
  indexed-as at standing.Elements t e h v is = some-is (of_type t e) v h is
  indexed-as at standing.Value t e h v is = value-sound s (operand at standing.Value t e) h v is
  indexed-as at standing.Zero t e h v is = value-sound s (operand at standing.Zero t e) h v is
  indexed-as at standing.Null t e h v is = value-sound s (operand at standing.Null t e) h v is
  indexed-as at (standing.Local x) t e h v is = value-sound s (operand at (standing.Local x) t e) h v is
  indexed-as at standing.Cell t e h v is = value-sound s (operand at standing.Cell t e) h v is
  indexed-as at standing.Whole t e h v is = value-sound s (operand at standing.Whole t e) h v is
  indexed-as at (standing.Size p) t e h v is = value-sound s (operand at (standing.Size p) t e) h v is
  indexed-as at (standing.Product c) t e h v is = value-sound s (operand at (standing.Product c) t e) h v is
  indexed-as at standing.Nothing t e h v is = value-sound s (operand at standing.Nothing t e) h v is
  indexed-as at (standing.Entry f) t e h v is = value-sound s (operand at (standing.Entry f) t e) h v is

  pub whole-as : (what : Standing) (t : ℕ) (e : Expression) → IsSoundAs s what t e → is_whole what ≡ true → HasType s t e
  whole-as standing.Whole t e h is = h
  whole-as standing.Value t e h is = absurd cc
  whole-as standing.Zero t e h is = absurd cc
  whole-as standing.Null t e h is = absurd cc
  whole-as (standing.Local x) t e h is = absurd cc
  whole-as standing.Cell t e h is = absurd cc
  whole-as standing.Elements t e h is = absurd cc
  whole-as (standing.Size at) t e h is = absurd cc
  whole-as (standing.Product c) t e h is = absurd cc
  whole-as standing.Nothing t e h is = absurd cc
  whole-as (standing.Entry f) t e h is = absurd cc

  pub sound-option : {A : Type 0} (o : Option A) (a : Result Operand Fault) (f : A → Result Operand Fault) → Sound s a → ((x : A) → o ≡ Some x → Sound s (f x))
      → Sound s (elim o as (λ _. Result Operand Fault) [ None ↦ a | (Some x) ↦ f x ])
  sound-option None a f h k = h
  sound-option (Some x) a f h k = k x refl

  -- ---- values beside each other

  null-beside-sound : (x : Operand) → IsNullTree s x.tree → (o : Option Value) → (v : Value) → null_beside s x o ≡ Some v → IsOf s v
  null-beside-sound x h None v is = absurd cc
  null-beside-sound x h (Some u) v is = by (is_pointer s u.ty) refl is
    where
      by : (b : Bool) → is_pointer s u.ty ≡ b → (if b then Some (null_value u.ty x) else None) ≡ Some v → IsOf s v
      by true p e = some-is (null_value u.ty x) v (h u.ty p) e
      by false p e = absurd cc

  pub beside-sound : (x y : Operand) → IsSound s x → (v : Value) → value_beside s x y ≡ Some v → IsOf s v
  beside-sound x y h v is = by (is_null_itself x.standing) refl (is_null_itself y.standing) is
    where
      by : (b : Bool) → is_null_itself x.standing ≡ b → (c : Bool)
          → (if b then (if c then scalar s x else null_beside s x (value s y)) else value s x) ≡ Some v → IsOf s v
      by true n true e = scalar-sound s x h v e
      by true n false e = null-beside-sound x (null-as s x.standing x.ty x.tree h (null-itself x.standing n)) (value s y) v e
      by false n c e = value-sound s x h v e

  -- ---- trees of two and three values

  pub both-kind : (a b : Value) → IsOf s a → IsOf s b → kind s (Both a.tree b.tree) ≡ logical_kind s (Some a.ty) (Some b.ty)
  both-kind a b h k = rw h (rw k refl)

  pub either-kind : (a b : Value) → IsOf s a → IsOf s b → kind s (Either a.tree b.tree) ≡ logical_kind s (Some a.ty) (Some b.ty)
  either-kind a b h k = rw h (rw k refl)

  pub chosen-kind : (t : ℕ) (c a b : Value) → IsOf s c → IsOf s a → IsOf s b
      → kind s (Chosen c.tree t a.tree b.tree) ≡ choice_kind s t (Some c.ty) (Some a.ty) (Some b.ty)
  chosen-kind t c a b h k l = rw h (rw k (rw l refl))

  pub modified-kind-is : (op : Operation) (own t : ℕ) (old : Bool) (p v : Value) → IsOf s p → IsOf s v
      → kind s (Modified op own t old p.tree v.tree) ≡ modified_kind s own t (is_operation s op own) (Some p.ty) (Some v.ty)
  modified-kind-is op own t old p v h k = rw h (rw k refl)

  pub local-kind-is : (old : Bool) (x : ℕ) (v : Value) → IsOf s v → kind s (local_changed old x v.tree) ≡ set_kind (slice_get s.locals x) (Some v.ty)
  local-kind-is false x v h = rw h refl
  local-kind-is true x v h = rw h refl
