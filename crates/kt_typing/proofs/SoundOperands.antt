-- Operands and their values are sound.
use Rattle.std.proofs.Common.{◌≡◌, ℕ, ◌==◌, Bool, true, false, List, [], ◌∷◌, slice_get, Option, Some, None, Result, Ok, Err, if◌then◌else◌, refl, ap, subst, arith}
use Rattle.std.specs.Option.{option_map}
use Rattle.std.specs.List.{AllByRecursion}
use Rattle.kt_tree.specs.declared.expr.Operation.{Operation}
use Rattle.kt_tree.specs.declared.expr.Request.{Request}
use Rattle.kt_tree.specs.Tree.{Expression, LocalRead, Operated, Requested}
use Rattle.kt_tree.specs.Kinds.{Scope, pointee, is_scalar, is_operation, is_request}
use Rattle.kt_tree.specs.Typed.{Kind, kind, types, NoValue, Of, operation_kind, request_kind}
use Rattle.kt_typing.specs.declared.fault.Fault.{Fault}
use Rattle.kt_typing.specs.declared.standing.Standing.{Standing}
use Rattle.kt_typing.specs.declared.standing.Standing.TheVariants as standing
use Rattle.kt_typing.specs.Environment.{Environment}
use Rattle.kt_typing.specs.Operands.{Operand, Value, of_type, loaded, value_of, value, scalar_of, scalar, types_of, trees_of}
use Rattle.kt_typing.specs.Rules.{given, with_value, with_two, operated, requested, lacks_cells}
use Rattle.kt_typing.specs.Sound.{HasType, IsSoundAs, IsSound}
use Rattle.std.proofs.lemmas.Bool.Decides.{nat_tests}

abbrev pub IsOf : Scope → Value → Type 0
IsOf s v = HasType s v.ty v.tree

-- whatever the answer is, an operand that it gives is sound
abbrev pub Sound : Scope → Result Operand Fault → Type 0
Sound s r = (x : Operand) → r ≡ Ok x → IsSound s x

module _ (s : Scope) where
  pub sound-err : (f : Fault) → Sound s (Err f)
  sound-err f x e = absurd cc

  pub sound-ok : (y : Operand) → IsSound s y → Sound s (Ok y)
  sound-ok y h x e = let same : y ≡ x = cc in subst (IsSound s) same h

  pub sound-given : (at : ℕ) (e : Expression) (k : Option Kind) → kind s e ≡ k → Sound s (given at e k)
  sound-given at e None h = sound-err _
  sound-given at e (Some NoValue) h = sound-ok _ h
  sound-given at e (Some (Of t)) h = sound-ok _ h

  pub sound-if : (b : Bool) (p q : Result Operand Fault) → (b ≡ true → Sound s p) → (b ≡ false → Sound s q) → Sound s (if b then p else q)
  sound-if true p q h k = h refl
  sound-if false p q h k = k refl

  pub sound-with : (at : ℕ) (o : Option Value) (rule : Value → Result Operand Fault) → ((v : Value) → o ≡ Some v → Sound s (rule v)) → Sound s (with_value at o rule)
  sound-with at None rule h = sound-err _
  sound-with at (Some v) rule h = h v refl

  pub sound-two : (at : ℕ) (a b : Option Value) (rule : Value → Value → Result Operand Fault)
      → ((v w : Value) → a ≡ Some v → b ≡ Some w → Sound s (rule v w)) → Sound s (with_two at a b rule)
  sound-two at None None rule h = sound-err _
  sound-two at None (Some w) rule h = sound-err _
  sound-two at (Some v) None rule h = sound-err _
  sound-two at (Some v) (Some w) rule h = h v w refl refl

  -- ---- values

  same-self : (n : ℕ) → (n == n) ≡ true
  same-self n = grind (arith, nat_tests)

  load-kind : (t c : ℕ) (e : Expression) → HasType s t e → pointee s t ≡ Some c → is_scalar s c ≡ true → IsOf s (loaded c e)
  load-kind t c e h p sc = rw h (rw p (rw (same-self c) (rw sc refl)))

  there : (u v : Value) → IsOf s u → Some u ≡ Some v → IsOf s v
  there u v h e = let same : u ≡ v = cc in subst (IsOf s) same h

  cell-value : (t : ℕ) (e : Expression) → HasType s t e → (o : Option ℕ) → pointee s t ≡ o → ((c : ℕ) → o ≡ Some c → is_scalar s c ≡ true)
      → (v : Value) → option_map (λ c. loaded c e) o ≡ Some v → IsOf s v
  cell-value t e h None p sc v is = absurd cc
  cell-value t e h (Some c) p sc v is = there (loaded c e) v (load-kind t c e h p (sc c refl)) is

  local-kind : (x t : ℕ) (e : Expression) → e ≡ LocalRead x → slice_get s.locals x ≡ Some t → HasType s t e
  local-kind x t e a b = rw a (ap (option_map Of) b)

  pub value-as : (what : Standing) (t : ℕ) (e : Expression) → IsSoundAs s what t e → (v : Value) → value_of s what t e ≡ Some v → IsOf s v
  value-as standing.Value t e h v is = there (of_type t e) v h is
  value-as standing.Zero t e h v is = there (of_type t e) v h.0 is
  value-as (standing.Local x) t e h v is = there (of_type t e) v (local-kind x t e h.0 h.1) is
  value-as standing.Cell t e h v is = cell-value t e h.0 (pointee s t) refl h.1 v is
  value-as standing.Null t e h v is = absurd cc
  value-as standing.Whole t e h v is = absurd cc
  value-as standing.Elements t e h v is = absurd cc
  value-as (standing.Size at) t e h v is = absurd cc
  value-as (standing.Product c) t e h v is = absurd cc
  value-as standing.Nothing t e h v is = absurd cc
  value-as (standing.Entry f) t e h v is = absurd cc

  pub value-sound : (x : Operand) → IsSound s x → (v : Value) → value s x ≡ Some v → IsOf s v
  value-sound x h v is = value-as x.standing x.ty x.tree h v is

  pub scalar-as : (what : Standing) (t : ℕ) (e : Expression) → IsSoundAs s what t e → (v : Value) → scalar_of s what t e ≡ Some v → IsOf s v
  scalar-as standing.Null t e h v is = there (of_type t e) v h.0 is
  scalar-as standing.Value t e h v is = value-as standing.Value t e h v is
  scalar-as standing.Zero t e h v is = value-as standing.Zero t e h v is
  scalar-as (standing.Local x) t e h v is = value-as (standing.Local x) t e h v is
  scalar-as standing.Cell t e h v is = value-as standing.Cell t e h v is
  scalar-as standing.Whole t e h v is = absurd cc
  scalar-as standing.Elements t e h v is = absurd cc
  scalar-as (standing.Size at) t e h v is = absurd cc
  scalar-as (standing.Product c) t e h v is = absurd cc
  scalar-as standing.Nothing t e h v is = absurd cc
  scalar-as (standing.Entry f) t e h v is = absurd cc

  pub scalar-sound : (x : Operand) → IsSound s x → (v : Value) → scalar s x ≡ Some v → IsOf s v
  scalar-sound x h v is = scalar-as x.standing x.ty x.tree h v is

  -- ---- operations and requests

  pub types-sound : (vs : List Value) → AllByRecursion (IsOf s) vs → types s (trees_of vs) ≡ Some (types_of vs)
  types-sound [] h = refl
  types-sound (v ∷ vs) h = rw h.0 (rw (types-sound vs h.1) refl)

  pub operated-kind : (op : Operation) (t : ℕ) (vs : List Value) → AllByRecursion (IsOf s) vs
      → kind s (Operated op t (trees_of vs)) ≡ operation_kind s t (is_operation s op t) (Some (types_of vs))
  operated-kind op t vs h = ap (operation_kind s t (is_operation s op t)) (types-sound vs h)

  pub requested-kind : (r : Request) (t : Option ℕ) (vs : List Value) → AllByRecursion (IsOf s) vs
      → kind s (Requested r t (trees_of vs)) ≡ request_kind t (is_request s r t) (Some (types_of vs))
  requested-kind r t vs h = ap (request_kind t (is_request s r t)) (types-sound vs h)

module _ (env : Environment) where
  pub operated-sound : (at : ℕ) (op : Operation) (t : ℕ) (vs : List Value) → AllByRecursion (IsOf env.scope) vs → Sound env.scope (operated env at op t vs)
  operated-sound at op t vs h =
      sound-if env.scope (lacks_cells env.scope op (types_of vs)) _ _ (λ y. sound-err env.scope _)
      (λ n. sound-given env.scope at _ _ (operated-kind env.scope op t vs h))

  pub requested-sound : (at : ℕ) (r : Request) (t : Option ℕ) (vs : List Value) → AllByRecursion (IsOf env.scope) vs → Sound env.scope (requested env at r t vs)
  requested-sound at r t vs h = sound-given env.scope at _ _ (requested-kind env.scope r t vs h)
