-- What the rules of operators give is sound.
use Rattle.std.proofs.Common.{◌≡◌, ℕ, ◌==◌, ◌&&◌, not, Bool, true, false, pos, List, [], ◌∷◌, Option, Some, None, Result, Ok, Err, if◌then◌else◌, refl}
use Rattle.kt_lex.specs.declared.number.Number.{Number}
use Rattle.kt_grammar.specs.declared.operator.AssignOperator.{AssignOperator}
use Rattle.kt_grammar.specs.declared.operator.BinaryOperator.{BinaryOperator}
use Rattle.kt_grammar.specs.declared.operator.BinaryOperator.TheVariants as binary
use Rattle.kt_grammar.specs.declared.operator.PrefixOperator.{PrefixOperator}
use Rattle.kt_grammar.specs.declared.operator.PrefixOperator.TheVariants as prefix
use Rattle.kt_grammar.specs.declared.tree.Name.{Name}
use Rattle.kt_grammar.specs.declared.tree.TypeName.{TypeName}
use Rattle.kt_types.specs.declared.kinds.Field.{Field}
use Rattle.kt_types.specs.declared.kinds.Ty.{Ty}
use Rattle.kt_types.specs.declared.kinds.Ty.TheVariants as ty
use Rattle.kt_types.specs.Table.{fields_of}
use Rattle.kt_types.specs.Layout.{field_named}
use Rattle.kt_tree.specs.declared.expr.Constant.{Constant}
use Rattle.kt_tree.specs.declared.expr.Constant.TheVariants as constant
use Rattle.kt_tree.specs.declared.expr.Operation.{Operation}
use Rattle.kt_tree.specs.declared.expr.Operation.TheVariants as operation
use Rattle.kt_tree.specs.declared.expr.Request.TheVariants as request
use Rattle.kt_tree.specs.Tree.{Expression, Constant', Operated, Both, Either}
use Rattle.kt_tree.specs.Kinds.{type_at, is_integer, is_pointer, is_array_type, is_operation, pointee, field_pointee_of, int_type}
use Rattle.kt_tree.specs.Typed.{kind, Of, if_so}
use Rattle.kt_typing.specs.declared.fault.Fault.{Fault}
use Rattle.kt_typing.specs.declared.standing.Standing.{Standing}
use Rattle.kt_typing.specs.declared.standing.Standing.TheVariants as standing
use Rattle.kt_typing.specs.Environment.{Environment, Meaning, Missing, Barred, Stands, Routine, type_named}
use Rattle.kt_typing.specs.Operands.{Operand, Value, operand, of_type, value, scalar, types_of, trees_of}
use Rattle.kt_typing.specs.Rules.{given, with_two, constant_at, operated, lacks_cells, converted, convert, number, number_type, null_at, meant, size, indexed, element_of, element, field_standing, field_found, field_at, pointed_type, pointed, is_whole, member, Combined, combination, combined_at, of_values, value_beside, is_size, times_size, product, logical, operator, compound_of, set_local, taken, modified, cell_changed, changed_of, changed, stored, assigned_of, assignment, one, address_of, unary, cast_value, cast}
use Rattle.kt_typing.specs.Sound.{HasType, IsNullTree, IsSoundAs, IsSound, IsSoundMeaning}
use Rattle.kt_typing.proofs.SoundOperands.{IsOf, Sound, sound-err, sound-ok, sound-given, sound-if, sound-with, sound-two, value-sound, scalar-sound, operated-kind, operated-sound, requested-sound}
use Rattle.kt_typing.proofs.SoundRules.{converted-sound, convert-sound, place-sound, place-at-sound, given-valued, indexed-as, whole-as, sound-option, beside-sound, both-kind, either-kind, modified-kind-is, local-kind-is}

module _ (env : Environment) where
  abbrev IsFine : Operand → Type 0
  IsFine x = IsSound env.scope x

  abbrev Gives : Result Operand Fault → Type 0
  Gives r = Sound env.scope r

  -- ---- constants and names

  pub constant-sound : (at : ℕ) (c : Constant) (t : ℕ) → Gives (constant_at env at c t)
  constant-sound at c t = sound-given env.scope at (Constant' c t) _ refl

  zero-null : IsNullTree env.scope (Constant' (constant.Number (pos 0)) int_type)
  zero-null t p = rw p refl

  pub number-sound : (at : ℕ) (n : Number) → Gives (number env at n)
  number-sound at n = sound-if env.scope ((n.value == 0) && not n.long && not n.hexadecimal) _ _
      (λ z. sound-ok env.scope _ (refl, zero-null)) (λ z. constant-sound at (constant.Number (pos n.value)) (number_type n))

  pub null-sound : is_pointer env.scope env.text ≡ true → (at : ℕ) → IsFine (null_at env at)
  null-sound h at = (rw h refl, λ t p. rw p refl)

  pub meant-sound : (at named : ℕ) (m : Meaning) → IsSoundMeaning env.scope m → Gives (meant at named m)
  meant-sound at named Missing h = sound-err env.scope _
  meant-sound at named Barred h = sound-err env.scope _
  meant-sound at named (Routine f) h = sound-err env.scope _
  meant-sound at named (Stands what t e) h = sound-ok env.scope _ h

  pub size-sound : (at named : ℕ) (t : TypeName) → Gives (size env at named t)
  size-sound at named t = sound-option env.scope (type_named env t) _ _ (sound-err env.scope _) (λ c e. sound-ok env.scope _ refl)

  -- ---- places

  pub operated-valued : (at : ℕ) (op : Operation) (t : ℕ) (vs : List Value) → kind env.scope (Operated op t (trees_of vs)) ≡ if_so (is_operation env.scope op t (types_of vs)) (Of t)
      → (x : Operand) → operated env at op t vs ≡ Ok x → HasType env.scope x.ty x.tree
  operated-valued at op t vs h x is = by (lacks_cells env.scope op (types_of vs)) is
    where
      by : (b : Bool) → (if b then Err (env.without_cells at) else given at (Operated op t (trees_of vs)) (if_so (is_operation env.scope op t (types_of vs)) (Of t))) ≡ Ok x
          → HasType env.scope x.ty x.tree
      by true e = absurd cc
      by false e = given-valued env.scope at t (Operated op t (trees_of vs)) (is_operation env.scope op t (types_of vs)) h x e

  element-of-sound : (at : ℕ) (o : Option ℕ) (p i : Value) → IsOf env.scope p → IsOf env.scope i → Gives (element_of env at o p i)
  element-of-sound at None p i h k = sound-err env.scope _
  element-of-sound at (Some e) p i h k =
      place-at-sound env.scope _ (operated-valued at (operation.ElementAfter e) p.ty (p ∷ i ∷ []) (operated-kind env.scope (operation.ElementAfter e) p.ty (p ∷ i ∷ []) (h, (k, tt))))

  pub element-sound : (at : ℕ) (a i : Operand) → IsFine a → IsFine i → Gives (element env at a i)
  element-sound at a i h k = sound-two env.scope at (indexed env.scope a) (value env.scope i) _
      (λ p n ps ns. element-of-sound at (pointee env.scope p.ty) p n (indexed-as env.scope a.at a.standing a.ty a.tree h p ps) (value-sound env.scope i k n ns))

  field-place-sound : (at : ℕ) (op : Operation) (t : ℕ) (p : Value) (f : Field) → IsOf env.scope p → Gives (field_standing env.scope f (operated env at op t (p ∷ [])))
  field-place-sound at op t p f h = sound-if env.scope (is_array_type (type_at env.scope f.ty)) _ _
      (λ a. operated-sound env at op t (p ∷ []) (h, tt))
      (λ a. place-at-sound env.scope _ (operated-valued at op t (p ∷ []) (operated-kind env.scope op t (p ∷ []) (h, tt))))

  field-found-sound : (at named n : ℕ) (p : Value) (o : Option Field) → IsOf env.scope p → Gives (field_found env at named n p o)
  field-found-sound at named n p None h = sound-err env.scope _
  field-found-sound at named n p (Some f) h =
      sound-option env.scope (env.pointer (field_pointee_of (type_at env.scope f.ty) f.ty)) _ _ (sound-err env.scope _) (λ t e. field-place-sound at (operation.Field n f.index) t p f h)

  field-at-sound : (at : ℕ) (f : Name) (p : Value) (o : Option Ty) → IsOf env.scope p → Gives (field_at env at f p o)
  field-at-sound at f p (Some (ty.Struct n)) h =
      sound-option env.scope (fields_of env.scope.types n) _ _ (sound-err env.scope _) (λ fields e. field-found-sound at f.at n p (field_named env.scope.types fields f.word) h)
  field-at-sound at f p None h = sound-err env.scope _
  field-at-sound at f p (Some ty.Char) h = sound-err env.scope _
  field-at-sound at f p (Some ty.Int) h = sound-err env.scope _
  field-at-sound at f p (Some ty.Long) h = sound-err env.scope _
  field-at-sound at f p (Some ty.Mutex) h = sound-err env.scope _
  field-at-sound at f p (Some (ty.Array e n)) h = sound-err env.scope _
  field-at-sound at f p (Some (ty.Ptr q)) h = sound-err env.scope _

  pub pointed-sound : (at : ℕ) (f : Name) (x : Operand) → IsFine x → Gives (pointed env at f x)
  pointed-sound at f x h = sound-with env.scope at (value env.scope x) _ (λ p e. field-at-sound at f p (pointed_type env.scope p.ty) (value-sound env.scope x h p e))

  pub member-sound : (at : ℕ) (f : Name) (x : Operand) → IsFine x → Gives (member env at f x)
  member-sound at f x h = sound-if env.scope (is_whole x.standing) _ _
      (λ w. field-at-sound at f (of_type x.ty x.tree) (pointed_type env.scope x.ty) (whole-as env.scope x.standing x.ty x.tree h w)) (λ w. sound-err env.scope _)

  -- ---- binary operators

  combined-sound : (at : ℕ) (o : Option Combined) (a b : Value) → IsOf env.scope a → IsOf env.scope b → Gives (combined_at env at o a b)
  combined-sound at None a b h k = sound-err env.scope _
  combined-sound at (Some c) a b h k = operated-sound env at c.operation c.own (a ∷ b ∷ []) (h, (k, tt))

  of-values-sound : (at : ℕ) (op : BinaryOperator) (a b : Value) → IsOf env.scope a → IsOf env.scope b → Gives (of_values env at op a b)
  of-values-sound at op a b h k = combined-sound at (combination env.scope op a.ty b.ty) a b h k

  values-sound : (at : ℕ) (op : BinaryOperator) (a b : Operand) → IsFine a → IsFine b → Gives (with_two at (value env.scope a) (value env.scope b) (of_values env at op))
  values-sound at op a b h k = sound-two env.scope at _ _ _
      (λ v w vs ws. of-values-sound at op v w (value-sound env.scope a h v vs) (value-sound env.scope b k w ws))

  equal-sound : (at : ℕ) (op : BinaryOperator) (a b : Operand) → IsFine a → IsFine b
      → Gives (with_two at (value_beside env.scope a b) (value_beside env.scope b a) (of_values env at op))
  equal-sound at op a b h k = sound-two env.scope at _ _ _
      (λ v w vs ws. of-values-sound at op v w (beside-sound env.scope a b h v vs) (beside-sound env.scope b a k w ws))

  count-by : is_integer env.scope 3 ≡ false → (x : Operand) → IsFine x → (o : Option Value) → value env.scope x ≡ o
      → let c = elim o as (λ _. Value) [ None ↦ of_type 3 x.tree | (Some v) ↦ v ] in is_integer env.scope c.ty ≡ true → HasType env.scope c.ty c.tree
  count-by m x h None e is = absurd cc
  count-by m x h (Some v) e is = value-sound env.scope x h v e

  times-sound : is_integer env.scope 3 ≡ false → (x y : Operand) → IsFine x → Gives (times_size env.scope x y)
  times-sound m x y h = sound-if env.scope (is_size x.standing) _ _ (λ z. sound-err env.scope _)
      (λ z. sound-ok env.scope _ (count-by m x h (value env.scope x) refl))

  product-sound : is_integer env.scope 3 ≡ false → (at : ℕ) (a b : Operand) → IsFine a → IsFine b → Gives (product env at a b)
  product-sound m at a b h k = sound-if env.scope (is_size b.standing) _ _ (λ z. times-sound m a b h)
      (λ z. sound-if env.scope (is_size a.standing) _ _ (λ y. times-sound m b a k) (λ y. values-sound at binary.Multiply a b h k))

  and-sound : (at : ℕ) (v w : Value) → IsOf env.scope v → IsOf env.scope w → Gives (logical env at Both v w)
  and-sound at v w h k = sound-given env.scope at _ _ (both-kind env.scope v w h k)

  or-sound : (at : ℕ) (v w : Value) → IsOf env.scope v → IsOf env.scope w → Gives (logical env at Either v w)
  or-sound at v w h k = sound-given env.scope at _ _ (either-kind env.scope v w h k)

  pub operator-sound : is_integer env.scope 3 ≡ false → (at : ℕ) (op : BinaryOperator) (a b : Operand) → IsFine a → IsFine b → Gives (operator env at op a b)
  operator-sound m at binary.And a b h k = sound-two env.scope at _ _ _ (λ v w vs ws. and-sound at v w (scalar-sound env.scope a h v vs) (scalar-sound env.scope b k w ws))
  operator-sound m at binary.Or a b h k = sound-two env.scope at _ _ _ (λ v w vs ws. or-sound at v w (scalar-sound env.scope a h v vs) (scalar-sound env.scope b k w ws))
  operator-sound m at binary.Equal a b h k = equal-sound at binary.Equal a b h k
  operator-sound m at binary.NotEqual a b h k = equal-sound at binary.NotEqual a b h k
  operator-sound m at binary.Multiply a b h k = product-sound m at a b h k
  operator-sound m at binary.Less a b h k = values-sound at binary.Less a b h k
  operator-sound m at binary.Greater a b h k = values-sound at binary.Greater a b h k
  operator-sound m at binary.LessEqual a b h k = values-sound at binary.LessEqual a b h k
  operator-sound m at binary.GreaterEqual a b h k = values-sound at binary.GreaterEqual a b h k
  operator-sound m at binary.Add a b h k = values-sound at binary.Add a b h k
  operator-sound m at binary.Subtract a b h k = values-sound at binary.Subtract a b h k
  operator-sound m at binary.Divide a b h k = values-sound at binary.Divide a b h k
  operator-sound m at binary.Remainder a b h k = values-sound at binary.Remainder a b h k

  -- ---- assignment

  set-sound : (at : ℕ) (old : Bool) (x : ℕ) (v : Value) → IsOf env.scope v → Gives (set_local env at old x v)
  set-sound at old x v h = sound-given env.scope at _ _ (local-kind-is env.scope old x v h)

  taken-sound : (at : ℕ) (old : Bool) (x t : ℕ) (r : Result Operand Fault) → ((y : Operand) → r ≡ Ok y → HasType env.scope y.ty y.tree) → Gives (taken env at old x t r)
  taken-sound at old x t (Err f) h = sound-err env.scope f
  taken-sound at old x t (Ok e) h = sound-with env.scope at (converted env.scope t (of_type e.ty e.tree)) _
      (λ v vs. set-sound at old x v (converted-sound env.scope t (of_type e.ty e.tree) (h e refl) v vs).0)

  combined-valued : (at : ℕ) (o : Option Combined) (a b : Value) → IsOf env.scope a → IsOf env.scope b → (y : Operand) → combined_at env at o a b ≡ Ok y → HasType env.scope y.ty y.tree
  combined-valued at None a b h k y e = absurd cc
  combined-valued at (Some c) a b h k y e = operated-valued at c.operation c.own (a ∷ b ∷ []) (operated-kind env.scope c.operation c.own (a ∷ b ∷ []) (h, (k, tt))) y e

  modified-sound : (at : ℕ) (old : Bool) (t : ℕ) (p v : Value) (o : Option Combined) → IsOf env.scope p → IsOf env.scope v → Gives (modified env at old t p v o)
  modified-sound at old t p v None h k = sound-err env.scope _
  modified-sound at old t p v (Some c) h k = sound-if env.scope (lacks_cells env.scope c.operation (t ∷ v.ty ∷ [])) _ _ (λ z. sound-err env.scope _)
      (λ z. sound-given env.scope at _ _ (modified-kind-is env.scope c.operation c.own t old p v h k))

  cell-changed-sound : (at : ℕ) (old : Bool) (op : BinaryOperator) (p v : Value) (o : Option ℕ) → IsOf env.scope p → IsOf env.scope v → Gives (cell_changed env at old op p v o)
  cell-changed-sound at old op p v None h k = sound-err env.scope _
  cell-changed-sound at old op p v (Some t) h k = modified-sound at old t p v (combination env.scope op t v.ty) h k

  changed-as : (at : ℕ) (old : Bool) (op : BinaryOperator) (what : Standing) (t : ℕ) (e : Expression) (v : Value) → IsSoundAs env.scope what t e → IsOf env.scope v
      → Gives (changed_of env at old op what t e v)
  changed-as at old op (standing.Local x) t e v h k = taken-sound at old x t _
      (combined-valued at (combination env.scope op t v.ty) (of_type t e) v (value-sound env.scope (operand at (standing.Local x) t e) h (of_type t e) refl) k)
  changed-as at old op standing.Cell t e v h k = cell-changed-sound at old op (of_type t e) v (pointee env.scope t) h.0 k
  changed-as at old op standing.Value t e v h k = sound-err env.scope _
  changed-as at old op standing.Zero t e v h k = sound-err env.scope _
  changed-as at old op standing.Null t e v h k = sound-err env.scope _
  changed-as at old op standing.Whole t e v h k = sound-err env.scope _
  changed-as at old op standing.Elements t e v h k = sound-err env.scope _
  changed-as at old op (standing.Size p) t e v h k = sound-err env.scope _
  changed-as at old op (standing.Product c) t e v h k = sound-err env.scope _
  changed-as at old op standing.Nothing t e v h k = sound-err env.scope _
  changed-as at old op (standing.Entry f) t e v h k = sound-err env.scope _

  pub changed-sound : (at : ℕ) (old : Bool) (op : BinaryOperator) (x : Operand) (v : Value) → IsFine x → IsOf env.scope v → Gives (changed env at old op x v)
  changed-sound at old op x v h k = sound-if env.scope (is_integer env.scope v.ty) _ _ (λ i. changed-as at old op x.standing x.ty x.tree v h k) (λ i. sound-err env.scope _)

  stored-sound : (at : ℕ) (p : Value) (y : Operand) (o : Option ℕ) → IsOf env.scope p → IsFine y → Gives (stored env at p y o)
  stored-sound at p y None h k = sound-err env.scope _
  stored-sound at p y (Some t) h k = sound-with env.scope at (convert env.scope t y) _
      (λ v vs. requested-sound env at request.Store (Some t) (p ∷ v ∷ []) (h, ((convert-sound env.scope t y k v vs).0, tt)))

  assigned-as : (at : ℕ) (what : Standing) (t : ℕ) (e : Expression) (y : Operand) → IsSoundAs env.scope what t e → IsFine y → Gives (assigned_of env at what t e y)
  assigned-as at (standing.Local x) t e y h k = sound-with env.scope at (convert env.scope t y) _ (λ v vs. set-sound at false x v (convert-sound env.scope t y k v vs).0)
  assigned-as at standing.Cell t e y h k = stored-sound at (of_type t e) y (pointee env.scope t) h.0 k
  assigned-as at standing.Value t e y h k = sound-err env.scope _
  assigned-as at standing.Zero t e y h k = sound-err env.scope _
  assigned-as at standing.Null t e y h k = sound-err env.scope _
  assigned-as at standing.Whole t e y h k = sound-err env.scope _
  assigned-as at standing.Elements t e y h k = sound-err env.scope _
  assigned-as at (standing.Size p) t e y h k = sound-err env.scope _
  assigned-as at (standing.Product c) t e y h k = sound-err env.scope _
  assigned-as at standing.Nothing t e y h k = sound-err env.scope _
  assigned-as at (standing.Entry f) t e y h k = sound-err env.scope _

  pub assignment-sound : (at : ℕ) (op : AssignOperator) (x y : Operand) → IsFine x → IsFine y → Gives (assignment env at op x y)
  assignment-sound at op x y h k = sound-option env.scope (compound_of op) _ _ (assigned-as at x.standing x.ty x.tree y h k)
      (λ o e. sound-with env.scope at (value env.scope y) _ (λ v vs. changed-sound at false o x v h (value-sound env.scope y k v vs)))

  -- ---- unary operators and casts

  address-as : (at : ℕ) (what : Standing) (t : ℕ) (e : Expression) → IsSoundAs env.scope what t e → Gives (address_of at what t e)
  address-as at standing.Cell t e h = sound-ok env.scope _ h.0
  address-as at standing.Whole t e h = sound-ok env.scope _ h
  address-as at standing.Value t e h = sound-err env.scope _
  address-as at standing.Zero t e h = sound-err env.scope _
  address-as at standing.Null t e h = sound-err env.scope _
  address-as at (standing.Local x) t e h = sound-err env.scope _
  address-as at standing.Elements t e h = sound-err env.scope _
  address-as at (standing.Size p) t e h = sound-err env.scope _
  address-as at (standing.Product c) t e h = sound-err env.scope _
  address-as at standing.Nothing t e h = sound-err env.scope _
  address-as at (standing.Entry f) t e h = sound-err env.scope _

  pub one-is : IsOf env.scope one
  one-is = refl

  pub unary-sound : (at : ℕ) (op : PrefixOperator) (x : Operand) → IsFine x → Gives (unary env at op x)
  unary-sound at prefix.Negate x h = sound-with env.scope at (value env.scope x) _ (λ v vs. operated-sound env at operation.Subtract _ (_ ∷ v ∷ []) (refl, (value-sound env.scope x h v vs, tt)))
  unary-sound at prefix.Not x h = sound-with env.scope at (scalar env.scope x) _ (λ v vs. operated-sound env at operation.Not int_type (v ∷ []) (scalar-sound env.scope x h v vs, tt))
  unary-sound at prefix.Dereference x h = sound-with env.scope at (value env.scope x) _ (λ p ps.
      sound-if env.scope (is_pointer env.scope p.ty) _ _ (λ y. sound-ok env.scope _ (place-sound env.scope p.ty p.tree (value-sound env.scope x h p ps))) (λ y. sound-err env.scope _))
  unary-sound at prefix.AddressOf x h = address-as at x.standing x.ty x.tree h
  unary-sound at prefix.Increment x h = changed-sound at false binary.Add x one h one-is
  unary-sound at prefix.Decrement x h = changed-sound at false binary.Subtract x one h one-is

  cast-value-sound : (at : ℕ) (allocates : Bool) (t : ℕ) (v : Value) → IsOf env.scope v → Gives (cast_value env at allocates t v)
  cast-value-sound at allocates t v h = sound-if env.scope (is_integer env.scope t) _ _
      (λ i. sound-with env.scope at (converted env.scope t v) _ (λ w ws. sound-ok env.scope _ (converted-sound env.scope t v h w ws).0))
      (λ i. sound-if env.scope (allocates && (v.ty == t)) _ _ (λ a. sound-ok env.scope _ h) (λ a. sound-err env.scope _))

  pub cast-sound : (at : ℕ) (allocates : Bool) (o : Option ℕ) (x : Operand) → IsFine x → Gives (cast env at allocates o x)
  cast-sound at allocates None x h = sound-err env.scope _
  cast-sound at allocates (Some t) x h = sound-with env.scope at (value env.scope x) _ (λ v vs. cast-value-sound at allocates t v (value-sound env.scope x h v vs))
