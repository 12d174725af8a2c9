-- Expressions are sound where they stand in a statement.
use Rattle.std.proofs.Common.{◌≡◌, ℕ, Bool, true, false, [], ◌∷◌, Option, Some, None, Result, Ok, Err, if◌then◌else◌, refl, subst}
use Rattle.std.specs.Option.{is_some}
use Rattle.kt_grammar.specs.Tree.{Term}
use Rattle.kt_tree.specs.Kinds.{is_scalar}
use Rattle.kt_tree.specs.Typed.{kind, is_condition}
use Rattle.kt_typing.specs.declared.fault.Fault.{Fault}
use Rattle.kt_typing.specs.declared.standing.Standing.{Standing}
use Rattle.kt_typing.specs.declared.standing.Standing.TheVariants as standing
use Rattle.kt_typing.specs.declared.standing.Use.TheVariants as use_as
use Rattle.kt_typing.specs.Environment.{Environment}
use Rattle.kt_typing.specs.Faults.{bad_type}
use Rattle.kt_typing.specs.Forms.{Form, Ruled, NoPart, Part, fitting, typed, operands}
use Rattle.kt_typing.specs.Operands.{Operand, Value, valued, scalar}
use Rattle.kt_typing.specs.Rules.{wrong, with_value, convert}
use Rattle.kt_typing.specs.Sound.{HasType, IsSoundAs, IsSound, IsRight}
use Rattle.kt_typing.specs.Terms.{first_token, on_one, form, effect_of, effect, tested, condition, conversion}
use Rattle.kt_typing.proofs.Exact.{ruled-there, fitting-there, both-there}
use Rattle.kt_typing.proofs.SoundOperands.{IsOf, scalar-sound}
use Rattle.kt_typing.proofs.SoundRules.{convert-sound}
use Rattle.kt_typing.proofs.SoundTerms.{form-sound}

module _ (env : Environment) where
  -- the operand of a form of one part, and what its rule gives
  one-there : (at : ℕ) (w : Operand → Option Fault) (a : Form) (rule : Operand → Result Operand Fault) → ((y : Operand) → typed a ≡ Some y → IsSound env.scope y)
      → (x : Operand) → typed (Ruled None (Part w a NoPart) (on_one at rule)) ≡ Some x → (y : Operand) × (IsSound env.scope y) × (rule y ≡ Ok x)
  one-there at w a rule h x e =
      let (none, xs, are, is) = ruled-there None (on_one at rule) (operands (Part w a NoPart)) x e in
      let (y, rest, fits, ends, same) = both-there (fitting w (typed a)) (operands NoPart) xs are in
      let (there, right) = fitting-there w (typed a) y fits in
      let nil : rest ≡ [] = cc in
      (y, h y there, subst (λ zs. on_one at rule (y ∷ zs) ≡ Ok x) nil (subst (λ zs. on_one at rule zs ≡ Ok x) same is))

  value-there : (at : ℕ) (o : Option Value) (x : Operand) → with_value at o (λ v. Ok (valued at v.ty v.tree)) ≡ Ok x → (v : Value) × (o ≡ Some v) × (valued at v.ty v.tree ≡ x)
  value-there at None x e = absurd cc
  value-there at (Some v) x e = (v, refl, cc)

  of-value : (at : ℕ) (y : Operand) → IsSound env.scope y → (x : Operand) → with_value at (scalar env.scope y) (λ v. Ok (valued at v.ty v.tree)) ≡ Ok x → is_some (kind env.scope x.tree) ≡ true
  of-value at y h x e =
      let (v, is, same) = value-there at (scalar env.scope y) x e in
      subst (λ z. is_some (kind env.scope z.tree) ≡ true) same (rw (scalar-sound env.scope y h v is) refl)

  effect-as : (at : ℕ) (y : Operand) (what : Standing) → y.standing ≡ what → IsSound env.scope y → (x : Operand) → effect_of env at y what ≡ Ok x → is_some (kind env.scope x.tree) ≡ true
  effect-as at y standing.Nothing is h x e =
      let same : y ≡ x = cc in
      let gone = subst (λ w. IsSoundAs env.scope w y.ty y.tree) is h in
      subst (λ z. is_some (kind env.scope z.tree) ≡ true) same (rw gone refl)
  effect-as at y standing.Value is h x e = of-value at y h x e
  effect-as at y standing.Zero is h x e = of-value at y h x e
  effect-as at y standing.Null is h x e = of-value at y h x e
  effect-as at y (standing.Local n) is h x e = of-value at y h x e
  effect-as at y standing.Cell is h x e = of-value at y h x e
  effect-as at y standing.Whole is h x e = of-value at y h x e
  effect-as at y standing.Elements is h x e = of-value at y h x e
  effect-as at y (standing.Size p) is h x e = of-value at y h x e
  effect-as at y (standing.Product c) is h x e = of-value at y h x e
  effect-as at y (standing.Entry f) is h x e = of-value at y h x e

  tested-there : (at : ℕ) (v : Value) (x : Operand) → IsOf env.scope v → tested env at v ≡ Ok x → is_condition env.scope x.tree ≡ true
  tested-there at v x h e = by (is_scalar env.scope v.ty) refl e
    where
      by : (b : Bool) → is_scalar env.scope v.ty ≡ b → (if b then Ok (valued at v.ty v.tree) else Err (bad_type at)) ≡ Ok x → is_condition env.scope x.tree ≡ true
      by true s d = let same : valued at v.ty v.tree ≡ x = cc in subst (λ z. is_condition env.scope z.tree ≡ true) same (rw h s)
      by false s d = absurd cc

  condition-there : (at : ℕ) (o : Option Value) (x : Operand) → ((v : Value) → o ≡ Some v → IsOf env.scope v) → with_value at o (tested env at) ≡ Ok x → is_condition env.scope x.tree ≡ true
  condition-there at None x h e = absurd cc
  condition-there at (Some v) x h e = tested-there at v x (h v refl) e

module _ (env : Environment) (right : IsRight env) where
  pub effect-sound : (a : Term) (x : Operand) → typed (effect env a) ≡ Some x → is_some (kind env.scope x.tree) ≡ true
  effect-sound a x e =
      let (y, h, is) = one-there env (first_token a) (wrong env use_as.Value) (form env use_as.Value a) (λ y. effect_of env (first_token a) y y.standing) (form-sound env right use_as.Value a) x e in
      effect-as env (first_token a) y y.standing refl h x is

  pub condition-sound : (a : Term) (x : Operand) → typed (condition env a) ≡ Some x → is_condition env.scope x.tree ≡ true
  condition-sound a x e =
      let (y, h, is) = one-there env (first_token a) (wrong env use_as.Value) (form env use_as.Value a) (λ y. with_value (first_token a) (scalar env.scope y) (tested env (first_token a)))
      (form-sound env right use_as.Value a) x e in
      condition-there env (first_token a) (scalar env.scope y) x (scalar-sound env.scope y h) is

  pub conversion-sound : (t at : ℕ) (a : Term) (x : Operand) → typed (conversion env t at a) ≡ Some x → HasType env.scope t x.tree
  conversion-sound t at a x e =
      let (y, h, is) = one-there env at (wrong env use_as.Value) (form env use_as.Value a) (λ y. with_value at (convert env.scope t y) (λ v. Ok (valued at v.ty v.tree)))
      (form-sound env right use_as.Value a) x e in
      let (v, there, same) = value-there env at (convert env.scope t y) x is in
      let (has, ty) = convert-sound env.scope t y h v there in
      subst (λ z. HasType env.scope t z.tree) same (subst (λ k. HasType env.scope k v.tree) ty has)
