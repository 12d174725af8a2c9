-- The parts of a statement that fits are typed, and fit.
use Rattle.std.proofs.Common.{◌≡◌, ℕ, true, Option, Some, None, refl}
use Rattle.std.specs.Option.{is_some}
use Rattle.std.proofs.lemmas.Bool.{false≢true}
use Rattle.kt_tree.specs.Kinds.{Scope}
use Rattle.kt_tree.specs.Tree.{Expression}
use Rattle.kt_tree.specs.Typed.{Kind, NoValue, Of, kind, value_type, is_scalar_kind, is_condition, all_of, is_result, fits_return}

-- the expression is typed
pub record IsTyped (s : Scope) (e : Expression) : Type 0 where
  pub kind_of : Kind
  pub is : kind s e ≡ Some kind_of

-- the step of a loop is typed, where there is one
abbrev pub IsTypedStep : Scope → Option Expression → Type 0
IsTypedStep s None = Unit {0}
IsTypedStep s (Some e) = IsTyped s e

there-typed : (s : Scope) (e : Expression) (k : Option Kind) → kind s e ≡ k → is_some k ≡ true → IsTyped s e
there-typed s e (Some k) h i = record { kind_of = k; is = h }
there-typed s e None h i = absurd (false≢true i)

pub some-typed : (s : Scope) (e : Expression) → is_some (kind s e) ≡ true → IsTyped s e
some-typed s e h = there-typed s e (kind s e) refl h

scalar-there : (s : Scope) (k : Option Kind) → is_scalar_kind s (value_type k) ≡ true → is_some k ≡ true
scalar-there s (Some k) h = refl
scalar-there s None h = absurd (false≢true h)

pub condition-typed : (s : Scope) (e : Expression) → is_condition s e ≡ true → IsTyped s e
condition-typed s e h = some-typed s e (scalar-there s (kind s e) h)

pub step-typed : (s : Scope) (e : Option Expression) → all_of (λ e. is_some (kind s e)) e ≡ true → IsTypedStep s e
step-typed s None h = tt
step-typed s (Some e) h = some-typed s e h

-- ---- what is returned

pub void-return : (s : Scope) (r : Option ℕ) → fits_return s r None ≡ true → r ≡ None
void-return s None h = refl
void-return s (Some t) h = absurd (false≢true h)

-- a value is returned from a function with a result
pub record IsReturned (s : Scope) (r : Option ℕ) (e : Expression) : Type 0 where
  pub type : ℕ
  pub result : r ≡ Some type
  pub typed : IsTyped s e

returned : (s : Scope) (r : Option ℕ) (e : Expression) (k : Option Kind) → kind s e ≡ k → is_result r (value_type k) ≡ true → IsReturned s r e
returned s (Some t) e (Some k) h i = record { type = t; result = refl; typed = record { kind_of = k; is = h } }
returned s (Some t) e None h i = absurd (false≢true i)
returned s None e None h i = absurd (false≢true i)
returned s None e (Some NoValue) h i = absurd (false≢true i)
returned s None e (Some (Of t)) h i = absurd (false≢true i)

pub value-return : (s : Scope) (r : Option ℕ) (e : Expression) → fits_return s r (Some e) ≡ true → IsReturned s r e
value-return s None e h = returned s None e (kind s e) refl h
value-return s (Some t) e h = returned s (Some t) e (kind s e) refl h
