-- What is known of the parts of a typed expression.
use Rattle.std.proofs.Common.{◌≡◌, ℕ, zero, suc, Bool, true, false, List, [], ◌∷◌, map, length, slice_get, Option, Some, None, refl, ap, ◌∙◌, sym}
use Rattle.std.proofs.lemmas.Bool.{and_parts}
use Rattle.std.proofs.lemmas.Option.{none-some, same_Some}
use Rattle.kt_tree.specs.Kinds.{Scope, Head, is_scalar}
use Rattle.kt_tree.specs.Tree.{Expressions, NoMore, More, Function}
use Rattle.kt_tree.specs.Typed.{Kind, NoValue, Of, kind, types, value_type, if_so, both_there, set_kind, choice_kind, logical_kind, call_kind, operation_kind, request_kind, is_modified, modified_kind}
use Rattle.kt_tree.specs.Version.{Program, head_of, scope_of}
use Rattle.kt_genexpr.specs.ExpressionCode.{count}

-- there is a number
abbrev pub IsThere : Option ℕ → Type 0
IsThere o = (t : ℕ) × (o ≡ Some t)

if-true : {A : Type 0} (b : Bool) (x y : A) → if_so b x ≡ Some y → b ≡ true
if-true true x y h = refl
if-true false x y h = absurd (none-some y h)

pub value-kind : (o : Option Kind) (t : ℕ) → value_type o ≡ Some t → o ≡ Some (Of t)
value-kind (Some (Of u)) t h = ap (λ n. Some (Of n)) (same_Some u t h)
value-kind (Some NoValue) t h = absurd (none-some t h)
value-kind None t h = absurd (none-some t h)

pub set-value : (o p : Option ℕ) (k : Kind) → set_kind o p ≡ Some k → IsThere p
set-value (Some t) (Some v) k h = (v, refl)
set-value (Some t) None k h = absurd (none-some k h)
set-value None p k h = absurd (none-some k h)

pub logical-values : (s : Scope) (o p : Option ℕ) (k : Kind) → logical_kind s o p ≡ Some k → IsThere o × IsThere p
logical-values s (Some a) (Some b) k h = ((a, refl), (b, refl))
logical-values s (Some a) None k h = absurd (none-some k h)
logical-values s None p k h = absurd (none-some k h)

pub choice-values : (s : Scope) (t : ℕ) (o p q : Option ℕ) (k : Kind) → choice_kind s t o p q ≡ Some k → IsThere o × IsThere p × IsThere q
choice-values s t (Some c) (Some a) (Some b) k h = ((c, refl), (a, refl), (b, refl))
choice-values s t (Some c) (Some a) None k h = absurd (none-some k h)
choice-values s t (Some c) None q k h = absurd (none-some k h)
choice-values s t None p q k h = absurd (none-some k h)

-- the values of `x op= e`, and that the operation takes them
pub record AreChanging (s : Scope) (own t : ℕ) (takes : List ℕ → Bool) (o p : Option ℕ) : Type 0 where
  pub pointer : ℕ
  pub operand : ℕ
  pub pointer_is : o ≡ Some pointer
  pub operand_is : p ≡ Some operand
  pub scalar : is_scalar s t ≡ true
  pub takes_them : takes (t ∷ operand ∷ []) ≡ true

pub modified-values : (s : Scope) (own t : ℕ) (takes : List ℕ → Bool) (o p : Option ℕ) (k : Kind) → modified_kind s own t takes o p ≡ Some k →
    AreChanging s own t takes o p
modified-values s own t takes (Some a) (Some b) k h =
    let first = and_parts _ _ (if-true (is_modified s own t takes a b) (Of t) k h) in
    let second = and_parts _ _ (first.0) in
    let third = and_parts _ _ (second.0) in
    record { pointer = a; operand = b; pointer_is = refl; operand_is = refl; scalar = third.1; takes_them = second.1 }
modified-values s own t takes (Some a) None k h = absurd (none-some k h)
modified-values s own t takes None p k h = absurd (none-some k h)

-- operands that are taken
pub record AreTaken (takes : List ℕ → Bool) (o : Option (List ℕ)) : Type 0 where
  pub operands : List ℕ
  pub are : o ≡ Some operands
  pub taken : takes operands ≡ true

pub operation-values : (s : Scope) (t : ℕ) (takes : List ℕ → Bool) (o : Option (List ℕ)) (k : Kind) → operation_kind s t takes o ≡ Some k → AreTaken takes o
operation-values s t takes (Some ts) k h = record { operands = ts; are = refl; taken = if-true (takes ts) (Of t) k h }
operation-values s t takes None k h = absurd (none-some k h)

pub request-values : (t : Option ℕ) (takes : List ℕ → Bool) (o : Option (List ℕ)) (k : Kind) → request_kind t takes o ≡ Some k → AreTaken takes o
request-values t takes (Some ts) k h = record { operands = ts; are = refl; taken = if-true (takes ts) _ k h }
request-values t takes None k h = absurd (none-some k h)

-- a call of a function that there is
pub record IsCalled (h : Option Head) (o : Option (List ℕ)) : Type 0 where
  pub head : Head
  pub operands : List ℕ
  pub is : h ≡ Some head
  pub are : o ≡ Some operands

pub call-values : (h : Option Head) (o : Option (List ℕ)) (k : Kind) → call_kind h o ≡ Some k → IsCalled h o
call-values (Some h) (Some ts) k e = record { head = h; operands = ts; is = refl; are = refl }
call-values (Some h) None k e = absurd (none-some k e)
call-values None o k e = absurd (none-some k e)

-- the function itself
function-of : (fs : List Function) (g : ℕ) (h : Head) → slice_get (map head_of fs) g ≡ Some h → (f : Function) × (slice_get fs g ≡ Some f)
function-of [] g h e = absurd (none-some h e)
function-of (f ∷ fs) zero h e = (f, refl)
function-of (f ∷ fs) (suc g) h e = function-of fs g h e

pub called-function : (p : Program) (f : Function) (g : ℕ) (h : Head) → slice_get (scope_of p f).functions g ≡ Some h →
    (callee : Function) × (slice_get p.functions g ≡ Some callee)
called-function p f g h e = function-of p.functions g h e

-- the first operand and the others
pub record AreMore (o : Option ℕ) (p : Option (List ℕ)) (ts : List ℕ) : Type 0 where
  pub first : ℕ
  pub rest : List ℕ
  pub first_is : o ≡ Some first
  pub rest_is : p ≡ Some rest
  pub is : ts ≡ first ∷ rest

pub more-values : (o : Option ℕ) (p : Option (List ℕ)) (ts : List ℕ) → both_there o p ≡ Some ts → AreMore o p ts
more-values (Some t) (Some us) ts h = record { first = t; rest = us; first_is = refl; rest_is = refl; is = sym (same_Some (t ∷ us) ts h) }
more-values (Some t) None ts h = absurd (none-some ts h)
more-values None p ts h = absurd (none-some ts h)

-- each operand has one type
pub types-count : (s : Scope) (es : Expressions) (ts : List ℕ) → types s es ≡ Some ts → length ts ≡ count es
types-count s NoMore ts h = ap length (sym (same_Some [] ts h))
types-count s (More e es) ts h =
    let more = more-values (value_type (kind s e)) (types s es) ts h in
    ap length more.is ∙ ap suc (types-count s es more.rest more.rest_is)
