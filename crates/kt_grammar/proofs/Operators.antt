-- The operator of a sign has that sign, and belongs to the dialect.
use Rattle.std.proofs.Common.{◌≡◌, ℕ, ◌≤◌, true, List, ◌∷◌, drop, Option, Some, None, refl, sym, ap, subst, inl, inr, eqb-true, ◌==◌, ◌⊎◌}
use Rattle.std.proofs.lemmas.Option.{same_Some}
use Rattle.kt_grammar.specs.declared.sign.Sign.{Sign}
use Rattle.kt_grammar.specs.declared.sign.Sign.TheVariants as sign
use Rattle.kt_grammar.specs.declared.symbol.Symbol.{Symbol}
use Rattle.kt_grammar.specs.declared.symbol.Symbol.TheVariants as symbol
use Rattle.kt_grammar.specs.declared.operator.Dialect.{Dialect}
use Rattle.kt_grammar.specs.declared.operator.Dialect.TheVariants.{C, Rules}
use Rattle.kt_grammar.specs.declared.operator.PrefixOperator.{PrefixOperator}
use Rattle.kt_grammar.specs.declared.operator.PrefixOperator.TheVariants as prefix
use Rattle.kt_grammar.specs.declared.operator.StepOperator.{StepOperator}
use Rattle.kt_grammar.specs.declared.operator.StepOperator.TheVariants as step
use Rattle.kt_grammar.specs.declared.operator.BinaryOperator.{BinaryOperator}
use Rattle.kt_grammar.specs.declared.operator.BinaryOperator.TheVariants as binary
use Rattle.kt_grammar.specs.declared.operator.AssignOperator.{AssignOperator}
use Rattle.kt_grammar.specs.declared.operator.AssignOperator.TheVariants as assign
use Rattle.kt_grammar.specs.Signs.{is_c, prefix_sign, has_prefix, step_sign, binary_sign, assign_sign, precedence, prefix_of, step_of, binary_of, assign_of}
use Rattle.kt_grammar.specs.Marks.{sign as sign_token}
use Rattle.kt_grammar.specs.Reading.{binary_here, assign_here}
use Rattle.kt_grammar.specs.Laws.{Stands}
use Rattle.kt_grammar.specs.StandsLaws.{sign_stands, chosen}

-- what an optional value led to
pub picked : {O A : Type 0} (o : Option O) (x : A) (f : O → A) (z : A) → (elim o as (λ _. A) [ None ↦ x | (Some op) ↦ f op ]) ≡ z
    → ((o ≡ None) × (x ≡ z)) ⊎ ((op : O) × (o ≡ Some op) × (f op ≡ z))
picked None x f z e = inl (refl, e)
picked (Some op) x f z e = inr (op, refl, e)

found : {O : Type 0} (P : O → Type 0) (x y : O) → Some x ≡ Some y → P x → P y
found P x y e h = subst P (same_Some x y e) h

abbrev IsPrefix : Dialect → Sign → PrefixOperator → Type 0
IsPrefix g s op = (s ≡ prefix_sign op) × (has_prefix g op ≡ true)

pub prefix_of-is : (g : Dialect) (s : Sign) (op : PrefixOperator) → prefix_of g s ≡ Some op → IsPrefix g s op
unfolding prefix_of
prefix_of-is C sign.Minus op e = found (IsPrefix C sign.Minus) prefix.Negate op e (refl, refl)
prefix_of-is Rules sign.Minus op e = found (IsPrefix Rules sign.Minus) prefix.Negate op e (refl, refl)
prefix_of-is C sign.Not op e = found (IsPrefix C sign.Not) prefix.Not op e (refl, refl)
prefix_of-is Rules sign.Not op e = found (IsPrefix Rules sign.Not) prefix.Not op e (refl, refl)
prefix_of-is C sign.Star op e = found (IsPrefix C sign.Star) prefix.Dereference op e (refl, refl)
prefix_of-is Rules sign.Star op e = found (IsPrefix Rules sign.Star) prefix.Dereference op e (refl, refl)
prefix_of-is C sign.And op e = found (IsPrefix C sign.And) prefix.AddressOf op e (refl, refl)
prefix_of-is C sign.PlusPlus op e = found (IsPrefix C sign.PlusPlus) prefix.Increment op e (refl, refl)
prefix_of-is C sign.MinusMinus op e = found (IsPrefix C sign.MinusMinus) prefix.Decrement op e (refl, refl)
prefix_of-is _ _ op e = absurd cc

abbrev IsStep : Dialect → Sign → StepOperator → Type 0
IsStep g s op = (is_c g ≡ true) × (s ≡ step_sign op)

pub step_of-is : (g : Dialect) (s : Sign) (op : StepOperator) → step_of g s ≡ Some op → IsStep g s op
unfolding step_of
step_of-is C sign.PlusPlus op e = found (IsStep C sign.PlusPlus) step.Increment op e (refl, refl)
step_of-is C sign.MinusMinus op e = found (IsStep C sign.MinusMinus) step.Decrement op e (refl, refl)
step_of-is _ _ op e = absurd cc

binary_of-is : (s : Sign) (op : BinaryOperator) → binary_of s ≡ Some op → s ≡ binary_sign op
unfolding binary_of
binary_of-is sign.OrOr op e = ap binary_sign (same_Some binary.Or op e)
binary_of-is sign.AndAnd op e = ap binary_sign (same_Some binary.And op e)
binary_of-is sign.Equal op e = ap binary_sign (same_Some binary.Equal op e)
binary_of-is sign.NotEqual op e = ap binary_sign (same_Some binary.NotEqual op e)
binary_of-is sign.Less op e = ap binary_sign (same_Some binary.Less op e)
binary_of-is sign.Greater op e = ap binary_sign (same_Some binary.Greater op e)
binary_of-is sign.LessEqual op e = ap binary_sign (same_Some binary.LessEqual op e)
binary_of-is sign.GreaterEqual op e = ap binary_sign (same_Some binary.GreaterEqual op e)
binary_of-is sign.Plus op e = ap binary_sign (same_Some binary.Add op e)
binary_of-is sign.Minus op e = ap binary_sign (same_Some binary.Subtract op e)
binary_of-is sign.Star op e = ap binary_sign (same_Some binary.Multiply op e)
binary_of-is sign.Slash op e = ap binary_sign (same_Some binary.Divide op e)
binary_of-is sign.Percent op e = ap binary_sign (same_Some binary.Remainder op e)
binary_of-is _ op e = absurd cc

abbrev IsAssign : Dialect → Sign → AssignOperator → Type 0
IsAssign g s op = (is_c g ≡ true) × (s ≡ assign_sign op)

assign_of-is : (g : Dialect) (s : Sign) (op : AssignOperator) → assign_of g s ≡ Some op → IsAssign g s op
unfolding assign_of
assign_of-is C sign.Assign op e = found (IsAssign C sign.Assign) assign.Assign op e (refl, refl)
assign_of-is C sign.PlusAssign op e = found (IsAssign C sign.PlusAssign) assign.Add op e (refl, refl)
assign_of-is C sign.MinusAssign op e = found (IsAssign C sign.MinusAssign) assign.Subtract op e (refl, refl)
assign_of-is C sign.StarAssign op e = found (IsAssign C sign.StarAssign) assign.Multiply op e (refl, refl)
assign_of-is C sign.SlashAssign op e = found (IsAssign C sign.SlashAssign) assign.Divide op e (refl, refl)
assign_of-is C sign.PercentAssign op e = found (IsAssign C sign.PercentAssign) assign.Remainder op e (refl, refl)
assign_of-is _ _ op e = absurd cc

-- a sign that is known to be another stands there as that one
pub sign_is_stands : (limit d at : ℕ) (s t : Sign) (rest : List Symbol) → d ≤ limit → s ≡ t → Stands limit (sign_token d t) (symbol.Sign at s ∷ rest) rest
sign_is_stands limit d at s t rest h is = subst (λ (s : Sign). Stands limit (sign_token d t) (symbol.Sign at s ∷ rest) rest) (sym is) (sign_stands limit d at t rest h)

-- a binary operator at the front stands there, and is of the level that is asked for
pub binary_here-is : (limit d l : ℕ) (symbols : List Symbol) (op : BinaryOperator) → d ≤ limit → binary_here l symbols ≡ Some op
    → (precedence op ≡ l) × Stands limit (sign_token d (binary_sign op)) symbols (drop 1 symbols)
unfolding binary_here
binary_here-is limit d l (symbol.Sign at s ∷ rest) op h e = elim (picked (binary_of s) _ _ (Some op) e) [
  | inl none ↦ absurd (let e : None ≡ Some op = none.1 in cc)
  | inr some ↦ elim (chosen (precedence some.0 == l) _ _ (Some op) some.2) [
    | inl c ↦ found (λ op. (precedence op ≡ l) × Stands limit (sign_token d (binary_sign op)) (symbol.Sign at s ∷ rest) rest) some.0 op c.1
        (eqb-true (precedence some.0) l c.0, sign_is_stands limit d at s (binary_sign some.0) rest h (binary_of-is s some.0 some.1))
    | inr c ↦ absurd (let e : None ≡ Some op = c.1 in cc)
  ]
]
binary_here-is limit d l _ op h e = absurd cc

-- an assignment operator at the front stands there, and the dialect has it
pub assign_here-is : (limit d : ℕ) (g : Dialect) (symbols : List Symbol) (op : AssignOperator) → d ≤ limit → assign_here g symbols ≡ Some op
    → (is_c g ≡ true) × Stands limit (sign_token d (assign_sign op)) symbols (drop 1 symbols)
unfolding assign_here
assign_here-is limit d g (symbol.Sign at s ∷ rest) op h e =
    let is = assign_of-is g s op e in (is.0, sign_is_stands limit d at s (assign_sign op) rest h is.1)
assign_here-is limit d g _ op h e = absurd cc
