-- Arguments that are converted one by one.
use Rattle.std.proofs.Common.{◌≡◌, ◌+◌, ◌<◌, ℕ, List, [], ◌∷◌, ◌++◌, map, length, drop, reverse, get_or, Option, Some, None, Ok, Err, refl, sym, ap, ◌∙◌, arith}
use Rattle.std.proofs.lemmas.List.{at_drop_more, reverse-append}
use Rattle.kt_tree.specs.Kinds.{Scope}
use Rattle.kt_typing.specs.Faults.{bad_type}
use Rattle.kt_typing.specs.Operands.{Value}
use Rattle.kt_typing.specs.Rules.{convert}
use Rattle.kt_typing.specs.Calls.{both_values, converted_all}
use Rattle.kt_operands.specs.declared.refusal.Refusal.{Refusal}
use Rattle.kt_operands.specs.declared.refusal.Refusal.TheVariants as refusal
use Rattle.kt_operands.specs.declared.operand.Operand.{Operand as OperandCode}
use Rattle.kt_operands.specs.Views.{operand_of}
use Rattle.kt_operands.specs.Judged.{Follows, found}
use Rattle.kt_calls.specs.Arguments.{joined}
use Rattle.kt_calls.proofs.Lists.{joined-step, joined-none}

module _ (s : Scope) (at : ℕ) (vs : List Value) (ps : List ℕ) (i : ℕ) (old : List OperandCode) (whole : Option (List Value)) where
  abbrev Left : Type 0
  Left = joined vs (converted_all s (drop i ps) (map operand_of (reverse old))) ≡ whole

  module _ (within : i < length ps) (left : Left) (new : List OperandCode) (x : OperandCode) (is : old ≡ new ++ x ∷ []) where
    stepped : joined vs (both_values (convert s (get_or ps i 0) (operand_of x)) (converted_all s (drop (i + 1) ps) (map operand_of (reverse new)))) ≡ whole
    stepped =
        sym (at_drop_more (λ ts. joined vs (converted_all s ts (map operand_of (x ∷ reverse new)))) ps i 0 within)
        ∙ ap (λ (xs : List OperandCode). joined vs (converted_all s (drop i ps) (map operand_of xs))) (sym (ap reverse is ∙ reverse-append new (x ∷ []))) ∙ left

    pub goes-on : (v : Value) → found at (convert s (get_or ps i 0) (operand_of x)) ≡ Ok v → joined (vs ++ v ∷ []) (converted_all s (drop (i + 1) ps) (map operand_of (reverse new))) ≡ whole
    goes-on v h = sym (joined-step vs (convert s (get_or ps i 0) (operand_of x)) v _ (there (convert s (get_or ps i 0) (operand_of x)) h)) ∙ stepped
      where
        there : (o : Option Value) → found at o ≡ Ok v → o ≡ Some v
        there None h = absurd cc
        there (Some w) h = let same : w ≡ v = cc in ap Some same

    pub stops : {V W : Type 0} (view : V → Value) (list : W → List Value) (e : Refusal) → Follows view (found at (convert s (get_or ps i 0) (operand_of x))) (Err e) → Follows list (found at whole) (Err e)
    stops view list refusal.NoMemory h = tt
    stops view list (refusal.Fault f) h = by (convert s (get_or ps i 0) (operand_of x)) refl h
      where
        by : (o : Option Value) → convert s (get_or ps i 0) (operand_of x) ≡ o → found at o ≡ Err f → found at whole ≡ Err f
        by (Some w) k h = absurd cc
        by None k h =
            let none : whole ≡ None = sym stepped ∙ ap (λ o. joined vs (both_values o (converted_all s (drop (i + 1) ps) (map operand_of (reverse new))))) k ∙ joined-none vs (converted_all s (drop (i + 1) ps) (map operand_of (reverse new))) in
            let same : bad_type at ≡ f = cc in
            ap (found at) none ∙ ap Err same

  -- a parameter without an argument
  pub lacks : {W : Type 0} (list : W → List Value) → i < length ps → Left → old ≡ [] → Follows list (found at whole) (Err (refusal.Fault (bad_type at)))
  lacks list within left none =
      let is : whole ≡ None =
      sym left ∙ at_drop_more (λ ts. joined vs (converted_all s ts (map operand_of (reverse old)))) ps i 0 within
      ∙ ap (λ (xs : List OperandCode). joined vs (converted_all s (get_or ps i 0 ∷ drop (i + 1) ps) (map operand_of (reverse xs)))) none in
      ap (found at) is

pub is-nil : {A : Type 0} (xs : List A) → length xs ≡ 0 → xs ≡ []
is-nil [] e = refl
is-nil (x ∷ xs) e = absurd (omega arith)
