-- Lists of arguments and of values, from the first to the last.
use Rattle.std.proofs.Common.{◌≡◌, ◌==◌, ◌&&◌, ℕ, Bool, true, false, List, [], ◌∷◌, ◌++◌, map, Option, Some, None, Ok, refl, sym, ap, ◌∙◌, append_assoc}
use Rattle.kt_tree.specs.Tree.{Operated, More, expression_of, expressions_of}
use Rattle.std.proofs.lemmas.Bool.Decides.{Decides-eqb}
use Rattle.kt_tree.specs.declared.expr.Operation.TheVariants as operation
use Rattle.kt_tree.specs.Kinds.{Scope, is_operation, is_pointer}
use Rattle.kt_tree.specs.Typed.{same_types}
use Rattle.kt_typing.specs.Operands.{Operand, Value, of_type, types_of, trees_of, value}
use Rattle.kt_typing.specs.Rules.{is_null, null_value, converted, convert}
use Rattle.kt_typing.specs.Calls.{both_values, converted_all}
use Rattle.kt_operands.specs.declared.operand.Value.{Value as ValueCode}
use Rattle.kt_operands.specs.Views.{value_of}
use Rattle.kt_operands.specs.Judged.{found}
use Rattle.kt_calls.specs.Arguments.{joined}

pub types-apart : (vs : List ValueCode) → map (λ v. v.ty) vs ≡ types_of (map value_of vs)
types-apart [] = refl
types-apart (v ∷ vs) = ap (λ ts. v.ty ∷ ts) (types-apart vs)

pub trees-apart : (vs : List ValueCode) → expressions_of (map (λ v. v.tree) vs) ≡ trees_of (map value_of vs)
trees-apart [] = refl
trees-apart (v ∷ vs) = ap (More (expression_of v.tree)) (trees-apart vs)

pub joined-step : (vs : List Value) (o : Option Value) (v : Value) (rest : Option (List Value)) → o ≡ Some v → joined vs (both_values o rest) ≡ joined (vs ++ v ∷ []) rest
joined-step vs None v rest e = absurd cc
joined-step vs (Some w) v None e = refl
joined-step vs (Some w) v (Some ws) e = let same : w ≡ v = cc in rw same (ap Some (sym (append_assoc vs (v ∷ []) ws)))

pub joined-none : (vs : List Value) (rest : Option (List Value)) → joined vs (both_values None rest) ≡ None
joined-none vs None = refl
joined-none vs (Some ws) = refl

pub ruleset aparts = (types-apart, trees-apart)

-- ---- arguments that convert to the types of parameters

kept-type : (s : Scope) (t : ℕ) (v w : Value) → converted s t v ≡ Some w → w.ty ≡ t
kept-type s t v w e = by (v.ty == t) refl (is_operation s operation.Convert t (v.ty ∷ [])) refl
  where
    by : (b : Bool) → (v.ty == t) ≡ b → (d : Bool) → is_operation s operation.Convert t (v.ty ∷ []) ≡ d → w.ty ≡ t
    by true i d j = let same : v ≡ w = cc (rw i at e) in ap (λ (u : Value). u.ty) (sym same) ∙ (Decides-eqb v.ty t).0 i
    by false i true j = let same : of_type t (Operated operation.Convert t (trees_of (v ∷ []))) ≡ w = cc (rw (i, j) at e) in ap (λ (u : Value). u.ty) (sym same)
    by false i false j = absurd cc (rw (i, j) at e)

convert-type : (s : Scope) (t : ℕ) (x : Operand) (w : Value) → convert s t x ≡ Some w → w.ty ≡ t
convert-type s t x w e = by (is_pointer s t && is_null x.standing) refl (value s x) refl
  where
    by : (b : Bool) → (is_pointer s t && is_null x.standing) ≡ b → (o : Option Value) → value s x ≡ o → w.ty ≡ t
    by true i o j = let same : null_value t x ≡ w = cc (rw i at e) in ap (λ (u : Value). u.ty) (sym same)
    by false i None j = absurd cc (rw (i, j) at e)
    by false i (Some v) j = kept-type s t v w (rw (i, j) at e)

types-head : (t : ℕ) (ts : List ℕ) (o : Option Value) (rest : Option (List Value)) (ws : List Value) → ((w : Value) → o ≡ Some w → w.ty ≡ t)
    → ((us : List Value) → rest ≡ Some us → same_types ts (types_of us) ≡ true) → both_values o rest ≡ Some ws → same_types (t ∷ ts) (types_of ws) ≡ true
types-head t ts (Some w) (Some us) ws h k e = let same : w ∷ us ≡ ws = cc in rw (← same) (rw ((Decides-eqb t w.ty).1 (sym (h w refl)), k us refl) refl)
types-head t ts None None ws h k e = absurd cc
types-head t ts None (Some us) ws h k e = absurd cc
types-head t ts (Some w) None ws h k e = absurd cc

pub converted-types : (s : Scope) (ts : List ℕ) (xs : List Operand) (ws : List Value) → converted_all s ts xs ≡ Some ws → same_types ts (types_of ws) ≡ true
converted-types s [] [] ws e = let same : [] ≡ ws = cc in rw (← same) refl
converted-types s [] (x ∷ xs) ws e = absurd cc
converted-types s (t ∷ ts) [] ws e = absurd cc
converted-types s (t ∷ ts) (x ∷ xs) ws e = types-head t ts (convert s t x) (converted_all s ts xs) ws (convert-type s t x) (converted-types s ts xs) e

pub found-types : (at : ℕ) (s : Scope) (ts : List ℕ) (xs : List Operand) (ws : List Value) → found at (converted_all s ts xs) ≡ Ok ws → same_types ts (types_of ws) ≡ true
found-types at s ts xs ws e = by (converted_all s ts xs) refl
  where
    by : (o : Option (List Value)) → converted_all s ts xs ≡ o → same_types ts (types_of ws) ≡ true
    by None i = absurd cc (rw i at e)
    by (Some us) i = converted-types s ts xs ws (i ∙ ap Some (let same : us ≡ ws = cc (rw i at e) in same))
