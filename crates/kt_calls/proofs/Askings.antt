-- Requests of arguments that have values, or not.
use Rattle.std.proofs.Common.{◌≡◌, ℕ, Bool, true, false, if◌then◌else◌, List, [], ◌∷◌, Option, Some, None, Result, Ok, Err, refl, ap, subst, sym}
use Rattle.kt_tree.specs.declared.expr.Request.{Request}
use Rattle.kt_tree.specs.Kinds.{Head}
use Rattle.kt_typing.specs.declared.format.Conversion.{Conversion}
use Rattle.kt_typing.specs.Faults.{bad_type}
use Rattle.kt_typing.specs.Environment.{Environment}
use Rattle.kt_typing.specs.Operands.{Operand, Value}
use Rattle.kt_typing.specs.Rules.{requested}
use Rattle.kt_typing.specs.Calls.{Argument, Plain, Nullable, NullItself, argument_values, both_values, asked, written, called_with}
use Rattle.kt_operands.specs.declared.refusal.Refusal.{Refusal}
use Rattle.kt_operands.specs.declared.refusal.Refusal.TheVariants as refusal
use Rattle.kt_operands.specs.Judged.{Follows, found}
use Rattle.kt_calls.specs.Arguments.{only, two}
use Rattle.kt_calls.proofs.Taken.{is-only, is-two}

module _ {V W : Type 0} (view : V → Value) (whole : W → Operand) (env : Environment) (at : ℕ) (q : Request) (t : Option ℕ) where
  pub stops_asked : (o : Option Value) (e : Refusal) → Follows view (found at o) (Err e) → Follows whole (asked env at q t (both_values o (Some []))) (Err e)
  stops_asked o refusal.NoMemory h = tt
  stops_asked None (refusal.Fault f) h = let same : bad_type at ≡ f = cc in ap Err same
  stops_asked (Some v) (refusal.Fault f) h = absurd cc

  pub goes_asked : (o : Option Value) (v : Value) (r : Result W Refusal) → found at o ≡ Ok v → Follows whole (requested env at q t (v ∷ [])) r
      → Follows whole (asked env at q t (both_values o (Some []))) r
  goes_asked None v r e h = absurd cc
  goes_asked (Some w) v r e h = let same : w ≡ v = cc in rw same h

module _ {W : Type 0} (whole : W → Operand) (env : Environment) (at : ℕ) (q : Request) (t : Option ℕ) (xs : List Operand) where
  pub one_asked : (as' : List Argument) (x : Operand) (r : Result W Refusal) → Some x ≡ only xs → Follows whole (asked env at q t (argument_values env.scope as' (x ∷ []))) r
      → Follows whole (asked env at q t (argument_values env.scope as' xs)) r
  one_asked as' x r e h = subst (λ ys. Follows whole (asked env at q t (argument_values env.scope as' ys)) r) (sym (is-only xs x e)) h

  pub two_asked : (as' : List Argument) (x y : Operand) (r : Result W Refusal) → Some (x, y) ≡ two xs → Follows whole (asked env at q t (argument_values env.scope as' (x ∷ y ∷ []))) r
      → Follows whole (asked env at q t (argument_values env.scope as' xs)) r
  two_asked as' x y r e h = subst (λ ys. Follows whole (asked env at q t (argument_values env.scope as' ys)) r) (sym (is-two xs x y e)) h

  both-none : (o : Option Value) → both_values o None ≡ None
  both-none None = refl
  both-none (Some v) = refl

  stopped : (o : Option (List Value)) → o ≡ None → asked env at q t o ≡ Err (bad_type at)
  stopped o e = rw e refl

  pub none_plain : None ≡ only xs → Follows whole (asked env at q t (argument_values env.scope (Plain ∷ []) xs)) (Err (refusal.Fault (bad_type at)))
  none_plain e = stopped (argument_values env.scope (Plain ∷ []) xs) (by xs e)
    where
      by : (xs : List Operand) → None ≡ only xs → argument_values env.scope (Plain ∷ []) xs ≡ None
      by [] e = refl
      by (x ∷ []) e = absurd cc
      by (x ∷ y ∷ xs) e = both-none _

  pub none_nullable : None ≡ only xs → Follows whole (asked env at q t (argument_values env.scope (Nullable ∷ []) xs)) (Err (refusal.Fault (bad_type at)))
  none_nullable e = stopped (argument_values env.scope (Nullable ∷ []) xs) (by xs e)
    where
      by : (xs : List Operand) → None ≡ only xs → argument_values env.scope (Nullable ∷ []) xs ≡ None
      by [] e = refl
      by (x ∷ []) e = absurd cc
      by (x ∷ y ∷ xs) e = both-none _

  pub none_two : None ≡ two xs → Follows whole (asked env at q t (argument_values env.scope (Plain ∷ NullItself ∷ []) xs)) (Err (refusal.Fault (bad_type at)))
  none_two e = stopped (argument_values env.scope (Plain ∷ NullItself ∷ []) xs) (by xs e)
    where
      by : (xs : List Operand) → None ≡ two xs → argument_values env.scope (Plain ∷ NullItself ∷ []) xs ≡ None
      by [] e = refl
      by (x ∷ []) e = both-none _
      by (x ∷ y ∷ []) e = absurd cc
      by (x ∷ y ∷ z ∷ xs) e = many _ _
        where
          many : (b : Bool) (o : Option Value) → both_values o (if b then None else None) ≡ None
          many true o = both-none o
          many false o = both-none o

module _ {V W : Type 0} (view : V → List Value) (whole : W → Operand) (env : Environment) (at : ℕ) where
  pub stops_written : (cs : List Conversion) (o : Option (List Value)) (e : Refusal) → Follows view (found at o) (Err e) → Follows whole (written env at cs o) (Err e)
  stops_written cs o refusal.NoMemory h = tt
  stops_written cs None (refusal.Fault f) h = let same : bad_type at ≡ f = cc in ap Err same
  stops_written cs (Some vs) (refusal.Fault f) h = absurd cc

  pub goes_written : (cs : List Conversion) (o : Option (List Value)) (vs : List Value) (r : Result W Refusal) → found at o ≡ Ok vs → Follows whole (written env at cs (Some vs)) r
      → Follows whole (written env at cs o) r
  goes_written cs None vs r e h = absurd cc
  goes_written cs (Some ws) vs r e h = let same : ws ≡ vs = cc in rw same h

  pub stops_called : (f : ℕ) (head : Head) (o : Option (List Value)) (e : Refusal) → Follows view (found at o) (Err e) → Follows whole (called_with at f head o) (Err e)
  stops_called f head o refusal.NoMemory h = tt
  stops_called f head None (refusal.Fault g) h = let same : bad_type at ≡ g = cc in ap Err same
  stops_called f head (Some vs) (refusal.Fault g) h = absurd cc

  pub goes_called : (f : ℕ) (head : Head) (o : Option (List Value)) (vs : List Value) (r : Result W Refusal) → found at o ≡ Ok vs → Follows whole (called_with at f head (Some vs)) r
      → Follows whole (called_with at f head o) r
  goes_called f head None vs r e h = absurd cc
  goes_called f head (Some ws) vs r e h = let same : ws ≡ vs = cc in rw same h

pub ruleset askings = (stops_asked, goes_asked, one_asked, two_asked, none_plain, none_nullable, none_two, stops_written, goes_written, stops_called, goes_called)
