-- What a rule says of a value that is there, or is not.
use Rattle.std.proofs.Common.{◌≡◌, ℕ, Bool, true, false, [], ◌∷◌, if◌then◌else◌, Option, Some, None, Result, Ok, Err, refl, ap}
use Rattle.kt_typing.specs.declared.fault.Fault.{Fault}
use Rattle.kt_typing.specs.Faults.{bad_type}
use Rattle.kt_typing.specs.Operands.{Operand, Value, of_type}
use Rattle.kt_types.specs.declared.kinds.Field.{Field}
use Rattle.kt_tree.specs.Kinds.{Scope, is_array_type, type_at}
use Rattle.kt_typing.specs.Environment.{Environment}
use Rattle.kt_typing.specs.Rules.{Combined, with_value, with_two, converted, place_at, field_standing, operated, combined_at, null_if, set_local, taken}
use Rattle.kt_operands.specs.declared.refusal.Refusal.{Refusal}
use Rattle.kt_operands.specs.declared.refusal.Refusal.TheVariants as refusal
use Rattle.kt_operands.specs.Judged.{Follows, found}

-- what isn't there gives nothing behind it

pub stops_value : {V W : Type 0} (view : V → Value) (whole : W → Operand) (at : ℕ) (rule : Value → Result Operand Fault) (o : Option Value) (e : Refusal)
    → Follows view (found at o) (Err e) → Follows whole (with_value at o rule) (Err e)
stops_value view whole at rule o refusal.NoMemory h = tt
stops_value view whole at rule None (refusal.Fault f) h = let same : bad_type at ≡ f = cc in ap Err same
stops_value view whole at rule (Some v) (refusal.Fault f) h = absurd cc

pub goes_value : {W : Type 0} (whole : W → Operand) (at : ℕ) (rule : Value → Result Operand Fault) (o : Option Value) (v : Value) (r : Result W Refusal) → found at o ≡ Ok v
    → Follows whole (rule v) r → Follows whole (with_value at o rule) r
goes_value whole at rule None v r e h = absurd cc
goes_value whole at rule (Some w) v r e h = let same : w ≡ v = cc in rw same h

-- two values

module _ {V W : Type 0} (view : V → Value) (whole : W → Operand) (at : ℕ) (rule : Value → Value → Result Operand Fault) (o p : Option Value) where
  pub stops_first : (e : Refusal) → Follows view (found at o) (Err e) → Follows whole (with_two at o p rule) (Err e)
  stops_first refusal.NoMemory h = tt
  stops_first (refusal.Fault f) h = by o h
    where
      by : (o : Option Value) → found at o ≡ Err f → with_two at o p rule ≡ Err f
      by None h = let same : bad_type at ≡ f = cc in ap Err same
      by (Some v) h = absurd cc

  pub stops_second : (e : Refusal) → Follows view (found at p) (Err e) → Follows whole (with_two at o p rule) (Err e)
  stops_second refusal.NoMemory h = tt
  stops_second (refusal.Fault f) h = by o p h
    where
      by : (o p : Option Value) → found at p ≡ Err f → with_two at o p rule ≡ Err f
      by None None h = let same : bad_type at ≡ f = cc in ap Err same
      by (Some v) None h = let same : bad_type at ≡ f = cc in ap Err same
      by o (Some w) h = absurd cc

  pub goes_two : (v w : Value) (r : Result W Refusal) → found at o ≡ Ok v → found at p ≡ Ok w → Follows whole (rule v w) r → Follows whole (with_two at o p rule) r
  goes_two v w r i j h = by o p i j
    where
      by : (o p : Option Value) → found at o ≡ Ok v → found at p ≡ Ok w → Follows whole (with_two at o p rule) r
      by None p i j = absurd cc
      by (Some a) None i j = absurd cc
      by (Some a) (Some b) i j = let first : a ≡ v = cc in let second : b ≡ w = cc in rw (first, second) h

-- what is no operation stops the place that it would give

pub stops_place : {W : Type 0} (view : W → Operand) (s : Scope) (r : Result Operand Fault) (e : Refusal) → Follows view r (Err e) → Follows view (place_at s r) (Err e)
stops_place view s r refusal.NoMemory h = tt
stops_place view s (Ok p) (refusal.Fault f) h = absurd cc
stops_place view s (Err g) (refusal.Fault f) h = h

field-stops : (view : Bool) (s : Scope) (r : Result Operand Fault) (f : Fault) → r ≡ Err f → (if view then r else place_at s r) ≡ Err f
field-stops true s r f h = h
field-stops false s (Ok p) f h = absurd cc
field-stops false s (Err g) f h = h

pub stops_field : {W : Type 0} (view : W → Operand) (s : Scope) (field : Field) (r : Result Operand Fault) (e : Refusal) → Follows view r (Err e)
    → Follows view (field_standing s field r) (Err e)
stops_field view s field r refusal.NoMemory h = tt
stops_field view s field r (refusal.Fault f) h = field-stops (is_array_type (type_at s field.ty)) s r f h

-- an operation that there is, or not

pub combined_next : {W : Type 0} (whole : W → Operand) (env : Environment) (at : ℕ) (o : Option Combined) (c : Combined) (a b : Value) (r : Result W Refusal) → Some c ≡ o
    → Follows whole (operated env at c.operation c.own (a ∷ b ∷ [])) r → Follows whole (combined_at env at o a b) r
combined_next whole env at None c a b r e h = absurd cc
combined_next whole env at (Some d) c a b r e h = let same : d ≡ c = cc in rw same h

pub combined_none : {W : Type 0} (whole : W → Operand) (env : Environment) (at : ℕ) (o : Option Combined) (a b : Value) → None ≡ o
    → Follows whole (combined_at env at o a b) (Err (refusal.Fault (bad_type at)))
combined_none whole env at None a b e = refl
combined_none whole env at (Some d) a b e = absurd cc

-- a choice that has a fault, and what an operation gives to a local

pub stops_null : {W : Type 0} (view : W → Operand) (b : Bool) (r : Result Operand Fault) (e : Refusal) → Follows view r (Err e) → Follows view (null_if b r) (Err e)
stops_null view b r refusal.NoMemory h = tt
stops_null view b (Ok x) (refusal.Fault f) h = absurd cc
stops_null view b (Err g) (refusal.Fault f) h = h

module _ {V W : Type 0} (view : V → Operand) (whole : W → Operand) (env : Environment) (at : ℕ) (old : Bool) (x t : ℕ) where
  pub stops_taken : (r : Result Operand Fault) (e : Refusal) → Follows view r (Err e) → Follows whole (taken env at old x t r) (Err e)
  stops_taken r refusal.NoMemory h = tt
  stops_taken (Ok y) (refusal.Fault f) h = absurd cc
  stops_taken (Err g) (refusal.Fault f) h = h

  pub goes_taken : (r : Result Operand Fault) (y : Operand) (q : Result W Refusal) → r ≡ Ok y
      → Follows whole (with_value at (converted env.scope t (of_type y.ty y.tree)) (set_local env at old x)) q → Follows whole (taken env at old x t r) q
  goes_taken (Ok z) y q e h = let same : z ≡ y = cc in rw same h
  goes_taken (Err g) y q e h = absurd cc

pub ruleset takings = (stops_taken, goes_taken)

pub ruleset steps = (stops_value, goes_value, stops_first, stops_second, goes_two, stops_place, stops_field)
