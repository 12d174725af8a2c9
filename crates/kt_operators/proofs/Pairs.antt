-- Two values that are there, or not.
use Rattle.std.proofs.Common.{◌≡◌, ℕ, true, false, Option, Some, None, Result, Ok, Err, refl, sym, ap, subst}
use Rattle.kt_tree.specs.Kinds.{Scope, is_pointer}
use Rattle.kt_typing.specs.declared.fault.Fault.{Fault}
use Rattle.kt_typing.specs.Faults.{bad_type}
use Rattle.kt_typing.specs.Operands.{Operand, Value}
use Rattle.kt_typing.specs.Rules.{with_two, null_value, null_beside}
use Rattle.kt_operands.specs.declared.refusal.Refusal.{Refusal}
use Rattle.kt_operands.specs.declared.refusal.Refusal.TheVariants as refusal
use Rattle.kt_operands.specs.Judged.{Follows, found, found_two}

module _ (at : ℕ) (o p : Option Value) where
  first-missing : (f : Fault) → found at o ≡ Err f → found_two at o p ≡ Err f
  first-missing f = by o
    where
      by : (o : Option Value) → found at o ≡ Err f → found_two at o p ≡ Err f
      by None h = let same : bad_type at ≡ f = cc in ap Err same
      by (Some v) h = absurd cc

  second-missing : (f : Fault) → found at p ≡ Err f → found_two at o p ≡ Err f
  second-missing f = by o p
    where
      by : (o p : Option Value) → found at p ≡ Err f → found_two at o p ≡ Err f
      by None None h = let same : bad_type at ≡ f = cc in ap Err same
      by (Some v) None h = let same : bad_type at ≡ f = cc in ap Err same
      by o (Some w) h = absurd cc

  pub both_found : (v w : Value) → found at o ≡ Ok v → found at p ≡ Ok w → found_two at o p ≡ Ok (v, w)
  both_found v w = by o p
    where
      by : (o p : Option Value) → found at o ≡ Ok v → found at p ≡ Ok w → found_two at o p ≡ Ok (v, w)
      by None p i j = absurd cc
      by (Some a) None i j = absurd cc
      by (Some a) (Some b) i j = let first : a ≡ v = cc in let second : b ≡ w = cc in rw (first, second) refl

  pub turned_found : (v w : Value) → found_two at o p ≡ Ok (v, w) → found_two at p o ≡ Ok (w, v)
  turned_found v w = by o p
    where
      by : (o p : Option Value) → found_two at o p ≡ Ok (v, w) → found_two at p o ≡ Ok (w, v)
      by None p i = absurd cc
      by (Some a) None i = absurd cc
      by (Some a) (Some b) i = let same : (a, b) ≡ (v, w) = cc in ap (λ (p : Value × Value). Ok (p.1, p.0)) same

  turned-missing : (f : Fault) → found_two at o p ≡ Err f → found_two at p o ≡ Err f
  turned-missing f = by o p
    where
      by : (o p : Option Value) → found_two at o p ≡ Err f → found_two at p o ≡ Err f
      by None None h = h
      by None (Some b) h = h
      by (Some a) None h = h
      by (Some a) (Some b) h = absurd cc

  module _ {V W : Type 0} (view : V → Value) (whole : W → Value × Value) where
    pub pair_stops_first : (e : Refusal) → Follows view (found at o) (Err e) → Follows whole (found_two at o p) (Err e)
    pair_stops_first refusal.NoMemory h = tt
    pair_stops_first (refusal.Fault f) h = first-missing f h

    pub pair_stops_second : (e : Refusal) → Follows view (found at p) (Err e) → Follows whole (found_two at o p) (Err e)
    pair_stops_second refusal.NoMemory h = tt
    pair_stops_second (refusal.Fault f) h = second-missing f h

  pub turned_stops : {W : Type 0} (whole : W → Value × Value) (e : Refusal) → Follows whole (found_two at o p) (Err e) → Follows whole (found_two at p o) (Err e)
  turned_stops whole refusal.NoMemory h = tt
  turned_stops whole (refusal.Fault f) h = turned-missing f h

-- null beside a value

beside-missing : (at : ℕ) (s : Scope) (x : Operand) (p : Option Value) (f : Fault) → found at p ≡ Err f → found_two at (null_beside s x p) p ≡ Err f
beside-missing at s x p f h = second-missing at (null_beside s x p) p f h

pub beside_pointer : (at : ℕ) (s : Scope) (x : Operand) (p : Option Value) (n v : Value) → found at p ≡ Ok v → is_pointer s v.ty ≡ true → n ≡ null_value v.ty x
    → found_two at (null_beside s x p) p ≡ Ok (n, v)
beside_pointer at s x None n v i j k = absurd cc
beside_pointer at s x (Some w) n v i j k = let same : w ≡ v = cc in rw same (rw j (rw k refl))

pub beside_other : (at : ℕ) (s : Scope) (x : Operand) (p : Option Value) (v : Value) → found at p ≡ Ok v → is_pointer s v.ty ≡ false
    → found_two at (null_beside s x p) p ≡ Err (bad_type at)
beside_other at s x None v i j = absurd cc
beside_other at s x (Some w) v i j = let same : w ≡ v = cc in rw same (rw j refl)

pub ruleset pairs = (both_found, turned_found, pair_stops_first, pair_stops_second, turned_stops, beside_pointer, beside_other)

-- a rule of two values

module _ {V W : Type 0} (view : V → Value × Value) (whole : W → Operand) (at : ℕ) (rule : Value → Value → Result Operand Fault) where
  pub stops_pair : (o p : Option Value) (e : Refusal) → Follows view (found_two at o p) (Err e) → Follows whole (with_two at o p rule) (Err e)
  stops_pair o p refusal.NoMemory h = tt
  stops_pair None p (refusal.Fault f) h = let same : bad_type at ≡ f = cc in ap Err same
  stops_pair (Some v) None (refusal.Fault f) h = let same : bad_type at ≡ f = cc in ap Err same
  stops_pair (Some v) (Some w) (refusal.Fault f) h = absurd cc

  pub goes_pair : (o p : Option Value) (v w : Value) (r : Result W Refusal) → found_two at o p ≡ Ok (v, w) → Follows whole (rule v w) r → Follows whole (with_two at o p rule) r
  goes_pair None p v w r i h = absurd cc
  goes_pair (Some a) None v w r i h = absurd cc
  goes_pair (Some a) (Some b) v w r i h = let same : (a, b) ≡ (v, w) = cc in subst (λ (p : Value × Value). Follows whole (rule p.0 p.1) r) (sym same) h

pub ruleset two_values = (stops_pair, goes_pair)
