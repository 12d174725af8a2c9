-- What is converted only where it is there.
use Rattle.std.proofs.Common.{◌≡◌, ℕ, Option, Some, None, Result, Ok, Err, option_and_then, ap}
use Rattle.kt_typing.specs.Faults.{bad_type}
use Rattle.kt_operands.specs.declared.refusal.Refusal.{Refusal}
use Rattle.kt_operands.specs.declared.refusal.Refusal.TheVariants as refusal
use Rattle.kt_operands.specs.Judged.{Follows, found}

pub stops_then : {V W A : Type 0} (view : V → A) (whole : W → A) (at : ℕ) (k : A → Option A) (o : Option A) (e : Refusal) → Follows view (found at o) (Err e)
    → Follows whole (found at (option_and_then k o)) (Err e)
stops_then view whole at k o refusal.NoMemory h = tt
stops_then view whole at k None (refusal.Fault f) h = let same : bad_type at ≡ f = cc in ap Err same
stops_then view whole at k (Some v) (refusal.Fault f) h = absurd cc

pub goes_then : {W A : Type 0} (whole : W → A) (at : ℕ) (k : A → Option A) (o : Option A) (v : A) (r : Result W Refusal) → found at o ≡ Ok v
    → Follows whole (found at (k v)) r → Follows whole (found at (option_and_then k o)) r
goes_then whole at k None v r e h = absurd cc
goes_then whole at k (Some w) v r e h = let same : w ≡ v = cc in rw same h

pub ruleset steps = (stops_then, goes_then)
