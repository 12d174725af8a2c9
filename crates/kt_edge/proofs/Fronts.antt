-- Lemmas on the front of some bytes that was written or read, and on what is left of them.
use Rattle.std.proofs.Common.{◌≡◌, ℕ, ◌-◌, ◌<◌, List, [], ◌++◌, length, take, drop, Option, Result, Ok, Err, sym, ap, ◌∙◌, subst, refl, arith, length-append, length-drop, append_assoc}
use Rattle.std.proofs.lemmas.List.{take_all, take_at, take-append-drop}
use Rattle.std.proofs.KnownBytes.{Consumes-kept, Consumes-nil}
use Rattle.std.specs.Io.KnownBytes.{Appends, Consumes, ReadConsumes}
use Rattle.kt_edge.specs.Writes.{AppendsPart}

-- the next bytes of the rest join the front
pub front_more : (front rest bytes : List ℕ) (n : ℕ) → front ++ rest ≡ bytes → (front ++ take n rest) ++ take (length rest - n) (drop n rest) ≡ bytes
front_more front rest bytes n whole =
    rw (take_all (length rest - n) (drop n rest) (omega (arith, length-drop n rest)), append_assoc, take-append-drop) whole

-- a front with something left is a proper front
pub AppendsPart-from_front : (old new : Option (List ℕ)) (front rest bytes : List ℕ) → front ++ rest ≡ bytes → 0 < length rest → Appends old new front → AppendsPart old new bytes
AppendsPart-from_front old new front rest bytes whole more taken =
    (length front, omega (arith, ap length whole, length-append front rest), subst (Appends old new) (sym (ap (take (length front)) (sym whole) ∙ take_at front rest (length front) refl)) taken)

-- what a read took, also where it failed
pub front_of_read : {E : Type 0} (old new : Option (List ℕ)) (result : Result ℕ E) (buf : List ℕ) → ReadConsumes old new result buf → (front : List ℕ) × Consumes old new front
front_of_read old new (Ok n) buf read = (take n buf, read.0)
front_of_read old new (Err e) buf kept = ([], Consumes-kept old old new [] (Consumes-nil old) kept)
