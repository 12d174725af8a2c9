-- Steps of the walks through pointers and arrays.
use Rattle.std.proofs.Common.{◌≡◌, ◌<◌, ◌≤◌, ◌+◌, ◌-◌, ◌∙◌, ℕ, suc, nat_le, Bool, true, false, cond, List, ◌∷◌, length, drop, slice_get, None, Some, refl, sym, ap, arith}
use Rattle.std.specs.List.{position, position_from}
use Rattle.std.proofs.lemmas.Iterator.Adapters.{position_from-zero}
use Rattle.std.proofs.lemmas.List.{drop_more, drop_all}
use Rattle.std.proofs.lemmas.Option.{slice_get_within, get_or_from_slice_get}
use Rattle.kt_types.specs.declared.kinds.Ty.{Ty}
use Rattle.kt_types.specs.declared.kinds.Ty.TheVariants.{Array, Ptr}
use Rattle.xf_plan.specs.Correspondence.{correspond_within, converts_within}
use Rattle.xf_plan.specs.Plan.{Plan}

pub one-more : (k n : ℕ) → k < n → n - k ≡ suc (n - (k + 1))
one-more k n within = omega arith

pub through-pointers : (p : Plan) (n m old new a b : ℕ) → n ≡ suc m → slice_get p.old.types old ≡ Some (Ptr a) → slice_get p.new.types new ≡ Some (Ptr b)
    → correspond_within p n old new ≡ correspond_within p m a b
through-pointers p n m old new a b more is is' = rw (more, is, is') refl

pub through-arrays : (p : Plan) (n m old new a b i j : ℕ) → n ≡ suc m → slice_get p.old.types old ≡ Some (Array a i) → slice_get p.new.types new ≡ Some (Array b j)
    → nat_le i j ≡ true → converts_within p n old new ≡ converts_within p m a b
through-arrays p n m old new a b i j more is is' fits = rw (more, is, is', fits) refl

-- the first type from a place on that passes a test is the one at the place, or the first one behind it
pub from-place : (f : Ty → Bool) (xs : List Ty) (i : ℕ) (u : Ty) → slice_get xs i ≡ Some u
    → position_from f i (drop i xs) ≡ cond (f u) (Some i) (position_from f (i + 1) (drop (i + 1) xs))
from-place f xs i u is =
    ap (position_from f i) (drop_more xs i u (slice_get_within xs i u is) ∙ ap (λ (x : Ty). x ∷ drop (i + 1) xs) (get_or_from_slice_get xs i u u is))

pub found-at : (f : Ty → Bool) (xs : List Ty) (i : ℕ) (u : Ty) → slice_get xs i ≡ Some u → f u ≡ true
    → position_from f i (drop i xs) ≡ position_from f 0 xs → Some i ≡ position f xs
found-at f xs i u is passes so_far =
    sym (from-place f xs i u is ∙ ap (λ b. cond b (Some i) (position_from f (i + 1) (drop (i + 1) xs))) passes) ∙ so_far ∙ sym (position_from-zero f xs)

pub passed-by : (f : Ty → Bool) (xs : List Ty) (i : ℕ) (u : Ty) → slice_get xs i ≡ Some u → f u ≡ false
    → position_from f i (drop i xs) ≡ position_from f 0 xs → position_from f (i + 1) (drop (i + 1) xs) ≡ position_from f 0 xs
passed-by f xs i u is fails so_far =
    sym (from-place f xs i u is ∙ ap (λ b. cond b (Some i) (position_from f (i + 1) (drop (i + 1) xs))) fails) ∙ so_far

pub found-nowhere : (f : Ty → Bool) (xs : List Ty) (i : ℕ) → length xs ≤ i → position_from f i (drop i xs) ≡ position_from f 0 xs → None ≡ position f xs
found-nowhere f xs i end so_far = sym (ap (position_from f i) (drop_all i xs end)) ∙ so_far ∙ sym (position_from-zero f xs)
