-- How many threads are such, before and after a change, and what the numbers tell.
use Rattle.std.proofs.Common.{◌≡◌, ℕ, zero, suc, ◌+◌, ◌<◌, ◌≤◌, ◌==◌, ◌&&◌, not, Bool, true, false, cond, if◌then◌else◌, List, [], ◌∷◌, ◌++◌, length, map, Some, slice_get, slice_set, refl, inl, inr, arith, one-add, zero-add}
use Rattle.std.specs.List.{filter}
use Rattle.std.proofs.Math.Dec.{eqb-suc-suc, eqb-suc-zero}
use Rattle.std.proofs.lemmas.Bool.Decides.{eqb_tells}
use Rattle.kt_phase.specs.Barrier.{Standing, Running, Parked, Ended, Thread, count_of, lives, waits, is_live, is_parked, is_updating, are_parked, are_back}

-- 1 where it is so
abbrev pub one_if : Bool → ℕ
one_if b = cond b 1 0

pub count-cons : (p : Thread → Bool) (t : Thread) (ts : List Thread) → count_of p (t ∷ ts) ≡ one_if (p t) + count_of p ts
count-cons p t ts = elim (p t) as (λ b. length (cond b (t ∷ filter p ts) (filter p ts)) ≡ one_if b + length (filter p ts)) [ true ↦ omega arith | false ↦ omega arith ]

-- a thread that changes changes the count by itself alone
pub count-set : (p : Thread → Bool) (ts : List Thread) (t : ℕ) (old new : Thread) → slice_get ts t ≡ Some old
    → count_of p (slice_set ts t new) + one_if (p old) ≡ count_of p ts + one_if (p new)
count-set p [] t old new is = cc
count-set p (x ∷ xs) zero old new is =
    let same : x ≡ old = cc in
    rw (count-cons p new xs, count-cons p x xs, same) (omega arith)
count-set p (x ∷ xs) (suc t) old new is =
    let rest = count-set p xs t old new is in
    rw (count-cons p x (slice_set xs t new), count-cons p x xs) (omega (arith, rest))

-- the same, where it is known whether the thread is such before and after
pub count-changed : (p : Thread → Bool) (ts : List Thread) (t : ℕ) (old new : Thread) (a b : Bool) → slice_get ts t ≡ Some old → p old ≡ a → p new ≡ b
    → count_of p (slice_set ts t new) + one_if a ≡ count_of p ts + one_if b
count-changed p ts t old new a b is was now = rw (← was, ← now) (count-set p ts t old new is)

-- one more thread
pub count-made : (p : Thread → Bool) (ts : List Thread) (t : Thread) → count_of p (ts ++ t ∷ []) ≡ count_of p ts + one_if (p t)
count-made p [] t = rw (count-cons p t []) (omega arith)
count-made p (x ∷ xs) t = rw (count-cons p x (xs ++ t ∷ []), count-cons p x xs, count-made p xs t) (omega arith)

-- a thread that is such counts
pub count-some : (p : Thread → Bool) (ts : List Thread) (t : ℕ) (x : Thread) → slice_get ts t ≡ Some x → p x ≡ true → 0 < count_of p ts
count-some p [] t x is such = cc
count-some p (y ∷ ys) zero x is such =
    let same : y ≡ x = cc in
    rw (count-cons p y ys, same, such) (omega arith)
count-some p (y ∷ ys) (suc t) x is such =
    let rest = count-some p ys t x is such in
    rw (count-cons p y ys) (omega (arith, rest))

-- one count is at most another one, and below it where a thread is of the second alone
pub count-le : (p q : Thread → Bool) → ((t : Thread) → one_if (p t) ≤ one_if (q t)) → (ts : List Thread) → count_of p ts ≤ count_of q ts
count-le p q each [] = omega arith
count-le p q each (t ∷ ts) =
    let here = each t in
    let rest = count-le p q each ts in
    rw (count-cons p t ts, count-cons q t ts) (omega (arith, here, rest))

pub count-below : (p q : Thread → Bool) → ((t : Thread) → one_if (p t) ≤ one_if (q t)) → (ts : List Thread) (t : ℕ) (x : Thread) → slice_get ts t ≡ Some x
    → p x ≡ false → q x ≡ true → count_of p ts < count_of q ts
count-below p q each [] t x is never surely = cc
count-below p q each (y ∷ ys) zero x is never surely =
    let same : y ≡ x = cc in
    let rest = count-le p q each ys in
    rw (count-cons p y ys, count-cons q y ys, same, never, surely) (omega (arith, rest))
count-below p q each (y ∷ ys) (suc t) x is never surely =
    let here = each y in
    let rest = count-below p q each ys t x is never surely in
    rw (count-cons p y ys, count-cons q y ys) (omega (arith, here, rest))

-- a parked thread is live
pub parked-live : (t : Thread) → one_if (is_parked t) ≤ one_if (is_live t)
parked-live t = by_standing t.standing where
  by_standing : (s : Standing) → one_if (waits s) ≤ one_if (lives s)
  by_standing Running = omega arith
  by_standing Parked = omega arith
  by_standing Ended = omega arith

-- an updating thread is live
pub updating-live : (t : Thread) → one_if (is_updating t) ≤ one_if (is_live t)
updating-live t = by_parts t.standing t.updating where
  by_parts : (s : Standing) (u : Bool) → one_if (lives s && u) ≤ one_if (lives s)
  by_parts Running true = omega arith
  by_parts Running false = omega arith
  by_parts Parked true = omega arith
  by_parts Parked false = omega arith
  by_parts Ended u = omega arith

-- a count after all threads changed
pub count-map : (p q : Thread → Bool) (f : Thread → Thread) → ((t : Thread) → p (f t) ≡ q t) → (ts : List Thread) → count_of p (map f ts) ≡ count_of q ts
count-map p q f each [] = refl
count-map p q f each (t ∷ ts) = rw (count-cons p (f t) (map f ts), count-cons q t ts, each t, count-map p q f each ts) refl

pub count-no : (p : Thread → Bool) (f : Thread → Thread) → ((t : Thread) → p (f t) ≡ false) → (ts : List Thread) → count_of p (map f ts) ≡ 0
count-no p f each [] = refl
count-no p f each (t ∷ ts) = rw (count-cons p (f t) (map f ts), each t, count-no p f each ts) refl

eqb-below : (a b : ℕ) → a < b → (a == b) ≡ false
eqb-below a b less = elim (eqb_tells a b) [ inl same ↦ absurd (omega (arith, same.1)) | inr other ↦ other.0 ]

-- as many are parked as live exactly where all live ones are parked
pub all-parked : (ts : List Thread) → (count_of is_parked ts == count_of is_live ts) ≡ are_parked ts
all-parked [] = refl
all-parked (t ∷ ts) = rw (count-cons is_parked t ts, count-cons is_live t ts) (by_standing t.standing (count_of is_parked ts) (count_of is_live ts) (count-le is_parked is_live parked-live ts) (are_parked ts) (all-parked ts)) where
  by_standing : (s : Standing) (m n : ℕ) → m ≤ n → (rest : Bool) → (m == n) ≡ rest → ((one_if (waits s) + m) == (one_if (lives s) + n)) ≡ ((if lives s then waits s else true) && rest)
  by_standing Running m n le rest e = eqb-below _ _ (omega arith)
  by_standing Parked m n le rest e = rw (one-add m, one-add n, eqb-suc-suc m n) e
  by_standing Ended m n le rest e = rw (zero-add m, zero-add n) e

-- none is updating exactly where all are back
pub all-back : (ts : List Thread) → (count_of is_updating ts == 0) ≡ are_back ts
all-back [] = refl
all-back (t ∷ ts) = rw (count-cons is_updating t ts) (by_test (is_updating t) (count_of is_updating ts) (are_back ts) (all-back ts)) where
  by_test : (u : Bool) (n : ℕ) (rest : Bool) → (n == 0) ≡ rest → ((one_if u + n) == 0) ≡ (not u && rest)
  by_test true n rest e = rw (one-add n, eqb-suc-zero n) refl
  by_test false n rest e = rw (zero-add n) e
