-- The numbers of the enabled threads.
use Rattle.std.proofs.Common.{◌≡◌, ℕ, zero, suc, ◌+◌, ◌<◌, ◌≤◌, ◌==◌, Bool, true, false, List, [], ◌∷◌, ◌++◌, length, drop, get_or, slice_get, ◌-◌, Option, None, Some, nat_le, nat_lt, refl, sym, ◌∙◌, arith, ap, subst, inl, inr, add-zero, add-one, zero-add, drop-cons}
use Rattle.std.specs.Prelude.{Contains, filter, find, slice_index, unwrap_or}
use Rattle.std.specs.Bool.{OnTrue}
use Rattle.std.specs.List.Sorted.{IsStrictlyIncreasing}
use Rattle.std.proofs.Math.ListN.{drop_of_length-le}
use Rattle.std.proofs.lemmas.List.{get_or_past}
use Rattle.std.proofs.lemmas.Option.{slice_get-get_or, unwrap_or-slice_get}
use Rattle.std.proofs.lemmas.Bool.{cases_Bool, le-leb, leb-false, lt-leb}
use Rattle.std.proofs.lemmas.Bool.Decides.{eqb_tells}
use Rattle.kt_sched.specs.Choice.{first_of, is_among, search_order, wanted_or_first}
use Rattle.kt_sched.specs.Enabled.{enabled_from, enabled_threads}

-- the enabled threads from thread i on
abbrev pub rest_from : List Bool → ℕ → List ℕ
rest_from flags i = enabled_from i (drop i flags)

pub rest-set : (flags : List Bool) (i : ℕ) → i < length flags → get_or flags i false ≡ true → rest_from flags i ≡ i ∷ rest_from flags (i + 1)
rest-set flags i within is = rw (add-one i, drop-cons flags i false, is) refl

pub rest-clear : (flags : List Bool) (i : ℕ) → i < length flags → get_or flags i false ≡ false → rest_from flags i ≡ rest_from flags (i + 1)
rest-clear flags i within is = rw (add-one i, drop-cons flags i false, is) refl

pub rest-end : (flags : List Bool) (i : ℕ) → length flags ≤ i → rest_from flags i ≡ []
rest-end flags i past = rw (drop_of_length-le flags past) refl

pub rest-all : (flags : List Bool) → rest_from flags 0 ≡ enabled_threads flags
unfolding enabled_threads
rest-all flags = refl

-- ---- a step over one flag, of loops that go over the rest

pub count-set : (flags : List Bool) (i n : ℕ) (all : List ℕ) → i < length flags → get_or flags i false ≡ true → n + length (rest_from flags i) ≡ length all → (n + 1) + length (rest_from flags (i + 1)) ≡ length all
count-set flags i n all within is counted =
    let longer : length (rest_from flags i) ≡ suc (length (rest_from flags (i + 1))) = ap length (rest-set flags i within is) in
    omega (arith, longer, counted)

pub count-clear : (flags : List Bool) (i n : ℕ) (all : List ℕ) → i < length flags → get_or flags i false ≡ false → n + length (rest_from flags i) ≡ length all → n + length (rest_from flags (i + 1)) ≡ length all
count-clear flags i n all within is counted =
    let same : length (rest_from flags i) ≡ length (rest_from flags (i + 1)) = ap length (rest-clear flags i within is) in
    omega (arith, same, counted)

-- the thread of number `left` among the rest is the one that is looked for
pub record IsLeft (rest : List ℕ) (left : ℕ) (all : List ℕ) (before : ℕ) : Type 0 where
  pub within : left < length rest
  pub same : slice_index rest left ≡ slice_index all before

pub left-set : (flags : List Bool) (i left : ℕ) (all : List ℕ) (before : ℕ) → i < length flags → get_or flags i false ≡ true → ¬ (left ≡ 0)
    → IsLeft (rest_from flags i) left all before → IsLeft (rest_from flags (i + 1)) (left - 1) all before
left-set flags i zero all before within is more at = absurd (more refl)
left-set flags i (suc left) all before within is more at =
    let here : IsLeft (i ∷ rest_from flags (i + 1)) (suc left) all before = subst (λ (rest : List ℕ). IsLeft rest (suc left) all before) (rest-set flags i within is) at in
    let less : suc left - 1 ≡ left = omega arith in
    subst (λ (k : ℕ). IsLeft (rest_from flags (i + 1)) k all before) (sym less) (record { within = omega (arith, here.within); same = here.same })

pub left-clear : (flags : List Bool) (i left : ℕ) (all : List ℕ) (before : ℕ) → i < length flags → get_or flags i false ≡ false
    → IsLeft (rest_from flags i) left all before → IsLeft (rest_from flags (i + 1)) left all before
left-clear flags i left all before within is at = subst (λ (rest : List ℕ). IsLeft rest left all before) (rest-clear flags i within is) at

-- it is the first one of the rest
pub left-none : (flags : List Bool) (i left : ℕ) (all : List ℕ) (before : ℕ) → i < length flags → get_or flags i false ≡ true → left ≡ 0
    → IsLeft (rest_from flags i) left all before → i ≡ slice_index all before
left-none flags i left all before within is none at =
    let here : IsLeft (i ∷ rest_from flags (i + 1)) 0 all before = subst (λ (k : ℕ). IsLeft (i ∷ rest_from flags (i + 1)) k all before) none (subst (λ (rest : List ℕ). IsLeft rest left all before) (rest-set flags i within is) at) in
    here.same

pub left-first : (flags : List Bool) (before : ℕ) → before < length (enabled_threads flags) → IsLeft (rest_from flags 0) before (enabled_threads flags) before
unfolding enabled_threads
left-first flags before within = record { within = within; same = refl }

pub left-over : (flags : List Bool) (i left : ℕ) (all : List ℕ) (before : ℕ) → length flags ≤ i → IsLeft (rest_from flags i) left all before → ⊥
left-over flags i left all before past at =
    let here : IsLeft [] left all before = subst (λ (rest : List ℕ). IsLeft rest left all before) (rest-end flags i past) at in
    absurd (omega (arith, here.within))

-- a flag that is set, as a look-up
pub flag-set : (flags : List Bool) (i : ℕ) → i < length flags → get_or flags i false ≡ true → slice_get flags i ≡ Some true
flag-set flags i within is = rw (slice_get-get_or flags i false within, is) refl

eqb-off : (a b : ℕ) → b < a → (a == b) ≡ false
eqb-off a b less = elim (eqb_tells a b) [ inl same ↦ absurd (omega (arith, same.1)) | inr other ↦ other.0 ]

eqb-less : (a b : ℕ) → a < b → (a == b) ≡ false
eqb-less a b less = elim (eqb_tells a b) [ inl same ↦ absurd (omega (arith, same.1)) | inr other ↦ other.0 ]

eqb-on : (a : ℕ) → (a == a) ≡ true
eqb-on a = elim (eqb_tells a a) [ inl same ↦ same.0 | inr other ↦ absurd (other.1 refl) ]

-- no thread below n is among those from n on
among-below : (n k : ℕ) (flags : List Bool) → k < n → is_among k (enabled_from n flags) ≡ false
among-below n k [] less = refl
among-below n k (true ∷ flags) less = rw (eqb-off n k less, among-below (suc n) k flags (omega arith)) refl
among-below n k (false ∷ flags) less = among-below (suc n) k flags (omega arith)

among-from : (n t : ℕ) (flags : List Bool) → is_among (n + t) (enabled_from n flags) ≡ get_or flags t false
among-from n t [] = refl
among-from n zero (true ∷ flags) = rw (add-zero n, eqb-on n) refl
among-from n zero (false ∷ flags) = rw (add-zero n) (among-below (suc n) n flags (omega arith))
among-from n (suc t) (true ∷ flags) =
    let e : suc n + t ≡ n + suc t = omega arith in
    subst (λ (k : ℕ). is_among k (n ∷ enabled_from (suc n) flags) ≡ get_or flags t false) e (rw (eqb-less n (suc n + t) (omega arith)) (among-from (suc n) t flags))
among-from n (suc t) (false ∷ flags) =
    let e : suc n + t ≡ n + suc t = omega arith in
    subst (λ (k : ℕ). is_among k (enabled_from (suc n) flags) ≡ get_or flags t false) e (among-from (suc n) t flags)

-- a thread is among the enabled ones exactly where its flag is set
pub among-enabled : (flags : List Bool) (t : ℕ) → is_among t (enabled_threads flags) ≡ get_or flags t false
unfolding enabled_threads
among-enabled flags t = subst (λ (k : ℕ). is_among k (enabled_from 0 flags) ≡ get_or flags t false) (zero-add t) (among-from 0 t flags)

-- where a flag is set a thread is enabled
some-from : (n k : ℕ) (flags : List Bool) → get_or flags k true ≡ true → k < length flags → 0 < length (enabled_from n flags)
some-from n k [] is within = absurd (omega arith)
some-from n k (true ∷ flags) is within = omega arith
some-from n zero (false ∷ flags) is within = cc
some-from n (suc k) (false ∷ flags) is within = some-from (suc n) k flags is (omega arith)

pub some-enabled : (flags : List Bool) → Contains flags true → 0 < length (enabled_threads flags)
unfolding enabled_threads
some-enabled flags has = some-from 0 has.0 flags has.2 has.1

-- the threads before `start` don't matter to a search that begins there
find-from : (n k : ℕ) (flags : List Bool) → find (λ t. nat_le (n + k) t) (enabled_from n flags) ≡ find (λ t. nat_le (n + k) t) (enabled_from (n + k) (drop k flags))
find-from n zero flags = rw (add-zero n) refl
find-from n (suc k) [] = refl
find-from n (suc k) (true ∷ flags) =
    let e : suc n + k ≡ n + suc k = omega arith in
    subst (λ (j : ℕ). find (λ t. nat_le j t) (n ∷ enabled_from (suc n) flags) ≡ find (λ t. nat_le j t) (enabled_from j (drop k flags))) e (rw (lt-leb (suc n + k) n (omega arith)) (find-from (suc n) k flags))
find-from n (suc k) (false ∷ flags) =
    let e : suc n + k ≡ n + suc k = omega arith in
    subst (λ (j : ℕ). find (λ t. nat_le j t) (enabled_from (suc n) flags) ≡ find (λ t. nat_le j t) (enabled_from j (drop k flags))) e (find-from (suc n) k flags)

pub find-start : (flags : List Bool) (start : ℕ) → find (λ t. nat_le start t) (rest_from flags start) ≡ find (λ t. nat_le start t) (enabled_threads flags)
unfolding enabled_threads
find-start flags start = subst (λ (k : ℕ). find (λ t. nat_le k t) (enabled_from k (drop start flags)) ≡ find (λ t. nat_le k t) (enabled_from 0 flags)) (zero-add start) (sym (find-from 0 start flags))

-- the search's first thread, where one stands above c
first-above : (c : ℕ) (xs ys : List ℕ) (t : ℕ) → find (λ u. nat_le (suc c) u) xs ≡ Some t → first_of (filter (λ u. nat_lt c u) xs ++ ys) ≡ t
first-above c [] ys t found = cc
first-above c (x ∷ xs) ys t found =
    elim (cases_Bool (nat_le (suc c) x)) [
      | inl above ↦ let is : Some x ≡ Some t = rw above at found in rw above (cc)
      | inr below ↦ rw below (first-above c xs ys t (rw below at found))
    ]

none-above : (c : ℕ) (xs : List ℕ) → find (λ u. nat_le (suc c) u) xs ≡ None → filter (λ u. nat_lt c u) xs ≡ []
none-above c [] none = refl
none-above c (x ∷ xs) none =
    elim (cases_Bool (nat_le (suc c) x)) [
      | inl above ↦ let is : Some x ≡ None = rw above at none in cc
      | inr below ↦ rw below (none-above c xs (rw below at none))
    ]

all-below : (c : ℕ) (xs : List ℕ) → find (λ u. nat_le (suc c) u) xs ≡ None → filter (λ u. nat_le u c) xs ≡ xs
all-below c [] none = refl
all-below c (x ∷ xs) none =
    elim (cases_Bool (nat_le (suc c) x)) [
      | inl above ↦ let is : Some x ≡ None = rw above at none in cc
      | inr below ↦
          let less = leb-false (suc c) x below in
          rw (le-leb x c (omega arith), all-below c xs (rw below at none)) refl
    ]

pub search-above : (c n : ℕ) (xs : List ℕ) (t : ℕ) → n ≡ c + 1 → find (λ u. nat_le n u) xs ≡ Some t → first_of (search_order c xs) ≡ t
search-above c n xs t is found = first-above c xs (filter (λ u. nat_le u c) xs) t (rw (is, add-one) at found)

pub search-round : (c n : ℕ) (xs : List ℕ) → n ≡ c + 1 → find (λ u. nat_le n u) xs ≡ None → first_of (search_order c xs) ≡ first_of xs
search-round c n xs is none =
    let from : find (λ u. nat_le (suc c) u) xs ≡ None = rw (is, add-one) at none in
    rw (none-above c xs from, all-below c xs from) refl

-- what a test of the flag below the end tells, and one past the end
pub record IsTested (flags : List Bool) (t : ℕ) (answer : Bool) : Type 0 where
  pub among : answer ≡ is_among t (enabled_threads flags)
  pub flag : OnTrue answer (slice_get flags t ≡ Some true)

pub tested-within : (flags : List Bool) (t : ℕ) → t < length flags → IsTested flags t (get_or flags t false)
tested-within flags t within = record {
  among = sym (among-enabled flags t);
  flag = rw (slice_get-get_or flags t false within) (by_flag (get_or flags t false));
} where
  by_flag : (b : Bool) → OnTrue b (Some b ≡ Some true)
  by_flag true = refl
  by_flag false = tt

pub tested-past : (flags : List Bool) (t : ℕ) → length flags ≤ t → IsTested flags t false
tested-past flags t past = record { among = sym (among-enabled flags t ∙ get_or_past flags t false past); flag = tt }

-- the wanted thread, by whether it is enabled
pub wanted-on : (wanted : Option ℕ) (t : ℕ) (threads : List ℕ) → wanted ≡ Some t → is_among t threads ≡ true → wanted_or_first wanted threads ≡ t
wanted-on wanted t threads is on = rw (is, on) refl

pub wanted-off : (wanted : Option ℕ) (t : ℕ) (threads : List ℕ) → wanted ≡ Some t → is_among t threads ≡ false → wanted_or_first wanted threads ≡ first_of threads
wanted-off wanted t threads is off = rw (is, off) refl

pub wanted-none : (wanted : Option ℕ) (threads : List ℕ) → wanted ≡ None → wanted_or_first wanted threads ≡ first_of threads
wanted-none wanted threads is = rw is refl

pub among-flag : (flags : List Bool) (t : ℕ) → is_among t (enabled_threads flags) ≡ unwrap_or (slice_get flags t) false
among-flag flags t = among-enabled flags t ∙ sym (unwrap_or-slice_get flags t false)

least-from : (n : ℕ) (flags : List Bool) → 0 < length (enabled_from n flags) → n ≤ slice_index (enabled_from n flags) 0
least-from n [] some = absurd (omega arith)
least-from n (true ∷ flags) some = omega arith
least-from n (false ∷ flags) some =
    let rest = least-from (suc n) flags some in
    omega (arith, rest)

rising-from : (n : ℕ) (flags : List Bool) (k : ℕ) → suc k < length (enabled_from n flags) → slice_index (enabled_from n flags) k < slice_index (enabled_from n flags) (suc k)
rising-from n [] k within = absurd (omega arith)
rising-from n (true ∷ flags) zero within =
    let rest = least-from (suc n) flags (omega arith) in
    omega (arith, rest)
rising-from n (true ∷ flags) (suc k) within = rising-from (suc n) flags k (omega arith)
rising-from n (false ∷ flags) k within = rising-from (suc n) flags k within

pub enabled-rising : (flags : List Bool) → IsStrictlyIncreasing (enabled_threads flags)
unfolding enabled_threads
enabled-rising flags = λ k within. rw (add-one k) (rising-from 0 flags k (omega arith))
