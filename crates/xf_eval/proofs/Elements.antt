-- Sources of elements, one after another.
use Rattle.std.specs.Prelude.{IsSome, option_and_then}
use Rattle.std.specs.Option.{option_map}
use Rattle.std.proofs.Common.{◌≡◌, ℕ, zero, suc, ◌+◌, ◌-◌, ◌*◌, ◌/◌, ◌%◌, ◌<◌, ◌≤◌, nat_le, Bool, true, false, cond, List, ◌++◌, length, length-append, map, replicate, slice_get, Option, None, Some, refl, sym, ap, subst, ◌∙◌, arith}
use Rattle.std.proofs.Math.Nat.{suc-mul, mod-lt, mul-le-mul_right, add-mul}
use Rattle.std.proofs.lemmas.Nat.{div-add-mod'}
use Rattle.std.proofs.lemmas.List.{length-map, length-replicate}
use Rattle.std.proofs.lemmas.Option.{slice_get-map, none-some, slice_get_within}
use Rattle.kt_types.proofs.Complete.{value-of}
use Rattle.std.proofs.lemmas.Bool.{false≢true, leb-true}
use Rattle.kt_types.proofs.Cells.{slice_get-append_left, slice_get-append_right}
use Rattle.xf_plan.specs.Sources.{Source, FromCell, Zero, FromBody, moved_by, of_elements, of_longer}
use Rattle.xf_eval.specs.Asked.{at_place}

-- ---- sources that are moved

none-moved : (o : Option ℕ) → option_map (λ i. 0 + i) o ≡ o
none-moved None = refl
none-moved (Some i) = let e : 0 + i ≡ i = omega arith in ap Some e

pub moved-none : (s : Source) → moved_by 0 s ≡ s
moved-none (FromCell i) = let e : 0 + i ≡ i = omega arith in ap FromCell e
moved-none Zero = refl
moved-none (FromBody s b body) = rw (none-moved s, none-moved b) refl

both-moved : (k j : ℕ) (o : Option ℕ) → option_map (λ i. k + i) (option_map (λ i. j + i) o) ≡ option_map (λ i. k + j + i) o
both-moved k j None = refl
both-moved k j (Some i) = let e : k + (j + i) ≡ k + j + i = omega arith in ap Some e

pub moved-twice : (k j : ℕ) (s : Source) → moved_by k (moved_by j s) ≡ moved_by (k + j) s
moved-twice k j (FromCell i) = let e : k + (j + i) ≡ k + j + i = omega arith in ap FromCell e
moved-twice k j Zero = refl
moved-twice k j (FromBody s b body) = rw (both-moved k j s, both-moved k j b) refl

pub map-none : (o : Option Source) → option_map (moved_by 0) o ≡ o
map-none None = refl
map-none (Some s) = ap Some (moved-none s)

pub map-twice : (k j : ℕ) (o : Option Source) → option_map (moved_by k) (option_map (moved_by j) o) ≡ option_map (moved_by (k + j)) o
map-twice k j None = refl
map-twice k j (Some s) = ap Some (moved-twice k j s)

-- ---- elements

pub elements-length : (w n : ℕ) (xs : List Source) → length (of_elements w n xs) ≡ n * length xs
elements-length w zero xs = omega arith
elements-length w (suc n) xs =
    let rest = of_elements w n xs in
    length-append xs (map (moved_by w) rest) ∙ (rw (length-map rest (moved_by w), elements-length w n xs, suc-mul) (omega arith))

pub elements-at : (w n : ℕ) (xs : List Source) (e j : ℕ) → e < n → j < length xs →
    slice_get (of_elements w n xs) (e * length xs + j) ≡ option_map (moved_by (e * w)) (slice_get xs j)
elements-at w zero xs e j h l = absurd (omega arith)
elements-at w (suc n) xs zero j h l =
    let start : 0 * length xs + j ≡ j = omega arith in
    let none : 0 * w ≡ 0 = omega arith in
    ap (slice_get (xs ++ map (moved_by w) (of_elements w n xs))) start
    ∙ slice_get-append_left xs (map (moved_by w) (of_elements w n xs)) j l
    ∙ sym (map-none (slice_get xs j)) ∙ ap (λ k. option_map (moved_by k) (slice_get xs j)) (sym none)
elements-at w (suc n) xs (suc e) j h l =
    let rest = of_elements w n xs in
    let at : suc e * length xs + j ≡ length xs + (e * length xs + j) = rw suc-mul (omega arith) in
    let step : w + e * w ≡ suc e * w = rw suc-mul (omega arith) in
    ap (slice_get (xs ++ map (moved_by w) rest)) at
    ∙ slice_get-append_right xs (map (moved_by w) rest) (e * length xs + j)
    ∙ slice_get-map (moved_by w) rest (e * length xs + j)
    ∙ ap (option_map (moved_by w)) (elements-at w n xs e j (omega arith) l)
    ∙ map-twice w (e * w) (slice_get xs j)
    ∙ ap (λ k. option_map (moved_by k) (slice_get xs j)) step

-- ---- the rest are zero

replicated : (k j : ℕ) → IsSome (slice_get (replicate k Zero) j) → slice_get (replicate k Zero) j ≡ Some Zero
replicated zero j h = absurd (false≢true h)
replicated (suc k) zero h = refl
replicated (suc k) (suc j) h = replicated k j h

pub all-zero : (k j : ℕ) → IsSome (at_place (Some (replicate k Zero)) j) → at_place (Some (replicate k Zero)) j ≡ Some Zero
all-zero k j h = replicated k j h

tail-zero : (xs : List Source) (k i : ℕ) → length xs ≤ i → IsSome (slice_get (xs ++ replicate k Zero) i) → slice_get (xs ++ replicate k Zero) i ≡ Some Zero
tail-zero xs k i far h =
    let at : i ≡ length xs + (i - length xs) = omega arith in
    let same : slice_get (xs ++ replicate k Zero) i ≡ slice_get (replicate k Zero) (i - length xs) =
    ap (slice_get (xs ++ replicate k Zero)) at ∙ slice_get-append_right xs (replicate k Zero) (i - length xs) in
    same ∙ replicated k (i - length xs) (subst (λ (o : Option Source). IsSome o) same h)

-- ---- an array, or a global, that comes from one of at most as many elements

longer-in : (w n z m i : ℕ) (xs : List Source) → length xs ≡ z → 0 < z → i / z < n → nat_le n m ≡ true →
    at_place (of_longer w n z m xs) i ≡ option_map (moved_by ((i / z) * w)) (slice_get xs (i % z))
longer-in w n z m i xs sized positive near fits =
    let all = of_elements w n xs in
    let rest = replicate ((m - n) * z) Zero in
    let split = div-add-mod' i z in
    let below : i % z < z = mod-lt i positive in
    let up : (i / z + 1) * z ≤ n * z = mul-le-mul_right z (let le : i / z + 1 ≤ n = omega arith in le) in
    let one : (i / z + 1) * z ≡ i / z * z + z = suc-one (i / z) z in
    let long : length all ≡ n * z = elements-length w n xs ∙ ap (λ l. n * l) sized in
    let lt : i < length all = omega (arith, split, below, up, one, long) in
    let at : i ≡ i / z * length xs + i % z = sym split ∙ ap (λ l. i / z * l + i % z) (sym sized) in
    let short : i % z < length xs = subst (λ l. i % z < l) (sym sized) below in
    rw fits (slice_get-append_left all rest i lt ∙ ap (slice_get all) at ∙ elements-at w n xs (i / z) (i % z) near short)
  where
    suc-one : (a z : ℕ) → (a + 1) * z ≡ a * z + z
    suc-one a z = let e : a + 1 ≡ suc a = omega arith in rw e (suc-mul a z)

longer-rest : (w n z m i : ℕ) (xs : List Source) → length xs ≡ z → n ≤ i / z → nat_le n m ≡ true →
    IsSome (at_place (of_longer w n z m xs) i) → at_place (of_longer w n z m xs) i ≡ Some Zero
longer-rest w n z m i xs sized far fits h =
    let all = of_elements w n xs in
    let split = div-add-mod' i z in
    let up : n * z ≤ i / z * z = mul-le-mul_right z far in
    let long : length all ≡ n * z = elements-length w n xs ∙ ap (λ l. n * l) sized in
    let past : length all ≤ i = omega (arith, split, up, long) in
    rw fits (tail-zero all ((m - n) * z) i past (rw fits at h))

pub array-into : (w n z m i : ℕ) (o : Option (List Source)) → ((xs : List Source) → o ≡ Some xs → length xs ≡ z) → 0 < z → i / z < n → nat_le n m ≡ true →
    at_place (option_and_then (of_longer w n z m) o) i ≡ option_map (moved_by ((i / z) * w)) (at_place o (i % z))
array-into w n z m i None sized positive near fits = refl
array-into w n z m i (Some xs) sized positive near fits = longer-in w n z m i xs (sized xs refl) positive near fits

pub array-rest : (w n z m i : ℕ) (o : Option (List Source)) → ((xs : List Source) → o ≡ Some xs → length xs ≡ z) → n ≤ i / z → nat_le n m ≡ true →
    IsSome (at_place (option_and_then (of_longer w n z m) o) i) → at_place (option_and_then (of_longer w n z m) o) i ≡ Some Zero
array-rest w n z m i None sized far fits h = absurd (false≢true h)
array-rest w n z m i (Some xs) sized far fits h = longer-rest w n z m i xs (sized xs refl) far fits h

-- it is as long as it is told to be, and no shorter than what it comes from
pub longer-fits : (w n z m i : ℕ) (o : Option (List Source)) → IsSome (at_place (option_and_then (of_longer w n z m) o) i) → nat_le n m ≡ true
longer-fits w n z m i None h = absurd (false≢true h)
longer-fits w n z m i (Some xs) h = by (nat_le n m) h
  where
    by : (b : Bool) → IsSome (at_place (cond b (Some (of_elements w n xs ++ replicate ((m - n) * z) Zero)) None) i) → b ≡ true
    by true h = refl
    by false h = absurd (false≢true h)

pub longer-length : (w n z m : ℕ) (xs ys : List Source) → length xs ≡ z → of_longer w n z m xs ≡ Some ys → length ys ≡ m * z
longer-length w n z m xs ys sized e = by (nat_le n m) refl e
  where
    by : (b : Bool) → nat_le n m ≡ b → cond b (Some (of_elements w n xs ++ replicate ((m - n) * z) Zero)) None ≡ Some ys → length ys ≡ m * z
    by true fits e =
        let same : of_elements w n xs ++ replicate ((m - n) * z) Zero ≡ ys = cc in
        let le : n ≤ m = leb-true n m fits in
        let up : n * z ≤ m * z = mul-le-mul_right z le in
        let back_to : m - n + n ≡ m = omega arith in
        let apart : (m - n) * z + n * z ≡ m * z = sym (add-mul (m - n) n z) ∙ ap (λ k. k * z) back_to in
        let front : length (of_elements w n xs) ≡ n * z = elements-length w n xs ∙ ap (λ l. n * l) sized in
        let back : length (replicate ((m - n) * z) Zero) ≡ (m - n) * z = length-replicate ((m - n) * z) Zero in
        ap length (sym same) ∙ length-append (of_elements w n xs) (replicate ((m - n) * z) Zero) ∙ (omega (arith, front, back, apart, up))
    by false fits e = absurd (none-some ys e)

-- where it has a cell, its elements have one
pub longer-positive : (w n z m i : ℕ) (o : Option (List Source)) → ((xs : List Source) → o ≡ Some xs → length xs ≡ z) →
    IsSome (at_place (option_and_then (of_longer w n z m) o) i) → 0 < z
longer-positive w n z m i None sized h = absurd (false≢true h)
longer-positive w n z m i (Some xs) sized h = by (of_longer w n z m xs) refl h
  where
    positive : (k : ℕ) → i < m * k → 0 < k
    positive zero lt = absurd (omega (arith, lt))
    positive (suc k) lt = omega arith

    by : (r : Option (List Source)) → of_longer w n z m xs ≡ r → IsSome (at_place r i) → 0 < z
    by None e h = absurd (false≢true h)
    by (Some ys) e h =
        let long = longer-length w n z m xs ys (sized xs refl) e in
        let (s, is) = value-of (slice_get ys i) h in
        positive z (subst (λ l. i < l) long (slice_get_within ys i s is))
