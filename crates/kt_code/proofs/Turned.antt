-- Lists that are kept with the first item last.
use Rattle.std.specs.Prelude.{◌≡◌, ℕ, zero, suc, ◌+◌, ◌-◌, ◌<◌, ◌≤◌, List, [], ◌∷◌, ◌++◌, length, reverse, take, drop, slice_get, slice_set, slice_index_or, Some, refl}
use Rattle.std.proofs.Common.{arith, ap, sym, ◌∙◌, subst, inl, inr}
use Rattle.std.proofs.lemmas.List.{reverse-append, reverse-reverse, length-reverse, length-drop, take-append-drop, get_or-reverse}
use Rattle.std.proofs.lemmas.Bool.{cases_lt}
use Rattle.std.proofs.Math.ListN.{drop_of_length-le}
use Rattle.std.proofs.Math.Seq.{take-append_seam, drop-append_seam}
use Rattle.std.proofs.lemmas.Option.{slice_get-get_or}

reverse-cons : {X : Type 0} (x : X) (xs : List X) → reverse (x ∷ xs) ≡ reverse xs ++ x ∷ []
reverse-cons x xs = reverse-append (x ∷ []) xs

-- what stands first stays first where more is put behind
keeps-first : {X : Type 0} (w r zs t : List X) (x : X) → w ≡ r ++ zs → r ≡ x ∷ t → w ≡ x ∷ drop 1 w
keeps-first w r zs t x e f =
    let k : w ≡ x ∷ (t ++ zs) = e ∙ ap (λ l. l ++ zs) f in
    k ∙ ap (λ l. x ∷ l) (sym (ap (drop 1) k))

-- the last item is the first one of the list turned round
pub reverse-first : {X : Type 0} (xs : List X) (i : ℕ) (d : X) → suc i ≡ length xs → reverse xs ≡ slice_index_or xs i d ∷ drop 1 (reverse xs)
reverse-first [] i d h = absurd (omega arith)
reverse-first (x ∷ []) zero d h = refl
reverse-first (x ∷ []) (suc i) d h = absurd (omega arith)
reverse-first (x ∷ y ∷ xs) zero d h = absurd (omega arith)
reverse-first (x ∷ y ∷ xs) (suc i) d h =
    let k : suc i ≡ length (y ∷ xs) = omega arith in
    keeps-first (reverse (x ∷ y ∷ xs)) (reverse (y ∷ xs)) (x ∷ []) (drop 1 (reverse (y ∷ xs))) (slice_index_or (y ∷ xs) i d)
    (reverse-cons x (y ∷ xs)) (reverse-first (y ∷ xs) i d k)

rest-behind : {X : Type 0} (w r zs t : List X) (x : X) → w ≡ r ++ zs → r ≡ x ∷ t → drop 1 r ++ zs ≡ drop 1 w
rest-behind w r zs t x e f =
    let k : w ≡ x ∷ (t ++ zs) = e ∙ ap (λ l. l ++ zs) f in
    ap (λ l. drop 1 l ++ zs) f ∙ sym (ap (drop 1) k)

-- to change the last item is to change the first one of the list turned round
pub reverse-set : {X : Type 0} (xs : List X) (i : ℕ) (x : X) → suc i ≡ length xs → reverse (slice_set xs i x) ≡ x ∷ drop 1 (reverse xs)
reverse-set [] i y h = absurd (omega arith)
reverse-set (x ∷ []) zero y h = refl
reverse-set (x ∷ []) (suc i) y h = absurd (omega arith)
reverse-set (x ∷ z ∷ xs) zero y h = absurd (omega arith)
reverse-set (x ∷ z ∷ xs) (suc i) y h =
    let k : suc i ≡ length (z ∷ xs) = omega arith in
    reverse-cons x (slice_set (z ∷ xs) i y)
    ∙ ap (λ l. l ++ x ∷ []) (reverse-set (z ∷ xs) i y k)
    ∙ ap (λ l. y ∷ l)
    (rest-behind (reverse (x ∷ z ∷ xs)) (reverse (z ∷ xs)) (x ∷ []) (drop 1 (reverse (z ∷ xs))) (slice_index_or (z ∷ xs) i z)
    (reverse-cons x (z ∷ xs)) (reverse-first (z ∷ xs) i z k))

-- the two ends of a list turned round
parts : {X : Type 0} (n : ℕ) (xs : List X) → reverse xs ≡ reverse (drop (length xs - n) xs) ++ reverse (take (length xs - n) xs)
parts n xs =
    ap reverse (sym (take-append-drop (length xs - n) xs)) ∙ reverse-append (take (length xs - n) xs) (drop (length xs - n) xs)

length-part : {X : Type 0} (n : ℕ) (xs : List X) → n ≤ length xs → length (reverse (drop (length xs - n) xs)) ≡ n
length-part n xs h =
    let e = length-reverse (drop (length xs - n) xs) in
    let f = length-drop (length xs - n) xs in
    omega (arith, e, f)

take-part : {X : Type 0} (n : ℕ) (a b : List X) → length a ≡ n → take n (a ++ b) ≡ a
take-part n a b h = subst (λ k. take k (a ++ b) ≡ a) h (take-append_seam a b)

drop-part : {X : Type 0} (n : ℕ) (a b : List X) → length a ≡ n → drop n (a ++ b) ≡ b
drop-part n a b h = subst (λ k. drop k (a ++ b) ≡ b) h (drop-append_seam a b)

-- the topmost items, in the order in which they were put
pub reverse-take : {X : Type 0} (n : ℕ) (xs : List X) → n ≤ length xs → reverse (take n (reverse xs)) ≡ drop (length xs - n) xs
reverse-take n xs h =
    ap (λ l. reverse (take n l)) (parts n xs)
    ∙ ap reverse (take-part n (reverse (drop (length xs - n) xs)) (reverse (take (length xs - n) xs)) (length-part n xs h))
    ∙ reverse-reverse (drop (length xs - n) xs)

drop-within : {X : Type 0} (n : ℕ) (xs : List X) → n ≤ length xs → drop n (reverse xs) ≡ reverse (take (length xs - n) xs)
drop-within n xs h =
    ap (drop n) (parts n xs)
    ∙ drop-part n (reverse (drop (length xs - n) xs)) (reverse (take (length xs - n) xs)) (length-part n xs h)

drop-past : {X : Type 0} (n : ℕ) (xs : List X) → length xs ≤ n → drop n (reverse xs) ≡ reverse (take (length xs - n) xs)
drop-past n xs h =
    let none : length xs - n ≡ 0 = omega arith in
    let l = length-reverse xs in
    let past : length (reverse xs) ≤ n = omega (arith, l) in
    drop_of_length-le (reverse xs) past ∙ ap (λ k. reverse (take k xs)) (sym none)

pub drop-reverse : {X : Type 0} (n : ℕ) (xs : List X) → drop n (reverse xs) ≡ reverse (take (length xs - n) xs)
drop-reverse n xs = elim (cases_lt (length xs) n) [ inl h ↦ let past : length xs ≤ n = omega (arith, h) in drop-past n xs past | inr h ↦ drop-within n xs h ]

-- one item is dropped, and the last one then changed
pub reverse-set_below : {X : Type 0} (xs ys : List X) (i : ℕ) (x v : X) → xs ≡ ys ++ x ∷ [] → suc i ≡ length ys →
    reverse (slice_set ys i v) ≡ v ∷ drop 2 (reverse xs)
reverse-set_below xs ys i x v e h =
    reverse-set ys i v h ∙ ap (λ l. v ∷ drop 2 l) (sym (ap reverse e ∙ reverse-append ys (x ∷ [])))

-- an item of the list turned round
pub slice_get-reverse : {X : Type 0} (n k : ℕ) (xs : List X) → n + suc k ≡ length xs → slice_get (reverse xs) k ≡ slice_get xs n
slice_get-reverse n k [] h = absurd (omega arith)
slice_get-reverse n k (x ∷ xs) h =
    let l = length-reverse (x ∷ xs) in
    let low : k < length (reverse (x ∷ xs)) = omega (arith, l) in
    let high : k < length (x ∷ xs) = omega arith in
    let within : n < length (x ∷ xs) = omega arith in
    let same : length (x ∷ xs) - 1 - k ≡ n = omega arith in
    slice_get-get_or (reverse (x ∷ xs)) k x low
    ∙ ap Some (get_or-reverse (x ∷ xs) k x high ∙ ap (λ m. slice_index_or (x ∷ xs) m x) same)
    ∙ sym (slice_get-get_or (x ∷ xs) n x within)
