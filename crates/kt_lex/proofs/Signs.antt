-- Words and signs that stand in a list.
use Rattle.std.proofs.Common.{◌≡◌, ℕ, ◌<◌, ◌≤◌, Bool, true, false, cond, ◌&&◌, ◌||◌, eqb, ◌⊎◌, inl, inr, List, [], ◌∷◌, length, take, length-take, sym, refl, ap, ◌∙◌, arith}
use Rattle.std.specs.Prelude.{map, nat_eq}
use Rattle.std.specs.List.{list_any, list_all, starts_with}
use Rattle.std.specs.Str.{bytes_eq}
use Rattle.std.proofs.lemmas.Bool.{eqb-true}
use Rattle.std.proofs.lemmas.List.Folds.{list_any-append}
use Rattle.std.proofs.lemmas.Slice.Eq.{bytes_eq-Decides}
use Rattle.kt_lex.specs.Words.{is_among, signs_of_one, signs_of_two, sign_length}
use Rattle.kt_lex.specs.Cover.{signs, IsLongestSign}

-- both parts of a test passed
pub both : (a b : Bool) → (a && b) ≡ true → (a ≡ true) × (b ≡ true)
both true b h = (refl, h)
both false b h = cc

-- one part of a test passed
pub either : (a b : Bool) → (a || b) ≡ true → (a ≡ true) ⊎ (b ≡ true)
either true b h = inl refl
either false b h = inr h

-- the second part passed, so the whole did
pub second : (a b : Bool) → b ≡ true → (a || b) ≡ true
second true b h = refl
second false b h = h

-- which way a choice went
pub chosen : {A : Type 0} (b : Bool) (x y z : A) → cond b x y ≡ z → ((b ≡ true) × (x ≡ z)) ⊎ ((b ≡ false) × (y ≡ z))
chosen true x y z h = inl (refl, h)
chosen false x y z h = inr (refl, h)

-- a test that passes at a word of a list passes at one of the list
passes_among : (p : List ℕ → Bool) (words : List (List ℕ)) (word : List ℕ) → is_among words word ≡ true → p word ≡ true → list_any p words ≡ true
unfolding is_among
passes_among p [] word among passes = cc
passes_among p (w ∷ words) word among passes =
    elim (either (bytes_eq w word) (is_among words word) among) as (λ _. (p w || list_any p words) ≡ true) [
      | inl same ↦ ap (λ b. b || list_any p words) (ap p ((bytes_eq-Decides w word).0 same) ∙ passes)
      | inr later ↦ second (p w) (list_any p words) (passes_among p words word later passes)
    ]

-- a word of a list of words of n bytes has n bytes
length_among : (n : ℕ) (words : List (List ℕ)) (word : List ℕ) → list_all (λ w. eqb (length w) n) words ≡ true → is_among words word ≡ true → length word ≡ n
unfolding is_among
length_among n [] word each among = cc
length_among n (w ∷ words) word each among =
    let parts = both (eqb (length w) n) (list_all (λ w. eqb (length w) n) words) each in
    elim (either (bytes_eq w word) (is_among words word) among) as (λ _. length word ≡ n) [
      | inl same ↦ ap length (sym ((bytes_eq-Decides w word).0 same)) ∙ eqb-true (length w) n parts.0
      | inr later ↦ length_among n words word parts.1 later
    ]

-- a sign of one byte is among those
one_among : (b : ℕ) (ones : List ℕ) → list_any (λ sign. eqb sign b) ones ≡ true → is_among (map (λ sign. sign ∷ []) ones) (b ∷ []) ≡ true
unfolding is_among
one_among b [] found = cc
one_among b (sign ∷ ones) found =
    elim (either (eqb sign b) (list_any (λ sign. eqb sign b) ones) found) as (λ _. ((eqb sign b && true) || is_among (map (λ sign. sign ∷ []) ones) (b ∷ [])) ≡ true) [
      | inl same ↦ ap (λ t. (t && true) || is_among (map (λ sign. sign ∷ []) ones) (b ∷ [])) same
      | inr later ↦ second (eqb sign b && true) _ (one_among b ones later)
    ]

-- the byte at the front is the sign of one byte that stands there
one_stands : (b : ℕ) (rest : List ℕ) (ones : List ℕ) → list_any (starts_with nat_eq (b ∷ rest)) (map (λ sign. sign ∷ []) ones) ≡ true → list_any (λ sign. eqb sign b) ones ≡ true
one_stands b rest [] found = cc
one_stands b rest (sign ∷ ones) found =
    elim (either (eqb sign b && true) (list_any (starts_with nat_eq (b ∷ rest)) (map (λ sign. sign ∷ []) ones)) found) as (λ _. (eqb sign b || list_any (λ sign. eqb sign b) ones) ≡ true) [
      | inl same ↦ ap (λ t. t || list_any (λ sign. eqb sign b) ones) (both (eqb sign b) true same).0
      | inr later ↦ second (eqb sign b) _ (one_stands b rest ones later)
    ]

-- a sign has one byte or two
sign_is : (s : List ℕ) → is_among signs s ≡ true → (is_among signs_of_two s ≡ true) ⊎ (is_among (map (λ sign. sign ∷ []) signs_of_one) s ≡ true)
unfolding is_among signs
sign_is s among =
    either (is_among signs_of_two s) (is_among (map (λ sign. sign ∷ []) signs_of_one) s) (sym (list_any-append (λ w. bytes_eq w s) signs_of_two (map (λ sign. sign ∷ []) signs_of_one)) ∙ among)

two_is_sign : (s : List ℕ) → is_among signs_of_two s ≡ true → is_among signs s ≡ true
unfolding is_among signs
two_is_sign s among =
    list_any-append (λ w. bytes_eq w s) signs_of_two (map (λ sign. sign ∷ []) signs_of_one)
    ∙ ap (λ t. t || is_among (map (λ sign. sign ∷ []) signs_of_one) s) among

one_is_sign : (s : List ℕ) → is_among (map (λ sign. sign ∷ []) signs_of_one) s ≡ true → is_among signs s ≡ true
unfolding is_among signs
one_is_sign s among =
    list_any-append (λ w. bytes_eq w s) signs_of_two (map (λ sign. sign ∷ []) signs_of_one)
    ∙ second (is_among signs_of_two s) _ among

-- the first two bytes are a sign exactly if one of those stands at the front
two_stands : (bytes : List ℕ) → list_any (starts_with nat_eq bytes) signs_of_two ≡ is_among signs_of_two (take 2 bytes)
unfolding is_among signs_of_two
two_stands bytes = refl

two_length : (s : List ℕ) → is_among signs_of_two s ≡ true → length s ≡ 2
unfolding signs_of_two
two_length s among = length_among 2 signs_of_two s refl among

one_length : (s : List ℕ) → is_among (map (λ sign. sign ∷ []) signs_of_one) s ≡ true → length s ≡ 1
unfolding signs_of_one
one_length s among = length_among 1 (map (λ sign. sign ∷ []) signs_of_one) s refl among

-- how long the sign at the front is, by what stands there
data Taken (b : ℕ) (rest : List ℕ) : Type 0 where
  Two : sign_length (b ∷ rest) ≡ 2 → is_among signs_of_two (take 2 (b ∷ rest)) ≡ true → Taken b rest
  One : sign_length (b ∷ rest) ≡ 1 → list_any (starts_with nat_eq (b ∷ rest)) signs_of_two ≡ false → list_any (λ sign. eqb sign b) signs_of_one ≡ true → Taken b rest
  Zero : sign_length (b ∷ rest) ≡ 0 → list_any (starts_with nat_eq (b ∷ rest)) signs_of_two ≡ false → list_any (λ sign. eqb sign b) signs_of_one ≡ false → Taken b rest

taken : (b : ℕ) (rest : List ℕ) → Taken b rest
unfolding sign_length
taken b rest =
    let two = list_any (starts_with nat_eq (b ∷ rest)) signs_of_two in
    let one = list_any (λ sign. eqb sign b) signs_of_one in
    elim (chosen {A = ℕ} two 2 (cond one 1 0) (cond two 2 (cond one 1 0)) refl) [
      | inl w ↦ Two (sym w.1) (sym (two_stands (b ∷ rest)) ∙ w.0)
      | inr w ↦ elim (chosen {A = ℕ} one 1 0 (cond one 1 0) refl) [
        | inl v ↦ One (sym w.1 ∙ sym v.1) w.0 v.0
        | inr v ↦ Zero (sym w.1 ∙ sym v.1) w.0 v.0
      ]
    ]

-- the sign that is taken stands at the front
sign_stands : (bytes : List ℕ) → 0 < sign_length bytes → is_among signs (take (sign_length bytes) bytes) ≡ true
unfolding sign_length
sign_stands [] positive = absurd (omega arith)
sign_stands (b ∷ rest) positive = elim (taken b rest) [
  | Two is among ↦ ap (λ n. is_among signs (take n (b ∷ rest))) is ∙ two_is_sign _ among
  | One is two one ↦ ap (λ n. is_among signs (take n (b ∷ rest))) is ∙ one_is_sign (b ∷ []) (one_among b signs_of_one one)
  | Zero is two one ↦ absurd (omega (arith, is, positive))
]

pub sign_fits : (bytes : List ℕ) → sign_length bytes ≤ length bytes
unfolding sign_length
sign_fits [] = omega arith
sign_fits (b ∷ rest) = elim (taken b rest) [
  | Two is among ↦ omega (arith, is, two_length _ among, length-take 2 (b ∷ rest))
  | One is two one ↦ omega (arith, is)
  | Zero is two one ↦ omega (arith, is)
]

-- what stands at the front and is a sign is no longer
sign_longest : (bytes s : List ℕ) → is_among signs s ≡ true → starts_with nat_eq bytes s ≡ true → length s ≤ sign_length bytes
sign_longest bytes [] among stands = omega arith
sign_longest [] (c ∷ s) among stands = cc
sign_longest (b ∷ rest) (c ∷ s) among stands = elim (sign_is (c ∷ s) among) [
  | inl two ↦
      let found = passes_among (starts_with nat_eq (b ∷ rest)) signs_of_two (c ∷ s) two stands in
      let n = two_length (c ∷ s) two in
      elim (taken b rest) [
        | Two is _ ↦ omega (arith, is, n)
        | One is none _ ↦ absurd (let e : true ≡ false = sym found ∙ none in cc)
        | Zero is none _ ↦ absurd (let e : true ≡ false = sym found ∙ none in cc)
      ]
  | inr one ↦
      let found = one_stands b rest signs_of_one (passes_among (starts_with nat_eq (b ∷ rest)) (map (λ sign. sign ∷ []) signs_of_one) (c ∷ s) one stands) in
      let n = one_length (c ∷ s) one in
      elim (taken b rest) [
        | Two is _ ↦ omega (arith, is, n)
        | One is _ _ ↦ omega (arith, is, n)
        | Zero is _ none ↦ absurd (let e : true ≡ false = sym found ∙ none in cc)
      ]
]

pub is_longest_sign : (bytes : List ℕ) → IsLongestSign bytes
is_longest_sign bytes = record { stands = sign_stands bytes; longest = sign_longest bytes }
