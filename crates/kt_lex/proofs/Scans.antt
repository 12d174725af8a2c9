-- How the loops of scanning go on: what a definition says of a rest, from its first byte.
use Rattle.std.proofs.Common.{◌≡◌, ℕ, ◌+◌, ◌*◌, ◌-◌, ◌<◌, ◌≤◌, suc, Bool, true, false, cond, not, ◌&&◌, eqb, List, [], ◌∷◌, length, get_or, take, drop, Option, Some, None, sym, refl, ap, ◌∙◌, arith, add-one, drop-cons, length-drop}
use Rattle.std.proofs.lemmas.Bool.{lt-leb, lt-ltb, le-ltb}
use Rattle.std.proofs.Math.Seq.{take-length}
use Rattle.std.proofs.Math.Nat.{mul-le-mul_left}
use Rattle.std.proofs.lemmas.List.{drop_more}
use Rattle.std.specs.Prelude.{nat_eq, codes}
use Rattle.std.specs.List.{starts_with}
use Rattle.std.specs.Option.{option_map, option_and_then}
use Rattle.std.specs.Char.{digit_value, is_digit}
use Rattle.kt_lex.specs.Gaps.{comment_length}
use Rattle.kt_lex.specs.Quotes.{body_length, begins_escape, value_at, before_rest, bytes_in, inside, string_value}
use Rattle.kt_lex.specs.Numbers.{value_behind, value_in, at_most_greatest, greatest}

-- what was found in a rest that stands behind n bytes
abbrev pub shifted : ℕ → Option ℕ → Option ℕ
shifted n found = option_map (λ k. n + k) found

pub shifted-zero : (found : Option ℕ) → shifted 0 found ≡ found
shifted-zero None = refl
shifted-zero (Some k) = ap (λ n. Some n) (omega arith)

pub shifted-suc : (n : ℕ) (found : Option ℕ) → shifted n (option_map suc found) ≡ shifted (n + 1) found
shifted-suc n None = refl
shifted-suc n (Some k) = ap (λ m. Some m) (omega arith)

-- a rest is all of its bytes
pub take-rest : (bytes : List ℕ) (i : ℕ) → take (length bytes - i) (drop i bytes) ≡ drop i bytes
take-rest bytes i = ap (λ n. take n (drop i bytes)) (sym (length-drop i bytes)) ∙ take-length (drop i bytes)

-- a rest of a comment that does not begin with `*/`
pub comment-next : (bytes : List ℕ) (i : ℕ) → i < length bytes → starts_with nat_eq (drop i bytes) (codes "*/") ≡ false → comment_length (drop i bytes) ≡ option_map suc (comment_length (drop (i + 1) bytes))
unfolding comment_length
comment-next bytes i h closes =
    let is_cons = drop_more bytes i 0 h in
    ap comment_length is_cons
    ∙ ap (λ b. cond b (Some 0) (option_map suc (comment_length (drop (i + 1) bytes)))) (ap (λ l. starts_with nat_eq l (codes "*/")) (sym is_cons) ∙ closes)

-- a rest of what stands behind a quote
pub body-drop : (quote : ℕ) (escaped : Bool) (bytes : List ℕ) (i : ℕ) → i < length bytes → body_length quote escaped (drop i bytes) ≡ cond (eqb (get_or bytes i 0) 10) None (cond (eqb (get_or bytes i 0) quote && not escaped) (Some 0) (option_map suc (body_length quote (begins_escape escaped (get_or bytes i 0)) (drop (i + 1) bytes))))
unfolding body_length
body-drop quote escaped bytes i h = rw (add-one, drop-cons bytes i 0)

-- a rest of a string
pub bytes_in-drop : (escaped : Bool) (body : List ℕ) (i : ℕ) → i < length body → bytes_in escaped (drop i body) ≡ cond (begins_escape escaped (get_or body i 0)) (bytes_in true (drop (i + 1) body)) (before_rest (value_at escaped (get_or body i 0)) (bytes_in false (drop (i + 1) body)))
unfolding bytes_in
bytes_in-drop escaped body i h = rw (add-one, drop-cons body i 0)

-- a rest of digits
pub value_behind-drop : (base n : ℕ) (digits : List ℕ) (i : ℕ) → i < length digits → value_behind base n (drop i digits) ≡ cond (is_digit (get_or digits i 0) base) (value_behind base (n * base + digit_value (get_or digits i 0)) (drop (i + 1) digits)) None
value_behind-drop base n digits i h = rw (add-one, drop-cons digits i 0)

-- one or more digits stand behind 0
pub value_in-is : (base : ℕ) (digits : List ℕ) → 0 < length digits → value_in base digits ≡ value_behind base 0 digits
unfolding value_in
value_in-is base [] h = absurd (omega arith)
value_in-is base (d ∷ digits) h = refl

-- more digits make no smaller number, so what is too great stays so
too_great : (base n : ℕ) (digits : List ℕ) → 1 ≤ base → greatest < n → option_and_then at_most_greatest (value_behind base n digits) ≡ None
too_great base n [] positive great = ap (λ b. cond b (Some n) None) (lt-leb n greatest great)
too_great base n (d ∷ digits) positive great =
    elim (is_digit d base) as (λ b. option_and_then at_most_greatest (cond b (value_behind base (n * base + digit_value d) digits) None) ≡ None) [
      | true ↦ too_great base (n * base + digit_value d) digits positive (omega (arith, mul-le-mul_left n positive))
      | false ↦ refl
    ]

-- the next digit makes the number too great
pub next_too_great : (base n : ℕ) (digits : List ℕ) (i : ℕ) → i < length digits → 1 ≤ base → digit_value (get_or digits i 0) < base → greatest < n * base + digit_value (get_or digits i 0) → option_and_then at_most_greatest (value_behind base n (drop i digits)) ≡ None
next_too_great base n digits i h positive digit great =
    ap (option_and_then at_most_greatest) (value_behind-drop base n digits i h ∙ ap (λ b. cond b (value_behind base (n * base + digit_value (get_or digits i 0)) (drop (i + 1) digits)) None) (lt-ltb _ _ digit))
    ∙ too_great base _ (drop (i + 1) digits) positive great

-- a spelling of two bytes or more
pub string_value-is : (spelling : List ℕ) → 2 ≤ length spelling → string_value spelling ≡ bytes_in false (inside spelling)
unfolding string_value
string_value-is spelling h = ap (λ b. cond b None (bytes_in false (inside spelling))) (le-ltb (length spelling) 2 h)
