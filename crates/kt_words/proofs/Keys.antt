-- What the first word of an entry tells of it.
use Rattle.std.proofs.Common.{suc, get_or, ◌≡◌, ◌≢◌, ℕ, ◌<◌, Bool, true, false, cond, not, ◌&&◌, ◌||◌, eqb, eqb-true, List, [], ◌∷◌, ◌++◌, length, refl, ap, sym, subst, ◌∙◌, arith, codes}
use Rattle.std.specs.Prelude.{nat_eq}
use Rattle.std.specs.List.{list_any, list_all}
use Rattle.std.specs.Str.{bytes_eq}
use Rattle.kt_words.specs.Form.{Entry, Joined, Apart, File, IsFormed, begins_with_hyphen, is_option, options_of}
use Rattle.std.proofs.lemmas.Bool.Decides.{nat_tests}
use Rattle.kt_words.specs.Reading.{first_word, BeginsNothing}
use Rattle.kt_words.specs.declared.order.Program.{Program}
use Rattle.kt_words.specs.declared.order.Program.TheVariants.{Play, Serve}

-- An option with a value behind the first `=`, an option alone, or a word that doesn't begin with `-`.
pub data Key : Type 0 where
  WithValue : List ℕ → List ℕ → Key
  Alone : List ℕ → Key
  Plain : Key

abbrev pub onto : ℕ → Key → Key
onto c (WithValue name value) = WithValue (c ∷ name) value
onto c (Alone name) = Alone (c ∷ name)
onto c Plain = Plain

-- a word, cut at its first `=`
abbrev pub cut : List ℕ → Key
cut [] = Alone []
cut (c ∷ word) = cond (eqb c 61) (WithValue [] word) (onto c (cut word))

abbrev pub key_of : List ℕ → Key
key_of word = cond (begins_with_hyphen word) (cut word) Plain

abbrev pub entry_key : Entry → Key
entry_key (Joined name value) = WithValue name value
entry_key (Apart name value) = Alone name
entry_key (File name) = Plain

abbrev pub lacks_sign : List ℕ → Bool
lacks_sign [] = true
lacks_sign (c ∷ word) = not (eqb c 61) && lacks_sign word

-- a name of an option begins with `-`, has no `=` and isn't `--`
abbrev pub is_option_name : List ℕ → Bool
is_option_name name = begins_with_hyphen name && (lacks_sign name && not (bytes_eq name (codes "--")))

pub both_true : (a b : Bool) → (a && b) ≡ true → (a ≡ true) × (b ≡ true)
both_true true b h = (refl, h)
both_true false b h = cc

pub same_bytes : (xs ys : List ℕ) → bytes_eq xs ys ≡ true → xs ≡ ys
same_bytes [] [] h = refl
same_bytes [] (y ∷ ys) h = cc
same_bytes (x ∷ xs) [] h = cc
same_bytes (x ∷ xs) (y ∷ ys) h =
    let parts = both_true (nat_eq x y) (bytes_eq xs ys) h in
    let first : x ≡ y = eqb-true x y parts.0 in
    let rest : xs ≡ ys = same_bytes xs ys parts.1 in
    cc

among : (test : List ℕ → Bool) (name : List ℕ) (names : List (List ℕ)) → list_any (λ option. bytes_eq option name) names ≡ true → list_all test names ≡ true → test name ≡ true
among test name [] any all = cc
among test name (first ∷ names) any all =
    let parts = both_true (test first) (list_all test names) all in
    elim (bytes_eq first name) as (λ b. bytes_eq first name ≡ b → (b || list_any (λ option. bytes_eq option name) names) ≡ true → test name ≡ true) [
      | true ↦ λ same h. subst (λ n. test n ≡ true) (same_bytes first name same) parts.0
      | false ↦ λ other h. among test name names h parts.1
    ] refl any

option-name : (program : Program) (name : List ℕ) → is_option program name ≡ true → is_option_name name ≡ true
unfolding is_option options_of
option-name Play name h = among is_option_name name (options_of Play) h refl
option-name Serve name h = among is_option_name name (options_of Serve) h refl

pub option-hyphen : (program : Program) (name : List ℕ) → is_option program name ≡ true → begins_with_hyphen name ≡ true
option-hyphen program name h = (both_true (begins_with_hyphen name) _ (option-name program name h)).0

option-lacks : (program : Program) (name : List ℕ) → is_option program name ≡ true → lacks_sign name ≡ true
option-lacks program name h = (both_true (lacks_sign name) _ (both_true (begins_with_hyphen name) _ (option-name program name h)).1).0

-- no option is `--`
pub option-end : (program : Program) (name : List ℕ) → is_option program name ≡ true → name ≢ codes "--"
option-end program name h e =
    let other : not (bytes_eq name (codes "--")) ≡ true = (both_true (lacks_sign name) _ (both_true (begins_with_hyphen name) _ (option-name program name h)).1).1 in
    let here : not (bytes_eq (codes "--") (codes "--")) ≡ true = subst (λ n. not (bytes_eq n (codes "--")) ≡ true) e other in
    cc

pub cut-joined : (name value : List ℕ) → lacks_sign name ≡ true → cut (name ++ 61 ∷ value) ≡ WithValue name value
cut-joined [] value h = refl
cut-joined (c ∷ name) value h =
    elim (eqb c 61) as (λ b. (not b && lacks_sign name) ≡ true → cond b (WithValue [] (name ++ 61 ∷ value)) (onto c (cut (name ++ 61 ∷ value))) ≡ WithValue (c ∷ name) value) [
      | true ↦ λ k. cc
      | false ↦ λ k. ap (onto c) (cut-joined name value k)
    ] h

pub cut-alone : (name : List ℕ) → lacks_sign name ≡ true → cut name ≡ Alone name
cut-alone [] h = refl
cut-alone (c ∷ name) h =
    elim (eqb c 61) as (λ b. (not b && lacks_sign name) ≡ true → cond b (WithValue [] name) (onto c (cut name)) ≡ Alone (c ∷ name)) [
      | true ↦ λ k. cc
      | false ↦ λ k. ap (onto c) (cut-alone name k)
    ] h

hyphen-append : (name rest : List ℕ) → begins_with_hyphen name ≡ true → begins_with_hyphen (name ++ rest) ≡ true
hyphen-append [] rest h = cc
hyphen-append (c ∷ name) rest h = h

pub key-hyphen : (word : List ℕ) → begins_with_hyphen word ≡ true → key_of word ≡ cut word
key-hyphen word h = ap (λ b. cond b (cut word) Plain) h

pub key-plain : (word : List ℕ) → begins_with_hyphen word ≡ false → key_of word ≡ Plain
key-plain word h = ap (λ b. cond b (cut word) Plain) h

pub key-option : (program : Program) (name : List ℕ) → is_option program name ≡ true → key_of name ≡ Alone name
key-option program name h = key-hyphen name (option-hyphen program name h) ∙ cut-alone name (option-lacks program name h)

pub key-first : (program : Program) (entry : Entry) → IsFormed program entry → key_of (first_word entry) ≡ entry_key entry
key-first program (Joined name value) h =
    key-hyphen (name ++ 61 ∷ value) (hyphen-append name (61 ∷ value) (option-hyphen program name h.0)) ∙ cut-joined name value (option-lacks program name h.0)
key-first program (Apart name value) h = key-option program name h.0
key-first program (File name) h = key-plain name h.1

-- no entry begins with `--`
pub first-end : (program : Program) (entry : Entry) → IsFormed program entry → first_word entry ≢ codes "--"
first-end program (Joined name value) h e =
    let keys : WithValue name value ≡ Alone (codes "--") = sym (key-first program (Joined name value) h) ∙ ap key_of e in
    cc
first-end program (Apart name value) h e = option-end program name h.0 e
first-end program (File name) h e =
    let keys : Plain ≡ Alone (codes "--") = sym (key-first program (File name) h) ∙ ap key_of e in
    cc

differs : (c : ℕ) → c ≢ 61 → eqb c 61 ≡ false
differs c h = grind (arith, nat_tests)

pub lacks-index : (word : List ℕ) → ((i : ℕ) → i < length word → get_or word i 0 ≢ 61) → lacks_sign word ≡ true
lacks-index [] h = refl
lacks-index (c ∷ word) h =
    ap (λ b. not b && lacks_sign word) (differs c (h 0 (omega arith)))
    ∙ lacks-index word (λ i k. h (suc i) (omega arith))

empty-entry : (program : Program) (entry : Entry) → IsFormed program entry → first_word entry ≢ []
empty-entry program (Joined n v) f e =
    let keys : WithValue n v ≡ Plain = sym (key-first program (Joined n v) f) ∙ ap key_of e in
    cc
empty-entry program (Apart n v) f e =
    let keys : Alone n ≡ Plain = sym (key-first program (Apart n v) f) ∙ ap key_of e in
    cc
empty-entry program (File n) f e =
    let none : 0 ≡ length n = sym (ap (λ (w : List ℕ). length w) e) in
    omega (arith, f.0)

-- an empty word begins nothing
pub other-empty : (program : Program) (word : List ℕ) → length word ≡ 0 → BeginsNothing program word
other-empty program [] h = record { no_entry = empty-entry program; no_end = λ e. cc }
other-empty program (c ∷ word) h = absurd (omega arith)

-- an option that the program does not know, or whose value is empty
joined-entry : (program : Program) (name value : List ℕ) → lacks_sign name ≡ true → begins_with_hyphen (name ++ 61 ∷ value) ≡ true → (is_option program name ≡ true → 0 < length value → ⊥)
    → (entry : Entry) → IsFormed program entry → first_word entry ≢ (name ++ 61 ∷ value)
joined-entry program name value lacks hyphen unknown (Joined n v) f e =
    let keys : WithValue n v ≡ WithValue name value = sym (key-first program (Joined n v) f) ∙ ap key_of e ∙ key-hyphen (name ++ 61 ∷ value) hyphen ∙ cut-joined name value lacks in
    let names : n ≡ name = cc in
    let values : v ≡ value = cc in
    unknown (subst (λ x. is_option program x ≡ true) names f.0) (subst (λ x. 0 < length x) values f.1)
joined-entry program name value lacks hyphen unknown (Apart n v) f e =
    let keys : Alone n ≡ WithValue name value = sym (key-first program (Apart n v) f) ∙ ap key_of e ∙ key-hyphen (name ++ 61 ∷ value) hyphen ∙ cut-joined name value lacks in
    cc
joined-entry program name value lacks hyphen unknown (File n) f e =
    let keys : Plain ≡ WithValue name value = sym (key-first program (File n) f) ∙ ap key_of e ∙ key-hyphen (name ++ 61 ∷ value) hyphen ∙ cut-joined name value lacks in
    cc

pub other-joined : (program : Program) (word name value : List ℕ) → word ≡ name ++ 61 ∷ value → ((i : ℕ) → i < length name → get_or name i 0 ≢ 61) → begins_with_hyphen word ≡ true → word ≢ codes "--"
    → (is_option program name ≡ true → 0 < length value → ⊥) → BeginsNothing program word
other-joined program word name value e lacks hyphen end unknown = record {
  no_entry = λ entry f first. joined-entry program name value (lacks-index name lacks) (subst (λ w. begins_with_hyphen w ≡ true) e hyphen) unknown entry f (first ∙ e);
  no_end = end;
}

alone-entry : (program : Program) (word : List ℕ) → lacks_sign word ≡ true → begins_with_hyphen word ≡ true → is_option program word ≡ false → (entry : Entry) → IsFormed program entry → first_word entry ≢ word
alone-entry program word lacks hyphen unknown (Joined n v) f e =
    let keys : WithValue n v ≡ Alone word = sym (key-first program (Joined n v) f) ∙ ap key_of e ∙ key-hyphen word hyphen ∙ cut-alone word lacks in
    cc
alone-entry program word lacks hyphen unknown (Apart n v) f e =
    let known : is_option program word ≡ true = subst (λ x. is_option program x ≡ true) e f.0 in
    let both : true ≡ false = sym known ∙ unknown in
    cc
alone-entry program word lacks hyphen unknown (File n) f e =
    let keys : Plain ≡ Alone word = sym (key-first program (File n) f) ∙ ap key_of e ∙ key-hyphen word hyphen ∙ cut-alone word lacks in
    cc

pub other-alone : (program : Program) (word : List ℕ) → ((i : ℕ) → i < length word → get_or word i 0 ≢ 61) → begins_with_hyphen word ≡ true → word ≢ codes "--" → is_option program word ≡ false → BeginsNothing program word
other-alone program word lacks hyphen end unknown = record { no_entry = alone-entry program word (lacks-index word lacks) hyphen unknown; no_end = end }
