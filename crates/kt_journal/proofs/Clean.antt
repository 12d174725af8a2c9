-- Words that a form takes have neither spaces nor newlines.
use Rattle.std.proofs.Common.{◌≡◌, ℕ, ◌-◌, ◌^◌, Bool, true, false, ◌&&◌, ◌||◌, not, eqb-true, List, [], ◌∷◌, refl, ap, sym, subst, ◌∙◌, codes}
use Rattle.std.specs.Prelude.{◌==◌, nat_eq, if◌then◌else◌}
use Rattle.std.specs.Char.{is_ascii_digit}
use Rattle.std.specs.List.{list_all, AllByRecursion}
use Rattle.std.specs.Str.{bytes_eq, all_ascii_digits}
use Rattle.std.proofs.lemmas.Bool.{false≢true, and_parts}
use Rattle.kt_lex.specs.Bytes.{is_word_byte}
use Rattle.kt_lex.specs.Words.{is_among, keywords}
use Rattle.kt_grammar.specs.Identifiers.{is_identifier}
use Rattle.kt_journal.specs.declared.kit.Kit.{Kit}
use Rattle.kt_journal.specs.declared.kit.Kit.TheVariants.{First, Second}
use Rattle.kt_journal.specs.Grammar.{Words, Form, is, is_one_of, is_number_up_to, is_number, is_thread, is_value, is_trap, trap_names, is_place_fault, place_faults, is_of, is_of_one, refused, refusals, request, progress, ends, is_mark, is_end}
use Rattle.kt_journal.proofs.Numbers.{number-digits}
use Rattle.kt_journal.proofs.Splitting.{has, IsClean, AreClean, IsSomeWords}

-- what it takes is clean
abbrev pub Cleans : (List ℕ → Bool) → Type 0
Cleans may = (word : List ℕ) → may word ≡ true → IsClean word

-- ---- bytes

other-byte : (p : ℕ → Bool) (k c : ℕ) (b : Bool) → (c == k) ≡ b → p k ≡ false → p c ≡ true → b ≡ false
other-byte p k c false same lacks holds = refl
other-byte p k c true same lacks holds = absurd (false≢true (sym lacks ∙ ap p (sym (eqb-true c k same)) ∙ holds))

pub neither : (x y : Bool) → x ≡ false → y ≡ false → (x || y) ≡ false
neither x y e f = ap (λ t. t || y) e ∙ f

pub all-clean : (p : ℕ → Bool) → p 32 ≡ false → p 10 ≡ false → (word : List ℕ) → list_all p word ≡ true → IsClean word
all-clean p no_space no_newline [] all = (refl, refl)
all-clean p no_space no_newline (c ∷ word) all =
    let parts = and_parts (p c) (list_all p word) all in
    let rest = all-clean p no_space no_newline word parts.1 in (
      neither (c == 32) (has 32 word) (other-byte p 32 c (c == 32) refl no_space parts.0) rest.0,
      neither (c == 10) (has 10 word) (other-byte p 10 c (c == 10) refl no_newline parts.0) rest.1,
    )

digits-all : (word : List ℕ) → all_ascii_digits word ≡ list_all is_ascii_digit word
digits-all [] = refl
digits-all (c ∷ word) = ap (λ t. is_ascii_digit c && t) (digits-all word)

pub digits-clean : (word : List ℕ) → all_ascii_digits word ≡ true → IsClean word
digits-clean word digits = all-clean is_ascii_digit refl refl word (sym (digits-all word) ∙ digits)

-- ---- words

pub bytes-same : (xs ys : List ℕ) → bytes_eq xs ys ≡ true → xs ≡ ys
bytes-same [] [] is = refl
bytes-same [] (y ∷ ys) is = absurd (false≢true is)
bytes-same (x ∷ xs) [] is = absurd (false≢true is)
bytes-same (x ∷ xs) (y ∷ ys) is =
    let parts = and_parts (nat_eq x y) (bytes_eq xs ys) is in
    ap (λ z. z ∷ xs) (eqb-true x y parts.0) ∙ ap (λ zs. y ∷ zs) (bytes-same xs ys parts.1)

-- it is this text
pub is-same : (text word : List ℕ) → is text word ≡ true → word ≡ text
is-same text word holds = sym (bytes-same text word holds)

no-true : (b : Bool) → not b ≡ true → b ≡ false
no-true true lacks = absurd (false≢true lacks)
no-true false lacks = refl

-- a test of texts
abbrev is_clean : List ℕ → Bool
is_clean text = not (has 32 text) && not (has 10 text)

clean-text : (text : List ℕ) → is_clean text ≡ true → IsClean text
clean-text text holds =
    let parts = and_parts (not (has 32 text)) (not (has 10 text)) holds in (no-true (has 32 text) parts.0, no-true (has 10 text) parts.1)

word-cleans : (text : List ℕ) → is_clean text ≡ true → Cleans (is text)
word-cleans text clean word holds = subst IsClean (sym (is-same text word holds)) (clean-text text clean)

one-case : (texts : List (List ℕ)) (text word : List ℕ) (b : Bool) → is text word ≡ b → is_clean text ≡ true → ((b || is_one_of texts word) ≡ true)
    → (is_one_of texts word ≡ true → IsClean word) → IsClean word
one-case texts text word true holds clean one rest = word-cleans text clean word holds
one-case texts text word false lacks clean one rest = rest one

one-cleans : (texts : List (List ℕ)) → list_all is_clean texts ≡ true → Cleans (is_one_of texts)
one-cleans [] clean word one = absurd (false≢true one)
one-cleans (text ∷ texts) clean word one =
    let parts = and_parts (is_clean text) (list_all is_clean texts) clean in
    one-case texts text word (is text word) refl parts.0 one (one-cleans texts parts.1 word)

number-cleans : (most : ℕ) → Cleans (is_number_up_to most)
number-cleans most word holds = digits-clean word (number-digits most word holds)

pub name-cleans : Cleans is_identifier
name-cleans [] holds = absurd (false≢true holds)
name-cleans (b ∷ bytes) holds =
    let outer = and_parts (not (is_ascii_digit b) && list_all is_word_byte (b ∷ bytes)) (not (is_among keywords (b ∷ bytes))) holds in
    let inner = and_parts (not (is_ascii_digit b)) (list_all is_word_byte (b ∷ bytes)) outer.0 in
    all-clean is_word_byte refl refl (b ∷ bytes) inner.1

trap-cleans : Cleans is_trap
unfolding trap_names
trap-cleans = one-cleans trap_names refl

fault-cleans : Cleans is_place_fault
unfolding place_faults
fault-cleans = one-cleans place_faults refl

minus-case : (b : ℕ) (word : List ℕ) (t : Bool) → (b == 45) ≡ t
    → (if t then is_number_up_to (2 ^ 31) word && not (is (codes "0") word) else is_number_up_to (2 ^ 31 - 1) (b ∷ word)) ≡ true → IsClean (b ∷ word)
minus-case b word true same holds =
    let rest = number-cleans (2 ^ 31) word (and_parts (is_number_up_to (2 ^ 31) word) (not (is (codes "0") word)) holds).0 in
    subst (λ c. IsClean (c ∷ word)) (sym (eqb-true b 45 same)) rest
minus-case b word false other holds = number-cleans (2 ^ 31 - 1) (b ∷ word) holds

value-cleans : Cleans is_value
unfolding is_value
value-cleans [] holds = absurd (false≢true holds)
value-cleans (b ∷ word) holds = minus-case b word (b == 45) refl holds

-- ---- forms

abbrev AllClean : Form → Type 0
AllClean form = AllByRecursion Cleans form

of-clean : (form : Form) (words : Words) → AllClean form → is_of form words ≡ true → AreClean words
of-clean [] [] all holds = tt
of-clean [] (word ∷ words) all holds = absurd (false≢true holds)
of-clean (may ∷ form) [] all holds = absurd (false≢true holds)
of-clean (may ∷ form) (word ∷ words) all holds =
    let parts = and_parts (may word) (is_of form words) holds in (all.0 word parts.0, of-clean form words all.1 parts.1)

either-clean : (form : Form) (words : Words) (b other : Bool) → is_of form words ≡ b → AllClean form → (b || other) ≡ true
    → (other ≡ true → AreClean words) → AreClean words
either-clean form words true other holds all one rest = of-clean form words all holds
either-clean form words false other lacks all one rest = rest one

of-one-clean : (forms : List Form) (words : Words) → AllByRecursion AllClean forms → is_of_one forms words ≡ true → AreClean words
of-one-clean [] words all holds = absurd (false≢true holds)
of-one-clean (form ∷ forms) words all holds =
    either-clean form words (is_of form words) (is_of_one forms words) refl all.0 holds (of-one-clean forms words all.1)

request-cleans : (kit : Kit) → AllClean (request kit)
request-cleans First = (word-cleans (codes "ask") refl, (number-cleans (2 ^ 64 - 1), tt))
request-cleans Second = (word-cleans (codes "ask") refl, (number-cleans (2 ^ 64 - 1), (number-cleans 65, tt)))

progress-cleans : AllByRecursion AllClean progress
progress-cleans =
    let number = number-cleans (2 ^ 64 - 1) in (
      (word-cleans (codes "close") refl, (number, (word-cleans (codes "ok") refl, (number, tt)))),
      ((word-cleans (codes "main") refl, (number, tt)), ((word-cleans (codes "back") refl, (number, tt)), tt)),
    )

refused-cleans : (form : Form) → AllClean form → AllClean (refused form)
refused-cleans form all = (word-cleans (codes "close") refl, (number-cleans (2 ^ 64 - 1), (word-cleans (codes "refused") refl, all)))

refusals-clean : AllByRecursion AllClean refusals
refusals-clean =
    let number = number-cleans (2 ^ 64 - 1) in
    let thread = number-cleans 64 in
    let rule = word-cleans (codes "rule") refl in
    let g = word-cleans (codes "g") refl in
    let a = word-cleans (codes "a") refl in
    let l = word-cleans (codes "l") refl in
    let h = word-cleans (codes "h") refl in (
      refused-cleans (is (codes "held") ∷ []) (word-cleans (codes "held") refl, tt),
      (
        refused-cleans (is (codes "size") ∷ []) (word-cleans (codes "size") refl, tt),
        (
          refused-cleans (is (codes "point") ∷ is_thread ∷ []) (word-cleans (codes "point") refl, (thread, tt)),
          (
            refused-cleans (is (codes "entry") ∷ is_thread ∷ []) (word-cleans (codes "entry") refl, (thread, tt)),
            (
              refused-cleans (is_place_fault ∷ is (codes "g") ∷ is_identifier ∷ is_number ∷ []) (fault-cleans, (g, (name-cleans, (number, tt)))),
              (
                refused-cleans (is_place_fault ∷ is (codes "a") ∷ is_thread ∷ []) (fault-cleans, (a, (thread, tt))),
                (
                  refused-cleans (is_place_fault ∷ is (codes "l") ∷ is_thread ∷ is_identifier ∷ is_identifier ∷ []) (fault-cleans, (l, (thread, (name-cleans, (name-cleans, tt))))),
                  (
                    refused-cleans (is_place_fault ∷ is (codes "h") ∷ is_number ∷ is_number ∷ []) (fault-cleans, (h, (number, (number, tt)))),
                    (
                      refused-cleans (is (codes "rule") ∷ is (codes "g") ∷ is_identifier ∷ is_number ∷ is_trap ∷ []) (rule, (g, (name-cleans, (number, (trap-cleans, tt))))),
                      (
                        refused-cleans (is (codes "rule") ∷ is (codes "a") ∷ is_thread ∷ is_trap ∷ []) (rule, (a, (thread, (trap-cleans, tt)))),
                        (
                          refused-cleans (is (codes "rule") ∷ is (codes "l") ∷ is_thread ∷ is_identifier ∷ is_identifier ∷ is_trap ∷ []) (rule, (l, (thread, (name-cleans, (name-cleans, (trap-cleans, tt)))))),
                          (refused-cleans (is (codes "rule") ∷ is (codes "h") ∷ is_number ∷ is_number ∷ is_trap ∷ []) (rule, (h, (number, (number, (trap-cleans, tt))))), tt),
                        ),
                      ),
                    ),
                  ),
                ),
              ),
            ),
          ),
        ),
      ),
    )

three-clean : (words : Words) (a b c : Bool) → (a ≡ true → AreClean words) → (b ≡ true → AreClean words) → (c ≡ true → AreClean words) → ((a || b) || c) ≡ true → AreClean words
three-clean words true b c fa fb fc holds = fa refl
three-clean words false true c fa fb fc holds = fb refl
three-clean words false false c fa fb fc holds = fc holds

pub mark-clean : (kit : Kit) (words : Words) → is_mark kit words ≡ true → AreClean words
mark-clean kit words holds =
    three-clean words (is_of (request kit) words) (is_of_one progress words) (is_of_one refusals words)
    (of-clean (request kit) words (request-cleans kit))
    (of-one-clean progress words progress-cleans)
    (of-one-clean refusals words refusals-clean)
    holds

pub mark-some : (kit : Kit) (words : Words) → is_mark kit words ≡ true → IsSomeWords words
mark-some First [] holds = absurd (false≢true holds)
mark-some Second [] holds = absurd (false≢true holds)
mark-some kit (word ∷ words) holds = refl

pub end-clean : (words : Words) → is_end words ≡ true → AreClean words
end-clean words holds =
    let last = word-cleans (codes "end") refl in
    of-one-clean ends words (
      (last, (word-cleans (codes "main") refl, (value-cleans, tt))),
      (
        (last, (word-cleans (codes "trap") refl, (number-cleans 64, (trap-cleans, tt)))),
        (
          (last, (word-cleans (codes "stuck") refl, tt)),
          ((last, (word-cleans (codes "budget") refl, tt)), tt),
        ),
      ),
    )
    holds

pub end-some : (words : Words) → is_end words ≡ true → IsSomeWords words
end-some [] holds = absurd (false≢true holds)
end-some (word ∷ words) holds = refl
