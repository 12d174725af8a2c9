-- The words of a line, the line that words make, and the lines of a text.
use Rattle.std.proofs.Common.{◌≡◌, ℕ, ◌+◌, ◌<◌, ◌≤◌, Bool, true, false, ◌||◌, eqb-true, List, [], ◌∷◌, ◌++◌, length, get_or, take, drop, refl, ap, sym, subst, ◌∙◌, append_assoc}
use Rattle.std.specs.Prelude.{◌==◌, if◌then◌else◌}
use Rattle.std.specs.List.{list_any, join_with_byte, AllByRecursion}
use Rattle.std.proofs.lemmas.Bool.{false≢true}
use Rattle.std.proofs.lemmas.List.{drop_more, take-append-drop, take_all}
use Rattle.std.proofs.lemmas.List.Folds.{list_any-append, list_any_more}
use Rattle.kt_text.specs.Lines.{line_of}
use Rattle.kt_journal.specs.Grammar.{Words, is_of}
use Rattle.kt_journal.specs.Journal.{StandsAt}
use Rattle.kt_journal.specs.Reading.{with_byte, split}

-- the byte stands among these
abbrev pub has : ℕ → List ℕ → Bool
has byte bytes = list_any (λ b. b == byte) bytes

-- a word has neither a space nor a newline
abbrev pub IsClean : List ℕ → Type 0
IsClean word = (has 32 word ≡ false) × (has 10 word ≡ false)

abbrev pub AreClean : Words → Type 0
AreClean words = AllByRecursion IsClean words

-- at least one word
abbrev pub IsSomeWords : Words → Type 0
IsSomeWords words = is_of [] words ≡ false

pub or-parts : (x y : Bool) → (x || y) ≡ false → (x ≡ false) × (y ≡ false)
or-parts true y lacks = absurd (false≢true (sym lacks))
or-parts false y lacks = (refl, lacks)

-- ---- a search for a byte

pub found : (bytes : List ℕ) (byte i : ℕ) → i < length bytes → get_or bytes i 0 ≡ byte → bytes ≡ take i bytes ++ byte ∷ drop (i + 1) bytes
found bytes byte i h is =
    sym (take-append-drop i bytes) ∙ ap (λ rest. take i bytes ++ rest) (drop_more bytes i 0 h ∙ ap (λ b. b ∷ drop (i + 1) bytes) is)

pub not_yet : (bytes : List ℕ) (byte i : ℕ) → i < length bytes → has byte (take i bytes) ≡ false → (get_or bytes i 0 == byte) ≡ false → has byte (take (i + 1) bytes) ≡ false
not_yet bytes byte i h before here =
    list_any_more (λ b. b == byte) bytes i 0 h ∙ ap (λ b. b || (get_or bytes i 0 == byte)) before ∙ here

pub nowhere : (bytes : List ℕ) (byte i : ℕ) → length bytes ≤ i → has byte (take i bytes) ≡ false → has byte bytes ≡ false
nowhere bytes byte i h before = ap (has byte) (sym (take_all i bytes h)) ∙ before

-- ---- words

pub split_word : (word : List ℕ) → has 32 word ≡ false → split word ≡ word ∷ []
split_word [] lacks = refl
split_word (b ∷ word) lacks =
    let parts = or-parts (b == 32) (has 32 word) lacks in
    let here : (b == 32) ≡ false = parts.0 in
    rw here (ap (with_byte b) (split_word word parts.1))

pub split_append : (word rest : List ℕ) → has 32 word ≡ false → split (word ++ 32 ∷ rest) ≡ word ∷ split rest
split_append [] rest lacks = refl
split_append (b ∷ word) rest lacks =
    let parts = or-parts (b == 32) (has 32 word) lacks in
    let here : (b == 32) ≡ false = parts.0 in
    rw here (ap (with_byte b) (split_append word rest parts.1))

with_byte-some : (b : ℕ) (words : Words) → IsSomeWords (with_byte b words)
with_byte-some b [] = refl
with_byte-some b (word ∷ words) = refl

pub split-some : (bytes : List ℕ) → IsSomeWords (split bytes)
split-some [] = refl
split-some (b ∷ bytes) =
    elim (b == 32) as (λ t. IsSomeWords (if t then [] ∷ split bytes else with_byte b (split bytes))) [ true ↦ refl | false ↦ with_byte-some b (split bytes) ]

join-byte : (b : ℕ) (words : Words) → IsSomeWords words → join_with_byte 32 (with_byte b words) ≡ b ∷ join_with_byte 32 words
join-byte b [] some = absurd (false≢true (sym some))
join-byte b (word ∷ []) some = refl
join-byte b (word ∷ (next ∷ words)) some = refl

join-space : (words : Words) → IsSomeWords words → join_with_byte 32 ([] ∷ words) ≡ 32 ∷ join_with_byte 32 words
join-space [] some = absurd (false≢true (sym some))
join-space (word ∷ words) some = refl

join-case : (b : ℕ) (bytes : List ℕ) (t : Bool) → (b == 32) ≡ t → join_with_byte 32 (split bytes) ≡ bytes
    → join_with_byte 32 (if t then [] ∷ split bytes else with_byte b (split bytes)) ≡ b ∷ bytes
join-case b bytes true is rest =
    join-space (split bytes) (split-some bytes) ∙ ap (λ r. 32 ∷ r) rest ∙ ap (λ c. c ∷ bytes) (sym (eqb-true b 32 is))
join-case b bytes false is rest = join-byte b (split bytes) (split-some bytes) ∙ ap (λ r. b ∷ r) rest

-- a line is what its words make
pub split-join : (line : List ℕ) → join_with_byte 32 (split line) ≡ line
split-join [] = refl
split-join (b ∷ line) = join-case b line (b == 32) refl (split-join line)

-- words are those of the line that they make
pub words-split : (words : Words) → AreClean words → IsSomeWords words → split (join_with_byte 32 words) ≡ words
words-split [] clean some = absurd (false≢true (sym some))
words-split (word ∷ []) clean some = split_word word clean.0.0
words-split (word ∷ (next ∷ words)) clean some =
    split_append word (join_with_byte 32 (next ∷ words)) clean.0.0 ∙ ap (λ rest. word ∷ rest) (words-split (next ∷ words) clean.1 refl)

pub join-clean : (words : Words) → AreClean words → has 10 (join_with_byte 32 words) ≡ false
join-clean [] clean = refl
join-clean (word ∷ []) clean = clean.0.1
join-clean (word ∷ (next ∷ words)) clean =
    list_any-append (λ b. b == 10) word (32 ∷ join_with_byte 32 (next ∷ words))
    ∙ ap (λ t. t || has 10 (32 ∷ join_with_byte 32 (next ∷ words))) clean.0.1
    ∙ join-clean (next ∷ words) clean.1

-- ---- lines

pub cut-once : (a b x y : List ℕ) → has 10 a ≡ false → has 10 b ≡ false → a ++ 10 ∷ x ≡ b ++ 10 ∷ y → (a ≡ b) × (x ≡ y)
cut-once [] [] x y lacks none is = let rest : x ≡ y = cc in (refl, rest)
cut-once [] (d ∷ b) x y lacks none is =
    let head : d ≡ 10 = cc in
    absurd (false≢true (sym (subst (λ e. has 10 (e ∷ b) ≡ false) head none)))
cut-once (c ∷ a) [] x y lacks none is =
    let head : c ≡ 10 = cc in
    absurd (false≢true (sym (subst (λ e. has 10 (e ∷ a) ≡ false) head lacks)))
cut-once (c ∷ a) (d ∷ b) x y lacks none is =
    let rest : a ++ 10 ∷ x ≡ b ++ 10 ∷ y = cc in
    let both = cut-once a b x y (or-parts (c == 10) (has 10 a) lacks).1 (or-parts (d == 10) (has 10 b) none).1 rest in
    let same : a ≡ b = both.0 in
    let whole : c ∷ a ≡ d ∷ b = cc in (whole, both.1)

pub line-split : (line rest : List ℕ) → line ++ 10 ∷ rest ≡ line_of (split line) ++ rest
unfolding line_of
line-split line rest = sym (append_assoc line (10 ∷ []) rest) ∙ ap (λ l. (l ++ 10 ∷ []) ++ rest) (sym (split-join line))

pub line-whole : (words : Words) (rest : List ℕ) → line_of words ++ rest ≡ join_with_byte 32 words ++ 10 ∷ rest
unfolding line_of
line-whole words rest = append_assoc (join_with_byte 32 words) (10 ∷ []) rest

-- two lines at one front have the same words
pub lines-once : (ws vs : Words) (x y : List ℕ) → AreClean ws → AreClean vs → IsSomeWords ws → IsSomeWords vs → line_of ws ++ x ≡ line_of vs ++ y → (ws ≡ vs) × (x ≡ y)
lines-once ws vs x y clean clear some others is =
    let both = cut-once (join_with_byte 32 ws) (join_with_byte 32 vs) x y (join-clean ws clean) (join-clean vs clear) (sym (line-whole ws x) ∙ is ∙ line-whole vs y) in
    (sym (words-split ws clean some) ∙ ap split both.0 ∙ words-split vs clear others, both.1)

-- the words that stand at the front are those of the first line
pub stands-words : (text line behind : List ℕ) (words : Words) → has 10 line ≡ false → text ≡ line ++ 10 ∷ behind → AreClean words → IsSomeWords words → StandsAt words text → split line ≡ words
stands-words text line behind words lacks is clean some stands =
    let both = cut-once line (join_with_byte 32 words) behind stands.0 lacks (join-clean words clean) (sym is ∙ stands.1 ∙ line-whole words stands.0) in
    ap split both.0 ∙ words-split words clean some

or-true : (b : Bool) → (b || true) ≡ true
or-true true = refl
or-true false = refl

-- where there is no newline there is no line
pub stands-nowhere : (text : List ℕ) (words : Words) → has 10 text ≡ false → StandsAt words text → ⊥
stands-nowhere text words lacks stands =
    let all = join_with_byte 32 words in
    let has_one : has 10 text ≡ true =
    ap (has 10) (stands.1 ∙ line-whole words stands.0) ∙ list_any-append (λ b. b == 10) all (10 ∷ stands.0) ∙ or-true (has 10 all)
    in
    false≢true (sym lacks ∙ has_one)
