-- What the front of bytes that are known is: the whole of a gap or of a spelling, or the fault.
use Rattle.std.proofs.Common.{◌≡◌, ℕ, ◌+◌, ◌-◌, ◌*◌, ◌<◌, ◌≤◌, zero, suc, Bool, true, false, cond, not, ◌&&◌, ◌||◌, eqb, inl, inr, List, [], ◌∷◌, ◌++◌, length, take, drop, Option, Some, None, Result, Ok, Err, sym, refl, ap, ◌∙◌, subst, arith, append_assoc, length-append}
use Rattle.std.specs.Prelude.{nat_eq, nat_lt, codes, slice_index}
use Rattle.std.specs.Option.{option_map, option_and_then, is_some}
use Rattle.kt_lex.specs.Numbers.{value_behind, value_in, at_most_greatest, is_hexadecimal, has_leading_zero, value_of_digits, has_suffix, without_suffix, number_value}
use Rattle.std.specs.List.{prefix_len, starts_with, list_all, AllByRecursion}
use Rattle.std.specs.Char.{digit_value, is_digit, is_ascii_digit}
use Rattle.std.specs.Str.{bytes_eq}
use Rattle.std.proofs.Math.Seq.{take-append_seam}
use Rattle.std.proofs.lemmas.Bool.{eqb-true, both_ways, and_parts, and_left, and_right, not-true, ne_eqb, or_cases, cases_Bool}
use Rattle.std.proofs.lemmas.Bool.Decides.{nat_tests}
use Rattle.std.proofs.lemmas.Slice.Eq.{bytes_eq-Decides}
use Rattle.kt_lex.specs.declared.token.Kind.{Kind}
use Rattle.kt_lex.specs.declared.token.Kind.TheVariants.{Identifier, Keyword, Number, Character, Text, RuleWord, Sign}
use Rattle.kt_lex.specs.declared.token.LexFault.{LexFault}
use Rattle.kt_lex.specs.declared.token.LexFault.TheVariants.{Byte, Literal, Directive}
use Rattle.kt_lex.specs.declared.front.Piece.{Piece}
use Rattle.kt_lex.specs.declared.front.Piece.TheVariants.{Gap, Word}
use Rattle.kt_lex.specs.Bytes.{is_indent, is_blank, is_newline, is_word_byte, hash, dollar, apostrophe, double_quote}
use Rattle.kt_lex.specs.Gaps.{line_length, comment_length, indent_length, is_include}
use Rattle.kt_lex.specs.Words.{word_length, is_among, keywords, rule_words, signs_of_one, signs_of_two, sign_length}
use Rattle.kt_lex.specs.Quotes.{body_length, character_in, bytes_in, character_value, string_value, begins_escape, escape_value, is_plain_character, is_plain_in_string, value_at, before_rest}
use Rattle.kt_lex.specs.Tokens.{is_indented, comment, directive, number, name, rule_word, quoted, sign, front, if_closed}
use Rattle.kt_lex.specs.Cover.{Part, Between, Spelled, IsPart, IsOneLine, IsGap, IsName, opens_comment, signs, spelling_of}
use Rattle.kt_lex.proofs.Signs.{chosen}
use Rattle.kt_lex.proofs.Fronts.{prefix_len-cons, begins, from_map, is_include-cons, line_length-cons, digit_is_word_byte, character_value-quoted, string_value-quoted}

-- ---- bytes

-- a byte of a class is none that the class lacks
pub other_byte : (class : ℕ → Bool) (b k : ℕ) → class k ≡ false → class b ≡ true → eqb b k ≡ false
other_byte class b k lacks has = ne_eqb b k (λ same. both_ways (class b) (ap class same ∙ lacks) has)

-- a class of bytes that begin neither a blank, a comment, nor a directive
pub record IsPlain (class : ℕ → Bool) : Type 0 where
  blank_9 : class 9 ≡ false
  blank_10 : class 10 ≡ false
  blank_13 : class 13 ≡ false
  blank_32 : class 32 ≡ false
  comment_47 : class 47 ≡ false
  hash_35 : class 35 ≡ false

-- which way a choice goes
pub goes_first : {A : Type 0} (b : Bool) (x y : A) → b ≡ true → cond b x y ≡ x
goes_first b x y h = ap (λ t. cond t x y) h

pub goes_second : {A : Type 0} (b : Bool) (x y : A) → b ≡ false → cond b x y ≡ y
goes_second b x y h = ap (λ t. cond t x y) h

-- what the front is, by its first byte, where neither a blank, a comment nor a directive begins
abbrev word_front : ℕ → ℕ → List ℕ → Result Piece LexFault
word_front at b bytes =
    cond (is_ascii_digit b) (number at bytes)
    (cond (is_word_byte b) (Ok (name bytes))
    (cond (eqb b dollar) (rule_word at bytes)
    (cond (eqb b apostrophe) (quoted at Character apostrophe (λ body. is_some (character_in body)) bytes)
    (cond (eqb b double_quote) (quoted at Text double_quote (λ body. is_some (bytes_in false body)) bytes)
    (sign at bytes)))))

-- neither part of a test passed
pub or_parts : (a b : Bool) → (a || b) ≡ false → (a ≡ false) × (b ≡ false)
or_parts true b h = absurd cc
or_parts false b h = (refl, h)

no_blank : (class : ℕ → Bool) → IsPlain class → (b : ℕ) → class b ≡ true → is_blank b ≡ false
no_blank class plain b has =
    let tab = other_byte class b 9 plain.blank_9 has in
    let newline = other_byte class b 10 plain.blank_10 has in
    let return = other_byte class b 13 plain.blank_13 has in
    let space = other_byte class b 32 plain.blank_32 has in
    rw (tab, newline, return, space) refl

pub word_front-is : (at : ℕ) (indented : Bool) (b : ℕ) (rest : List ℕ) → is_blank b ≡ false → opens_comment (b ∷ rest) ≡ false → eqb b hash ≡ false → front at indented (b ∷ rest) ≡ word_front at b (b ∷ rest)
unfolding front
word_front-is at indented b rest blank opens no_hash =
    let line = (or_parts (starts_with nat_eq (b ∷ rest) (codes "//")) (starts_with nat_eq (b ∷ rest) (codes "/*")) opens).0 in
    let block = (or_parts (starts_with nat_eq (b ∷ rest) (codes "//")) (starts_with nat_eq (b ∷ rest) (codes "/*")) opens).1 in
    rw (blank, line, block, no_hash) refl

-- ---- the longest front

-- where all of these bytes pass and none behind them, they are the longest front
prefix_whole : (p : ℕ → Bool) (bytes after : List ℕ) → AllByRecursion (λ b. p b ≡ true) bytes → prefix_len p after ≡ 0 → prefix_len p (bytes ++ after) ≡ length bytes
prefix_whole p [] after each ends = ends
prefix_whole p (b ∷ bytes) after each ends = prefix_len-cons p b (bytes ++ after) each.0 ∙ ap suc (prefix_whole p bytes after each.1 ends)

line_passes : (bytes : List ℕ) → IsOneLine bytes → AllByRecursion (λ b. not (is_newline b) ≡ true) bytes
line_passes [] each = tt
line_passes (b ∷ bytes) each = (ap not each.0, line_passes bytes each.1)

line_whole : (bytes after : List ℕ) → IsOneLine bytes → line_length after ≡ 0 → line_length (bytes ++ after) ≡ length bytes
unfolding line_length
line_whole bytes after each ends = prefix_whole (λ b. not (is_newline b)) bytes after (line_passes bytes each) ends

word_whole : (bytes after : List ℕ) → AllByRecursion (λ b. is_word_byte b ≡ true) bytes → word_length after ≡ 0 → word_length (bytes ++ after) ≡ length bytes
unfolding word_length
word_whole bytes after each ends = prefix_whole is_word_byte bytes after each ends

-- ---- gaps

-- the piece that a part is
abbrev pub piece_of : Part → Piece
piece_of (Between spelling) = Gap (length spelling)
piece_of (Spelled kind spelling) = Word kind (length spelling)

-- the front of a part and what follows it is the part
abbrev pub IsTaken : List ℕ → Part → List ℕ → Type 0
IsTaken before part after = front (length before) (is_indented before) (spelling_of part ++ after) ≡ Ok (piece_of part)

-- the bytes of a gap are taken as one
abbrev TakesGap : List ℕ → List ℕ → List ℕ → Type 0
TakesGap before bytes after = front (length before) (is_indented before) (bytes ++ after) ≡ Ok (Gap (length bytes))

takes_blank : (before : List ℕ) (b : ℕ) (after : List ℕ) → is_blank b ≡ true → TakesGap before (b ∷ []) after
unfolding front
takes_blank before b after h = rw (h) refl

takes_line : (before text after : List ℕ) → IsOneLine text → line_length after ≡ 0 → TakesGap before (47 ∷ 47 ∷ text) after
unfolding front
takes_line before text after each ends =
    let n : line_length (47 ∷ 47 ∷ (text ++ after)) ≡ suc (suc (length text)) =
    line_length-cons 47 (47 ∷ (text ++ after)) refl ∙ ap suc (line_length-cons 47 (text ++ after) refl) ∙ ap (λ k. suc (suc k)) (line_whole text after each ends) in
    ap (λ k. Ok (Gap k)) n

-- one byte is no end of a comment
single : (b : ℕ) → comment_length (b ∷ []) ≡ None
unfolding comment_length
single b = ap (λ t. cond t (Some 0) None) (and_right (eqb 42 b) false refl)

-- what stands behind the end of a comment changes nothing
comment_before : (bytes after : List ℕ) (n : ℕ) → comment_length bytes ≡ Some n → comment_length (bytes ++ after) ≡ Some n
unfolding comment_length
comment_before [] after n h = absurd (let e : ◌≡◌ {A = Option ℕ} None (Some n) = h in cc)
comment_before (b ∷ []) after n h = absurd (let e : ◌≡◌ {A = Option ℕ} None (Some n) = sym (single b) ∙ h in cc)
comment_before (b ∷ (c ∷ bytes)) after n h = elim (chosen {A = Option ℕ} (starts_with nat_eq (b ∷ (c ∷ bytes)) (codes "*/")) (Some 0) (option_map suc (comment_length (c ∷ bytes))) (Some n) h) [
  | inl w ↦ ap (λ t. cond t (Some 0) (option_map suc (comment_length (c ∷ (bytes ++ after))))) w.0 ∙ w.1
  | inr w ↦
      let before = from_map (comment_length (c ∷ bytes)) n w.1 in
      ap (λ t. cond t (Some 0) (option_map suc (comment_length (c ∷ (bytes ++ after))))) w.0
      ∙ ap (option_map suc) (comment_before (c ∷ bytes) after before.0 before.1)
      ∙ ap (λ k. Some k) before.2
]

takes_comment : (before text after : List ℕ) → comment_length (text ++ codes "*/") ≡ Some (length text) → TakesGap before (47 ∷ 42 ∷ (text ++ codes "*/")) after
unfolding front comment
takes_comment before text after h =
    let closes = comment_before (text ++ codes "*/") after (length text) h in
    let n : length text + 4 ≡ suc (suc (length (text ++ codes "*/"))) = omega (arith, length-append text (codes "*/")) in
    ap (if_closed (length before) (λ k. Ok (Gap (k + 4)))) closes ∙ ap (λ k. Ok (Gap k)) n

-- what stands behind the word `include` changes nothing
include_before : (text after : List ℕ) → is_include text ≡ true → is_include (text ++ after) ≡ true
unfolding is_include indent_length
include_before [] after h = absurd (let e : false ≡ true = h in cc)
include_before (b ∷ text) after h = elim (chosen {A = ℕ} (is_indent b) (1 + indent_length text) 0 (indent_length (b ∷ text)) refl) [
  | inl w ↦ is_include-cons b (text ++ after) w.0 ∙ include_before text after (sym (is_include-cons b text w.0) ∙ h)
  | inr w ↦
      let stands : starts_with nat_eq (b ∷ text) (codes "include") ≡ true = ap (λ n. starts_with nat_eq (drop n (b ∷ text)) (codes "include")) w.1 ∙ h in
      subst (λ l. is_include (l ++ after) ≡ true) (sym (begins (codes "include") (b ∷ text) stands)) refl
]

takes_skipped : (before text after : List ℕ) → is_indented before ≡ true → is_include text ≡ true → IsOneLine text → line_length after ≡ 0 → TakesGap before (35 ∷ text) after
unfolding front directive
takes_skipped before text after indented include each ends =
    let is = include_before text after include in
    let n = line_length-cons 35 (text ++ after) refl ∙ ap suc (line_whole text after each ends) in
    ap (λ t. directive (length before) t (35 ∷ (text ++ after))) indented
    ∙ ap (λ t. cond t (Ok (Gap (line_length (35 ∷ (text ++ after))))) (Err (Directive (length before)))) is
    ∙ ap (λ k. Ok (Gap k)) n

takes_gap : (before bytes after : List ℕ) → IsGap before bytes after → TakesGap before bytes after
takes_gap before bytes after (inl g) = subst (λ l. TakesGap before l after) (sym g.1) (takes_blank before g.0 after g.2)
takes_gap before bytes after (inr (inl g)) = subst (λ l. TakesGap before l after) (sym g.1) (takes_line before g.0 after g.2 g.3)
takes_gap before bytes after (inr (inr (inl g))) = subst (λ l. TakesGap before l after) (sym g.1) (takes_comment before g.0 after g.2)
takes_gap before bytes after (inr (inr (inr g))) = subst (λ l. TakesGap before l after) (sym g.1.1) (takes_skipped before g.1.0 after g.0 g.1.2 g.1.3 g.1.4)

-- ---- words

-- the bytes of a spelling are taken as a token of its kind
abbrev Takes : List ℕ → Kind → List ℕ → List ℕ → Type 0
Takes before kind bytes after = front (length before) (is_indented before) (bytes ++ after) ≡ Ok (Word kind (length bytes))

pub word_is_plain : IsPlain is_word_byte
word_is_plain = record { blank_9 = refl; blank_10 = refl; blank_13 = refl; blank_32 = refl; comment_47 = refl; hash_35 = refl }

-- a byte that begins no comment
pub no_comment_opens : (b : ℕ) (rest : List ℕ) → eqb 47 b ≡ false → opens_comment (b ∷ rest) ≡ false
no_comment_opens b [] h = rw (h) refl
no_comment_opens b (c ∷ rest) h = rw (h) refl

pub plain_front : (class : ℕ → Bool) → IsPlain class → (at : ℕ) (indented : Bool) (b : ℕ) (rest : List ℕ) → class b ≡ true → front at indented (b ∷ rest) ≡ word_front at b (b ∷ rest)
plain_front class plain at indented b rest has =
    let no_hash = other_byte class b 35 plain.hash_35 has in
    let no_slash : eqb 47 b ≡ false = ne_eqb 47 b (λ same. both_ways (class b) (ap class (sym same) ∙ plain.comment_47) has) in
    word_front-is at indented b rest (no_blank class plain b has) (no_comment_opens b rest no_slash) no_hash

-- the first of the bytes of a word, which is no number
takes_name : (before : List ℕ) (b : ℕ) (bytes after : List ℕ) → AllByRecursion (λ c. is_word_byte c ≡ true) (b ∷ bytes) → is_ascii_digit b ≡ false → word_length after ≡ 0
    → front (length before) (is_indented before) ((b ∷ bytes) ++ after) ≡ Ok (cond (is_among keywords (b ∷ bytes)) (Word Keyword (length (b ∷ bytes))) (Word Identifier (length (b ∷ bytes))))
unfolding name
takes_name before b bytes after each letter ends =
    let n = word_whole (b ∷ bytes) after each ends in
    plain_front is_word_byte word_is_plain (length before) (is_indented before) b (bytes ++ after) each.0
    ∙ goes_second (is_ascii_digit b) _ _ letter
    ∙ goes_first (is_word_byte b) _ _ each.0
    ∙ ap (λ k. Ok (cond (is_among keywords (take k ((b ∷ bytes) ++ after))) (Word Keyword k) (Word Identifier k))) n
    ∙ ap (λ l. Ok (cond (is_among keywords l) (Word Keyword (length (b ∷ bytes))) (Word Identifier (length (b ∷ bytes))))) (take-append_seam (b ∷ bytes) after)

takes_identifier : (before bytes after : List ℕ) → IsName bytes → is_among keywords bytes ≡ false → word_length after ≡ 0 → Takes before Identifier bytes after
takes_identifier before [] after is other ends = absurd (omega (arith, is.0))
takes_identifier before (b ∷ bytes) after is other ends =
    takes_name before b bytes after is.1 is.2 ends ∙ ap (λ t. Ok (cond t (Word Keyword (length (b ∷ bytes))) (Word Identifier (length (b ∷ bytes))))) other

-- a test that passes at each word of a list passes at a word among it
each_among : (p : List ℕ → Bool) (words : List (List ℕ)) (word : List ℕ) → list_all p words ≡ true → is_among words word ≡ true → p word ≡ true
unfolding is_among
each_among p [] word each among = absurd cc
each_among p (w ∷ words) word each among = elim (or_cases (bytes_eq w word) (is_among words word) among) as (λ _. p word ≡ true) [
  | inl same ↦ ap p (sym ((bytes_eq-Decides w word).0 same)) ∙ (and_parts (p w) (list_all p words) each).0
  | inr later ↦ each_among p words word (and_parts (p w) (list_all p words) each).1 later
]

all_bytes : (p : ℕ → Bool) (bytes : List ℕ) → list_all p bytes ≡ true → AllByRecursion (λ b. p b ≡ true) bytes
all_bytes p [] h = tt
all_bytes p (b ∷ bytes) h = ((and_parts (p b) (list_all p bytes) h).0, all_bytes p bytes (and_parts (p b) (list_all p bytes) h).1)

-- letters, digits and underscores, of which the first is no digit
abbrev is_name_like : List ℕ → Bool
is_name_like bytes = list_all is_word_byte bytes && (nat_lt 0 (length bytes) && not (is_ascii_digit (slice_index bytes 0)))

keywords_are_names : list_all is_name_like keywords ≡ true
unfolding keywords
keywords_are_names = refl

takes_keyword : (before bytes after : List ℕ) → is_among keywords bytes ≡ true → word_length after ≡ 0 → Takes before Keyword bytes after
takes_keyword before [] after among ends =
    absurd (let e : false ≡ true = each_among is_name_like keywords [] keywords_are_names among in cc)
takes_keyword before (b ∷ bytes) after among ends =
    let like = and_parts (list_all is_word_byte (b ∷ bytes)) _ (each_among is_name_like keywords (b ∷ bytes) keywords_are_names among) in
    let letter = not-true (is_ascii_digit b) (and_parts _ _ like.1).1 in
    takes_name before b bytes after (all_bytes is_word_byte (b ∷ bytes) like.0) letter ends
    ∙ ap (λ t. Ok (cond t (Word Keyword (length (b ∷ bytes))) (Word Identifier (length (b ∷ bytes))))) among

rule_words_are_names : list_all (list_all is_word_byte) rule_words ≡ true
unfolding rule_words
rule_words_are_names = refl

takes_rule_word : (before word after : List ℕ) → is_among rule_words word ≡ true → word_length after ≡ 0 → Takes before RuleWord (36 ∷ word) after
unfolding front rule_word
takes_rule_word before word after among ends =
    let n = word_whole word after (all_bytes is_word_byte word (each_among (list_all is_word_byte) rule_words word rule_words_are_names among)) ends in
    let stands : is_among rule_words (take (word_length (word ++ after)) (word ++ after)) ≡ true = ap (λ k. is_among rule_words (take k (word ++ after))) n ∙ ap (is_among rule_words) (take-append_seam word after) ∙ among in
    ap (λ t. cond t (Ok (Word RuleWord (1 + word_length (word ++ after)))) (Err (Byte (length before)))) stands
    ∙ ap (λ k. Ok (Word RuleWord k)) (let e : 1 + word_length (word ++ after) ≡ suc (length word) = omega (arith, n) in e)

-- ---- signs

-- the first byte begins a sign and nothing else
abbrev begins_sign_only : ℕ → Bool
begins_sign_only b = not (is_word_byte b) && (not (is_blank b) && (not (eqb b 35) && (not (eqb b 36) && (not (eqb b 39) && not (eqb b 34)))))

abbrev is_sign_like : List ℕ → Bool
is_sign_like bytes = nat_lt 0 (length bytes) && begins_sign_only (slice_index bytes 0)

signs_are_signs : list_all is_sign_like signs ≡ true
unfolding signs signs_of_one signs_of_two
signs_are_signs = refl

-- a digit is a word's byte, so a byte that is none is no digit
pub no_digit : (b : ℕ) → is_word_byte b ≡ false → is_ascii_digit b ≡ false
no_digit b h = elim (cases_Bool (is_ascii_digit b)) as (λ _. is_ascii_digit b ≡ false) [
  | inl digit ↦ absurd (both_ways (is_word_byte b) h (digit_is_word_byte b digit))
  | inr other ↦ other
]

sign_front : (at : ℕ) (indented : Bool) (b : ℕ) (rest : List ℕ) → begins_sign_only b ≡ true → opens_comment (b ∷ rest) ≡ false → front at indented (b ∷ rest) ≡ sign at (b ∷ rest)
sign_front at indented b rest h plain =
    let word = and_parts (not (is_word_byte b)) _ h in
    let blank = and_parts (not (is_blank b)) _ word.1 in
    let is_hash = and_parts (not (eqb b 35)) _ blank.1 in
    let is_dollar = and_parts (not (eqb b 36)) _ is_hash.1 in
    let quotes = and_parts (not (eqb b 39)) (not (eqb b 34)) is_dollar.1 in
    let no_word = not-true (is_word_byte b) word.0 in
    word_front-is at indented b rest (not-true (is_blank b) blank.0) plain (not-true (eqb b 35) is_hash.0)
    ∙ goes_second (is_ascii_digit b) _ _ (no_digit b no_word)
    ∙ goes_second (is_word_byte b) _ _ no_word
    ∙ goes_second (eqb b 36) _ _ (not-true (eqb b 36) is_dollar.0)
    ∙ goes_second (eqb b 39) _ _ (not-true (eqb b 39) quotes.0)
    ∙ goes_second (eqb b 34) _ _ (not-true (eqb b 34) quotes.1)

takes_sign : (before bytes after : List ℕ) → is_among signs bytes ≡ true → opens_comment (bytes ++ after) ≡ false → sign_length (bytes ++ after) ≡ length bytes → Takes before Sign bytes after
unfolding sign
takes_sign before [] after among plain longest = absurd (let e : false ≡ true = each_among is_sign_like signs [] signs_are_signs among in cc)
takes_sign before (b ∷ bytes) after among plain longest =
    let like = (and_parts (nat_lt 0 (length (b ∷ bytes))) (begins_sign_only b) (each_among is_sign_like signs (b ∷ bytes) signs_are_signs among)).1 in
    sign_front (length before) (is_indented before) b (bytes ++ after) like plain
    ∙ ap (λ n. cond (eqb n 0) (Err (Byte (length before))) (Ok (Word Sign n))) longest
    ∙ goes_second (eqb (suc (length bytes)) 0) _ _ (ne_eqb (suc (length bytes)) 0 (λ none. omega (arith, none)))

-- ---- quotes

-- a closed quote, by what its body is
takes_quoted : (at : ℕ) (kind : Kind) (quote : ℕ) (is_body : List ℕ → Bool) (body after : List ℕ) → body_length quote false (body ++ quote ∷ after) ≡ Some (length body) → is_body body ≡ true
    → quoted at kind quote is_body (quote ∷ (body ++ quote ∷ after)) ≡ Ok (Word kind (length body + 2))
unfolding quoted
takes_quoted at kind quote is_body body after closes good =
    ap (if_closed at (λ n. cond (is_body (take n (body ++ quote ∷ after))) (Ok (Word kind (n + 2))) (Err (Literal at)))) closes
    ∙ goes_first (is_body (take (length body) (body ++ quote ∷ after))) _ _ (ap is_body (take-append_seam body (quote ∷ after)) ∙ good)

quoted_length : (quote : ℕ) (body : List ℕ) → length body + 2 ≡ length (quote ∷ (body ++ quote ∷ []))
quoted_length quote body = omega (arith, length-append body (quote ∷ []))

-- the byte of a character constant closes no quote, and ends no line
plain_character : (b : ℕ) → is_plain_character b ≡ true → (eqb b 10 ≡ false) × ((eqb b 39 ≡ false) × (eqb b 92 ≡ false))
unfolding is_plain_character
plain_character b h = (other_byte is_plain_character b 10 refl h, (other_byte is_plain_character b 39 refl h, other_byte is_plain_character b 92 refl h))

-- the end of a line stands for nothing behind a backslash
escape_ends_no_line : (c : ℕ) → is_some (escape_value c) ≡ true → eqb c 10 ≡ false
unfolding escape_value
escape_ends_no_line c h = other_byte (λ k. is_some (escape_value k)) c 10 refl h

-- behind an escaped byte the quote closes
escaped_quote : (c : ℕ) (after : List ℕ) → eqb c 10 ≡ false → body_length 39 false (92 ∷ (c ∷ (39 ∷ after))) ≡ Some 2
unfolding body_length
escaped_quote c after no_line =
    let ends = goes_second (eqb c 10) None _ no_line in
    let takes = goes_second (eqb c 39 && false) (Some 0) _ (and_right (eqb c 39) false refl) in
    let begins_none : begins_escape true c ≡ false = and_right (eqb c 92) false refl in
    ap (option_map suc) (ends ∙ takes ∙ ap (λ t. option_map suc (body_length 39 t (39 ∷ after))) begins_none)

character_closes : (body after : List ℕ) → is_some (character_in body) ≡ true → body_length 39 false (body ++ 39 ∷ after) ≡ Some (length body)
unfolding character_in body_length
character_closes [] after h = absurd (let e : false ≡ true = h in cc)
character_closes (b ∷ []) after h = elim (cases_Bool (is_plain_character b)) as (λ _. body_length 39 false (b ∷ (39 ∷ after)) ≡ Some 1) [
  | inl plain ↦ (let p = plain_character b plain in rw (p.0, p.1.0, p.1.1) refl)
  | inr other ↦ absurd (both_ways (is_some (character_in (b ∷ []))) (ap (λ t. is_some (cond t (Some b) None)) other) h)
]
character_closes (b ∷ (c ∷ [])) after h = elim (cases_Bool (eqb b 92)) as (λ _. body_length 39 false (b ∷ (c ∷ (39 ∷ after))) ≡ Some 2) [
  | inl is ↦
      let good : is_some (escape_value c) ≡ true = sym (ap (λ t. is_some (cond t (escape_value c) None)) is) ∙ h in
      let no_line = escape_ends_no_line c good in
      subst (λ k. body_length 39 false (k ∷ (c ∷ (39 ∷ after))) ≡ Some 2) (sym (eqb-true b 92 is)) (escaped_quote c after no_line)
  | inr other ↦ absurd (both_ways (is_some (character_in (b ∷ (c ∷ [])))) (ap (λ t. is_some (cond t (escape_value c) None)) other) h)
]
character_closes (b ∷ (c ∷ (d ∷ body))) after h = absurd (let e : false ≡ true = h in cc)

-- a byte that stands for itself in a string closes no quote, begins no escape and ends no line
plain_in_string : (b : ℕ) → is_plain_in_string b ≡ true → (eqb b 10 ≡ false) × ((eqb b 34 ≡ false) × (eqb b 92 ≡ false))
unfolding is_plain_in_string
plain_in_string b h = (other_byte is_plain_in_string b 10 refl h, (other_byte is_plain_in_string b 34 refl h, other_byte is_plain_in_string b 92 refl h))

-- what stands before the rest of a string, and the rest
before_some : (first : Option ℕ) (rest : Option (List ℕ)) → is_some (before_rest first rest) ≡ true → (is_some first ≡ true) × (is_some rest ≡ true)
before_some None rest h = absurd (let e : false ≡ true = h in cc)
before_some (Some b) None h = absurd (let e : false ≡ true = h in cc)
before_some (Some b) (Some bytes) h = (refl, refl)

-- a byte of a string that begins no escape is passed
passed : (escaped : Bool) (b : ℕ) (rest : List ℕ) (n : ℕ) → eqb b 10 ≡ false → (eqb b 34 && not escaped) ≡ false → begins_escape escaped b ≡ false → body_length 34 false rest ≡ Some n → body_length 34 escaped (b ∷ rest) ≡ Some (suc n)
unfolding body_length
passed escaped b rest n line quote none h =
    goes_second (eqb b 10) None _ line
    ∙ goes_second (eqb b 34 && not escaped) (Some 0) _ quote
    ∙ ap (λ t. option_map suc (body_length 34 t rest)) none
    ∙ ap (option_map suc) h

string_end : (after : List ℕ) → body_length 34 false (34 ∷ after) ≡ Some 0
unfolding body_length
string_end after = refl

string_escape : (body after : List ℕ) → body_length 34 true (body ++ 34 ∷ after) ≡ Some (length body) → body_length 34 false (92 ∷ (body ++ 34 ∷ after)) ≡ Some (suc (length body))
unfolding body_length
string_escape body after h = ap (option_map suc) h

value_plain : (b : ℕ) → is_some (value_at false b) ≡ true → is_plain_in_string b ≡ true
unfolding value_at
value_plain b h = elim (cases_Bool (is_plain_in_string b)) as (λ _. is_plain_in_string b ≡ true) [
  | inl is ↦ is
  | inr other ↦ absurd (both_ways (is_some (value_at false b)) (ap (λ t. is_some (cond t (Some b) None)) other) h)
]

string_closes : (escaped : Bool) (body after : List ℕ) → is_some (bytes_in escaped body) ≡ true → body_length 34 escaped (body ++ 34 ∷ after) ≡ Some (length body)
unfolding bytes_in value_at
string_closes true [] after h = absurd (let e : false ≡ true = h in cc)
string_closes false [] after h = string_end after
string_closes true (b ∷ body) after h =
    let none : begins_escape true b ≡ false = and_right (eqb b 92) false refl in
    let later = before_some (escape_value b) (bytes_in false body) (ap is_some (sym (goes_second (begins_escape true b) (bytes_in true body) (before_rest (escape_value b) (bytes_in false body)) none)) ∙ h) in
    passed true b (body ++ 34 ∷ after) (length body) (escape_ends_no_line b later.0) (and_right (eqb b 34) false refl) none (string_closes false body after later.1)
string_closes false (b ∷ body) after h = elim (cases_Bool (eqb b 92)) as (λ _. body_length 34 false (b ∷ (body ++ 34 ∷ after)) ≡ Some (suc (length body))) [
  | inl is ↦
      let more : is_some (bytes_in true body) ≡ true = ap is_some (sym (goes_first (begins_escape false b) (bytes_in true body) (before_rest (value_at false b) (bytes_in false body)) (ap (λ t. t && true) is))) ∙ h in
      subst (λ k. body_length 34 false (k ∷ (body ++ 34 ∷ after)) ≡ Some (suc (length body))) (sym (eqb-true b 92 is)) (string_escape body after (string_closes true body after more))
  | inr other ↦
      let none : begins_escape false b ≡ false = and_left (eqb b 92) true other in
      let later = before_some (value_at false b) (bytes_in false body) (ap is_some (sym (goes_second (begins_escape false b) (bytes_in true body) (before_rest (value_at false b) (bytes_in false body)) none)) ∙ h) in
      let plain = plain_in_string b (value_plain b later.0) in
      passed false b (body ++ 34 ∷ after) (length body) plain.0 (and_left (eqb b 34) true plain.1.0) none (string_closes false body after later.1)
]

takes_character : (before body after : List ℕ) → is_some (character_in body) ≡ true → Takes before Character (39 ∷ (body ++ 39 ∷ [])) after
unfolding front
takes_character before body after good =
    ap (λ l. quoted (length before) Character 39 (λ b. is_some (character_in b)) (39 ∷ l)) (append_assoc body (39 ∷ []) after)
    ∙ takes_quoted (length before) Character 39 (λ b. is_some (character_in b)) body after (character_closes body after good) good
    ∙ ap (λ n. Ok (Word Character n)) (quoted_length 39 body)

takes_text : (before body after : List ℕ) → is_some (bytes_in false body) ≡ true → Takes before Text (34 ∷ (body ++ 34 ∷ [])) after
unfolding front
takes_text before body after good =
    ap (λ l. quoted (length before) Text 34 (λ b. is_some (bytes_in false b)) (34 ∷ l)) (append_assoc body (34 ∷ []) after)
    ∙ takes_quoted (length before) Text 34 (λ b. is_some (bytes_in false b)) body after (string_closes false body after good) good
    ∙ ap (λ n. Ok (Word Text n)) (quoted_length 34 body)

-- ---- numbers

digit_is_word : (b base : ℕ) → base ≤ 36 → is_digit b base ≡ true → is_word_byte b ≡ true
digit_is_word b base small h = grind (arith, nat_tests)

decimal_digit : (b : ℕ) → is_digit b 10 ≡ true → is_ascii_digit b ≡ true
decimal_digit b h = grind (arith, nat_tests)

value_behind_digits : (base n : ℕ) (digits : List ℕ) → is_some (value_behind base n digits) ≡ true → AllByRecursion (λ b. is_digit b base ≡ true) digits
value_behind_digits base n [] h = tt
value_behind_digits base n (d ∷ digits) h = elim (cases_Bool (is_digit d base)) as (λ _. (is_digit d base ≡ true) × AllByRecursion (λ b. is_digit b base ≡ true) digits) [
  | inl is ↦ (is, value_behind_digits base (n * base + digit_value d) digits (ap is_some (sym (goes_first (is_digit d base) (value_behind base (n * base + digit_value d) digits) None is)) ∙ h))
  | inr other ↦ absurd (both_ways (is_some (value_behind base n (d ∷ digits))) (ap is_some (goes_second (is_digit d base) (value_behind base (n * base + digit_value d) digits) None other)) h)
]

and_then_some : {A B : Type 0} (f : A → Option B) (o : Option A) → is_some (option_and_then f o) ≡ true → is_some o ≡ true
and_then_some f None h = absurd (let e : false ≡ true = h in cc)
and_then_some f (Some x) h = refl

-- one or more digits
value_in_digits : (base : ℕ) (digits : List ℕ) → is_some (value_in base digits) ≡ true → (0 < length digits) × AllByRecursion (λ b. is_digit b base ≡ true) digits
unfolding value_in
value_in_digits base [] h = absurd (let e : false ≡ true = h in cc)
value_in_digits base (d ∷ digits) h = (omega arith, value_behind_digits base 0 (d ∷ digits) h)

digits_are_words : (base : ℕ) (digits : List ℕ) → base ≤ 36 → AllByRecursion (λ b. is_digit b base ≡ true) digits → AllByRecursion (λ b. is_word_byte b ≡ true) digits
digits_are_words base [] small each = tt
digits_are_words base (d ∷ digits) small each = (digit_is_word d base small each.0, digits_are_words base digits small each.1)

-- a word that begins with a digit
record IsNumberLike (bytes : List ℕ) : Type 0 where
  some : 0 < length bytes
  each : AllByRecursion (λ b. is_word_byte b ≡ true) bytes
  first : is_ascii_digit (slice_index bytes 0) ≡ true

hexadecimal_like : (digits : List ℕ) → is_hexadecimal digits ≡ true → is_some (value_in 16 (drop 2 digits)) ≡ true → IsNumberLike digits
unfolding is_hexadecimal
hexadecimal_like [] is h = absurd (let e : false ≡ true = is in cc)
hexadecimal_like (a ∷ []) is h = absurd (let e : false ≡ true = (and_parts (eqb a 48) false is).1 in cc)
hexadecimal_like (a ∷ (b ∷ digits)) is h =
    let marks = and_parts (eqb a 48) (eqb b 120 || eqb b 88) is in
    let small : 16 ≤ 36 = omega arith in
    let x : is_word_byte b ≡ true = elim (or_cases (eqb b 120) (eqb b 88) marks.1) as (λ _. is_word_byte b ≡ true) [
      | inl lower ↦ ap is_word_byte (eqb-true b 120 lower)
      | inr upper ↦ ap is_word_byte (eqb-true b 88 upper)
    ] in
    record {
      some = omega arith;
      each = (ap is_word_byte (eqb-true a 48 marks.0), (x, digits_are_words 16 digits small (value_in_digits 16 digits h).1));
      first = ap is_ascii_digit (eqb-true a 48 marks.0);
    }

decimal_like : (digits : List ℕ) → is_some (value_in 10 digits) ≡ true → IsNumberLike digits
unfolding value_in
decimal_like [] h = absurd (let e : false ≡ true = h in cc)
decimal_like (d ∷ digits) h =
    let each = value_behind_digits 10 0 (d ∷ digits) h in
    let small : 10 ≤ 36 = omega arith in
    record { some = omega arith; each = digits_are_words 10 (d ∷ digits) small each; first = decimal_digit d each.0 }

digits_like : (digits : List ℕ) → is_some (value_of_digits digits) ≡ true → IsNumberLike digits
unfolding value_of_digits
digits_like digits h = elim (cases_Bool (is_hexadecimal digits)) as (λ _. IsNumberLike digits) [
  | inl is ↦ hexadecimal_like digits is (and_then_some at_most_greatest (value_in 16 (drop 2 digits)) (ap is_some (sym (goes_first (is_hexadecimal digits) (option_and_then at_most_greatest (value_in 16 (drop 2 digits))) _ is)) ∙ h))
  | inr other ↦
      let decimal = ap is_some (sym (goes_second (is_hexadecimal digits) _ (cond (has_leading_zero digits) None (option_and_then at_most_greatest (value_in 10 digits))) other)) ∙ h in
      elim (cases_Bool (has_leading_zero digits)) as (λ _. IsNumberLike digits) [
        | inl zero_first ↦ absurd (both_ways (is_some (cond (has_leading_zero digits) None (option_and_then at_most_greatest (value_in 10 digits)))) (ap is_some (goes_first (has_leading_zero digits) None _ zero_first)) decimal)
        | inr plain ↦ decimal_like digits (and_then_some at_most_greatest (value_in 10 digits) (ap is_some (sym (goes_second (has_leading_zero digits) None _ plain)) ∙ decimal))
      ]
]

each_but_last : (n : ℕ) (bytes : List ℕ) → suc n ≡ length bytes → AllByRecursion (λ b. is_word_byte b ≡ true) (take n bytes) → is_word_byte (slice_index bytes n) ≡ true → AllByRecursion (λ b. is_word_byte b ≡ true) bytes
each_but_last n [] e each last = tt
each_but_last zero (b ∷ []) e each last = (last, tt)
each_but_last zero (b ∷ (c ∷ bytes)) e each last = absurd (omega (arith, e))
each_but_last (suc n) (b ∷ bytes) e each last = let shorter : suc n ≡ length bytes = omega (arith, e) in (each.0, each_but_last n bytes shorter each.1 last)

suffixed_like : (n : ℕ) (bytes : List ℕ) → suc n ≡ length bytes → IsNumberLike (take n bytes) → is_word_byte (slice_index bytes n) ≡ true → IsNumberLike bytes
suffixed_like zero bytes e like last = absurd (omega (arith, like.some))
suffixed_like (suc n) [] e like last = absurd (omega (arith, e))
suffixed_like (suc n) (b ∷ bytes) e like last = record { some = omega arith; each = each_but_last (suc n) (b ∷ bytes) e like.each last; first = like.first }

number_like : (bytes : List ℕ) → is_some (number_value bytes) ≡ true → IsNumberLike bytes
unfolding number_value without_suffix has_suffix
number_like [] h = digits_like [] (and_then_some _ (value_of_digits (without_suffix [])) h)
number_like (b ∷ bytes) h =
    let word = b ∷ bytes in
    let digits = and_then_some _ (value_of_digits (without_suffix word)) h in
    elim (cases_Bool (has_suffix word)) as (λ _. IsNumberLike word) [
      | inl is ↦
          let last : is_word_byte (slice_index word (length word - 1)) ≡ true = elim (or_cases (eqb (slice_index word (length word - 1)) 76) (eqb (slice_index word (length word - 1)) 108) is) as (λ _. is_word_byte (slice_index word (length word - 1)) ≡ true) [
            | inl upper ↦ ap is_word_byte (eqb-true _ 76 upper)
            | inr lower ↦ ap is_word_byte (eqb-true _ 108 lower)
          ] in
          suffixed_like (length word - 1) word (omega arith) (digits_like (take (length word - 1) word) (ap (λ l. is_some (value_of_digits l)) (sym (goes_first (has_suffix word) (take (length word - 1) word) word is)) ∙ digits)) last
      | inr other ↦ digits_like word (ap (λ l. is_some (value_of_digits l)) (sym (goes_second (has_suffix word) (take (length word - 1) word) word other)) ∙ digits)
    ]

takes_number : (before bytes after : List ℕ) → is_some (number_value bytes) ≡ true → word_length after ≡ 0 → Takes before Number bytes after
unfolding number
takes_number before [] after h ends = absurd (omega (arith, (number_like [] h).some))
takes_number before (b ∷ bytes) after h ends =
    let like = number_like (b ∷ bytes) h in
    let n = word_whole (b ∷ bytes) after like.each ends in
    plain_front is_word_byte word_is_plain (length before) (is_indented before) b (bytes ++ after) like.each.0
    ∙ goes_first (is_ascii_digit b) _ _ like.first
    ∙ ap (λ k. cond (is_some (number_value (take k ((b ∷ bytes) ++ after)))) (Ok (Word Number k)) (Err (Literal (length before)))) n
    ∙ goes_first (is_some (number_value (take (length (b ∷ bytes)) ((b ∷ bytes) ++ after)))) _ _ (ap (λ l. is_some (number_value l)) (take-append_seam (b ∷ bytes) after) ∙ h)

-- ---- parts

pub takes_part : (before : List ℕ) (part : Part) (after : List ℕ) → IsPart before part after → IsTaken before part after
takes_part before (Between spelling) after is = takes_gap before spelling after is
takes_part before (Spelled Identifier spelling) after is = takes_identifier before spelling after is.0.0 is.0.1 is.1
takes_part before (Spelled Keyword spelling) after is = takes_keyword before spelling after is.0 is.1
takes_part before (Spelled Number spelling) after is = takes_number before spelling after is.0 is.1
takes_part before (Spelled Character spelling) after is =
    subst (λ l. Takes before Character l after) (sym is.0.0.1)
    (takes_character before is.0.0.0 after (sym (ap is_some (character_value-quoted 39 is.0.0.0)) ∙ sym (ap (λ l. is_some (character_value l)) is.0.0.1) ∙ is.0.1))
takes_part before (Spelled Text spelling) after is =
    subst (λ l. Takes before Text l after) (sym is.0.0.1)
    (takes_text before is.0.0.0 after (sym (ap is_some (string_value-quoted 34 is.0.0.0)) ∙ sym (ap (λ l. is_some (string_value l)) is.0.0.1) ∙ is.0.1))
takes_part before (Spelled RuleWord spelling) after is = subst (λ l. Takes before RuleWord l after) (sym is.0.1) (takes_rule_word before is.0.0 after is.0.2 is.1)
takes_part before (Spelled Sign spelling) after is = takes_sign before spelling after is.0 is.1.0 is.1.1

some_bytes : (bytes other : List ℕ) → bytes ≡ other → 0 < length other → 0 < length bytes
some_bytes bytes other e h = subst (λ l. 0 < length l) (sym e) h

pub part_takes_some : (before : List ℕ) (part : Part) (after : List ℕ) → IsPart before part after → 0 < length (spelling_of part)
part_takes_some before (Between spelling) after (inl g) = some_bytes spelling _ g.1 (omega arith)
part_takes_some before (Between spelling) after (inr (inl g)) = some_bytes spelling _ g.1 (omega arith)
part_takes_some before (Between spelling) after (inr (inr (inl g))) = some_bytes spelling _ g.1 (omega arith)
part_takes_some before (Between spelling) after (inr (inr (inr g))) = some_bytes spelling _ g.1.1 (omega arith)
part_takes_some before (Spelled Identifier spelling) after is = is.0.0.0
part_takes_some before (Spelled Keyword []) after is = absurd (let e : false ≡ true = each_among is_name_like keywords [] keywords_are_names is.0 in cc)
part_takes_some before (Spelled Keyword (b ∷ bytes)) after is = omega arith
part_takes_some before (Spelled Number spelling) after is = (number_like spelling is.0).some
part_takes_some before (Spelled Character spelling) after is = some_bytes spelling _ is.0.0.1 (omega arith)
part_takes_some before (Spelled Text spelling) after is = some_bytes spelling _ is.0.0.1 (omega arith)
part_takes_some before (Spelled RuleWord spelling) after is = some_bytes spelling _ is.0.1 (omega arith)
part_takes_some before (Spelled Sign []) after is = absurd (let e : false ≡ true = each_among is_sign_like signs [] signs_are_signs is.0 in cc)
part_takes_some before (Spelled Sign (b ∷ bytes)) after is = omega arith
