-- What a front is: the bytes that are taken are a gap, or a spelling of the token's kind.
use Rattle.std.proofs.Common.{◌≡◌, ℕ, ◌+◌, ◌-◌, ◌<◌, ◌≤◌, suc, Bool, true, false, cond, not, ◌&&◌, ◌||◌, eqb, inl, inr, List, [], ◌∷◌, ◌++◌, length, take, drop, Option, Some, None, Result, Ok, Err, sym, refl, ap, ◌∙◌, subst, arith, length-append, length-take, length-take-le, take-append-drop}
use Rattle.std.specs.Prelude.{nat_eq, codes, slice_index}
use Rattle.std.specs.Option.{option_map, is_some}
use Rattle.std.specs.List.{prefix_len, starts_with, AllByRecursion}
use Rattle.std.specs.Char.{is_ascii_digit, is_ascii_uppercase, is_ascii_lowercase}
use Rattle.std.specs.Str.{bytes_eq}
use Rattle.std.proofs.Math.Seq.{take-append_seam, take-append-add}
use Rattle.std.proofs.lemmas.Bool.{eqb-true, eqb-false, le-ltb}
use Rattle.std.proofs.lemmas.List.Folds.{prefix_len-append}
use Rattle.std.proofs.lemmas.List.Sums.{prefix_len-le-length}
use Rattle.std.proofs.lemmas.Slice.Eq.{bytes_eq-Decides}
use Rattle.kt_lex.specs.declared.token.Kind.{Kind}
use Rattle.kt_lex.specs.declared.token.Kind.TheVariants.{Identifier, Keyword, Number, Character, Text, RuleWord, Sign}
use Rattle.kt_lex.specs.declared.token.LexFault.{LexFault}
use Rattle.kt_lex.specs.declared.token.LexFault.TheVariants.{Byte, Unclosed, Literal, Directive}
use Rattle.kt_lex.specs.declared.front.Piece.{Piece}
use Rattle.kt_lex.specs.declared.front.Piece.TheVariants.{Gap, Word}
use Rattle.kt_lex.specs.Bytes.{is_indent, is_blank, is_newline, is_word_byte, hash, dollar, apostrophe, double_quote}
use Rattle.kt_lex.specs.Gaps.{line_length, comment_length, indent_length, is_include}
use Rattle.kt_lex.specs.Words.{word_length, is_among, keywords, rule_words, sign_length}
use Rattle.kt_lex.specs.Numbers.{number_value}
use Rattle.kt_lex.specs.Quotes.{body_length, character_in, bytes_in, character_value, string_value, begins_escape, inside}
use Rattle.kt_lex.specs.Tokens.{is_indented, comment, directive, number, name, rule_word, quoted, sign, front, size_of, if_closed}
use Rattle.kt_lex.specs.Cover.{Part, Between, Spelled, IsPart, IsOneLine, opens_comment}
use Rattle.kt_lex.proofs.Signs.{both, either, chosen, is_longest_sign, sign_fits}

-- the part of a file that a piece is, by its bytes
abbrev pub part_of : Piece → List ℕ → Part
part_of (Gap n) spelling = Between spelling
part_of (Word kind n) spelling = Spelled kind spelling

pub record IsPieceOf (before bytes : List ℕ) (piece : Piece) : Type 0 where
  pub positive : 0 < size_of piece
  pub within : size_of piece ≤ length bytes
  pub part : IsPart before (part_of piece (take (size_of piece) bytes)) (drop (size_of piece) bytes)

-- tools

ok_is : (x y : Piece) → ◌≡◌ {A = Result Piece LexFault} (Ok x) (Ok y) → x ≡ y
ok_is x y h = cc

no_fault : (x : Piece) (fault : LexFault) → ◌≡◌ {A = Result Piece LexFault} (Err fault) (Ok x) → ⊥
no_fault x fault h = cc

-- what a `suc` under an option came from
pub from_map : (found : Option ℕ) (n : ℕ) → option_map suc found ≡ Some n → (m : ℕ) × (found ≡ Some m) × (suc m ≡ n)
from_map None n h = absurd (let e : ◌≡◌ {A = Option ℕ} None (Some n) = h in cc)
from_map (Some m) n h = (m, refl, let e : ◌≡◌ {A = Option ℕ} (Some (suc m)) (Some n) = h in cc)

-- bytes that begin with a needle
pub begins : (needle bytes : List ℕ) → starts_with nat_eq bytes needle ≡ true → bytes ≡ needle ++ drop (length needle) bytes
begins needle bytes h =
    sym (take-append-drop (length needle) bytes)
    ∙ ap (λ l. l ++ drop (length needle) bytes) (sym ((bytes_eq-Decides needle (take (length needle) bytes)).0 h))

pub prefix_len-cons : (p : ℕ → Bool) (b : ℕ) (bytes : List ℕ) → p b ≡ true → prefix_len p (b ∷ bytes) ≡ suc (prefix_len p bytes)
prefix_len-cons p b bytes h =
    let e : 1 + prefix_len p bytes ≡ suc (prefix_len p bytes) = omega arith in
    ap (λ t. cond t (1 + prefix_len p bytes) 0) h ∙ e

-- each byte of a longest front passes
prefix_passes : (Q : ℕ → Type 0) (p : ℕ → Bool) → ((b : ℕ) → p b ≡ true → Q b) → (bytes : List ℕ) → AllByRecursion Q (take (prefix_len p bytes) bytes)
prefix_passes Q p each [] = tt
prefix_passes Q p each (b ∷ bytes) =
    elim (chosen {A = ℕ} (p b) (1 + prefix_len p bytes) 0 (prefix_len p (b ∷ bytes)) refl) [
      | inl w ↦ subst (λ n. AllByRecursion Q (take n (b ∷ bytes))) (sym (prefix_len-cons p b bytes w.0)) (each b w.0, prefix_passes Q p each bytes)
      | inr w ↦ subst (λ n. AllByRecursion Q (take n (b ∷ bytes))) w.1 tt
    ]

-- behind a longest front no byte passes
prefix_ends : (p : ℕ → Bool) (bytes : List ℕ) → prefix_len p (drop (prefix_len p bytes) bytes) ≡ 0
prefix_ends p [] = refl
prefix_ends p (b ∷ bytes) =
    elim (chosen {A = ℕ} (p b) (1 + prefix_len p bytes) 0 (prefix_len p (b ∷ bytes)) refl) [
      | inl w ↦ ap (λ n. prefix_len p (drop n (b ∷ bytes))) (prefix_len-cons p b bytes w.0) ∙ prefix_ends p bytes
      | inr w ↦ ap (λ n. prefix_len p (drop n (b ∷ bytes))) (sym w.1) ∙ sym w.1
    ]

not_true : (b : Bool) → not b ≡ true → b ≡ false
not_true true h = cc
not_true false h = refl

one_line : (bytes : List ℕ) → IsOneLine (take (line_length bytes) bytes)
unfolding line_length
one_line bytes = prefix_passes _ (λ b. not (is_newline b)) (λ b h. not_true (is_newline b) h) bytes

line_ends : (bytes : List ℕ) → line_length (drop (line_length bytes) bytes) ≡ 0
unfolding line_length
line_ends bytes = prefix_ends (λ b. not (is_newline b)) bytes

pub line_length-cons : (b : ℕ) (bytes : List ℕ) → is_newline b ≡ false → line_length (b ∷ bytes) ≡ suc (line_length bytes)
unfolding line_length
line_length-cons b bytes h = prefix_len-cons (λ b. not (is_newline b)) b bytes (ap not h)

line_fits : (bytes : List ℕ) → line_length bytes ≤ length bytes
unfolding line_length
line_fits bytes = prefix_len-le-length _ bytes

-- gaps

blank_is : (before : List ℕ) (b : ℕ) (rest : List ℕ) → is_blank b ≡ true → IsPieceOf before (b ∷ rest) (Gap 1)
blank_is before b rest h = record { positive = omega arith; within = omega arith; part = inl (b, refl, h) }

line_comment_is : (before rest : List ℕ) → IsPieceOf before (47 ∷ 47 ∷ rest) (Gap (line_length (47 ∷ 47 ∷ rest)))
line_comment_is before rest =
    let n = line_length-cons 47 (47 ∷ rest) refl ∙ ap suc (line_length-cons 47 rest refl) in
    subst (λ k. IsPieceOf before (47 ∷ 47 ∷ rest) (Gap k)) (sym n) (record {
      positive = omega arith;
      within = omega (arith, line_fits rest);
      part = inr (inl (take (line_length rest) rest, refl, one_line rest, line_ends rest));
    })

-- a comment's bytes from behind its opening
record IsComment (bytes : List ℕ) (n : ℕ) : Type 0 where
  within : n + 2 ≤ length bytes
  taken : take (n + 2) bytes ≡ take n bytes ++ codes "*/"
  first : comment_length (take n bytes ++ codes "*/") ≡ Some n

first_of_front : (n : ℕ) (bytes : List ℕ) → take 1 (take (suc n) bytes) ≡ take 1 bytes
first_of_front n [] = refl
first_of_front n (b ∷ bytes) = refl

comment_is : (bytes : List ℕ) (n : ℕ) → comment_length bytes ≡ Some n → IsComment bytes n
unfolding comment_length
comment_is [] n h = absurd (let e : ◌≡◌ {A = Option ℕ} None (Some n) = h in cc)
comment_is (b ∷ bytes) n h = elim (chosen {A = Option ℕ} (starts_with nat_eq (b ∷ bytes) (codes "*/")) (Some 0) (option_map suc (comment_length bytes)) (Some n) h) [
  | inl w ↦
      let zero_is : 0 ≡ n = (let e : ◌≡◌ {A = Option ℕ} (Some 0) (Some n) = w.1 in cc) in
      let rest = drop 2 (b ∷ bytes) in
      subst (λ l. IsComment l n) (sym (begins (codes "*/") (b ∷ bytes) w.0))
      (subst (λ k. IsComment (42 ∷ 47 ∷ rest) k) zero_is (record { within = omega arith; taken = refl; first = refl }))
  | inr w ↦
      let before = from_map (comment_length bytes) n w.1 in
      let m = before.0 in
      let later = comment_is bytes m before.1 in
      let more : suc m + 2 ≡ suc (m + 2) = omega arith in
      let two : m + 2 ≡ suc (m + 1) = omega arith in
      let same : take 1 (take m bytes ++ codes "*/") ≡ take 1 bytes = ap (take 1) (sym later.taken ∙ ap (λ k. take k bytes) two) ∙ first_of_front (m + 1) bytes in
      let closes : starts_with nat_eq (b ∷ (take m bytes ++ codes "*/")) (codes "*/") ≡ false = ap (λ l. bytes_eq (codes "*/") (b ∷ l)) same ∙ w.0 in
      subst (IsComment (b ∷ bytes)) before.2 (record {
        within = omega (arith, later.within);
        taken = ap (λ k. take k (b ∷ bytes)) more ∙ ap (λ l. b ∷ l) later.taken;
        first = ap (λ t. cond t (Some 0) (option_map suc (comment_length (take m bytes ++ codes "*/")))) closes ∙ ap (option_map suc) later.first;
      })
]

block_comment_is : (before rest : List ℕ) (n : ℕ) → comment_length rest ≡ Some n → IsPieceOf before (47 ∷ 42 ∷ rest) (Gap (n + 4))
block_comment_is before rest n h =
    let is_comment = comment_is rest n h in
    let more : n + 4 ≡ suc (suc (n + 2)) = omega arith in
    let length_text : length (take n rest) ≡ n = omega (arith, is_comment.within, length-take n rest) in
    subst (λ k. IsPieceOf before (47 ∷ 42 ∷ rest) (Gap k)) (sym more) (record {
      positive = omega arith;
      within = omega (arith, is_comment.within);
      part = inr (inr (inl (take n rest, ap (λ l. 47 ∷ 42 ∷ l) is_comment.taken, is_comment.first ∙ ap (λ k. Some k) (sym length_text))));
    })

indent_length-cons : (b : ℕ) (bytes : List ℕ) → is_indent b ≡ true → indent_length (b ∷ bytes) ≡ suc (indent_length bytes)
unfolding indent_length
indent_length-cons b bytes h = prefix_len-cons is_indent b bytes h

-- spaces and tabs before `include` change nothing
pub is_include-cons : (b : ℕ) (bytes : List ℕ) → is_indent b ≡ true → is_include (b ∷ bytes) ≡ is_include bytes
unfolding is_include
is_include-cons b bytes h = ap (λ n. starts_with nat_eq (drop n (b ∷ bytes)) (codes "include")) (indent_length-cons b bytes h)

no_newline : (b : ℕ) → is_indent b ≡ true → is_newline b ≡ false
no_newline b h = elim (either (eqb b 32) (eqb b 9) h) [
  | inl space ↦ ap is_newline (eqb-true b 32 space)
  | inr tab ↦ ap is_newline (eqb-true b 9 tab)
]

-- the rest of the line is enough to see that it is an `#include`
is_include-line : (bytes : List ℕ) → is_include bytes ≡ true → is_include (take (line_length bytes) bytes) ≡ true
unfolding is_include indent_length line_length
is_include-line [] h = absurd (let e : false ≡ true = h in cc)
is_include-line (b ∷ bytes) h = elim (chosen {A = ℕ} (is_indent b) (1 + indent_length bytes) 0 (indent_length (b ∷ bytes)) refl) [
  | inl w ↦
      ap (λ n. is_include (take n (b ∷ bytes))) (line_length-cons b bytes (no_newline b w.0))
      ∙ is_include-cons b (take (line_length bytes) bytes) w.0
      ∙ is_include-line bytes (sym (is_include-cons b bytes w.0) ∙ h)
  | inr w ↦
      let stands : starts_with nat_eq (b ∷ bytes) (codes "include") ≡ true = ap (λ n. starts_with nat_eq (drop n (b ∷ bytes)) (codes "include")) w.1 ∙ h in
      let rest = drop 7 (b ∷ bytes) in
      let is_line : line_length (codes "include" ++ rest) ≡ 7 + line_length rest = prefix_len-append (λ b. not (is_newline b)) (codes "include") rest in
      subst (λ l. is_include (take (line_length l) l) ≡ true) (sym (begins (codes "include") (b ∷ bytes) stands))
      (ap (λ n. is_include (take n (codes "include" ++ rest))) is_line
      ∙ ap is_include (take-append-add (codes "include") rest (line_length rest)))
]

skipped_is : (before rest : List ℕ) → is_indented before ≡ true → is_include rest ≡ true → IsPieceOf before (35 ∷ rest) (Gap (line_length (35 ∷ rest)))
skipped_is before rest indented h =
    subst (λ k. IsPieceOf before (35 ∷ rest) (Gap k)) (sym (line_length-cons 35 rest refl)) (record {
      positive = omega arith;
      within = omega (arith, line_fits rest);
      part = inr (inr (inr (indented, (take (line_length rest) rest, refl, is_include-line rest h, one_line rest, line_ends rest))));
    })

-- words

word_length-cons : (b : ℕ) (bytes : List ℕ) → is_word_byte b ≡ true → word_length (b ∷ bytes) ≡ suc (word_length bytes)
unfolding word_length
word_length-cons b bytes h = prefix_len-cons is_word_byte b bytes h

word_fits : (bytes : List ℕ) → word_length bytes ≤ length bytes
unfolding word_length
word_fits bytes = prefix_len-le-length is_word_byte bytes

word_bytes : (bytes : List ℕ) → AllByRecursion (λ b. is_word_byte b ≡ true) (take (word_length bytes) bytes)
unfolding word_length
word_bytes bytes = prefix_passes _ is_word_byte (λ b h. h) bytes

word_ends : (bytes : List ℕ) → word_length (drop (word_length bytes) bytes) ≡ 0
unfolding word_length
word_ends bytes = prefix_ends is_word_byte bytes

pub digit_is_word_byte : (b : ℕ) → is_ascii_digit b ≡ true → is_word_byte b ≡ true
digit_is_word_byte b h = ap (λ t. ((t || is_ascii_uppercase b) || is_ascii_lowercase b) || eqb b 95) h

-- a word at the front, by what is known of its spelling
word_is : (before : List ℕ) (kind : Kind) (b : ℕ) (rest : List ℕ) → is_word_byte b ≡ true
    → IsPart before (Spelled kind (take (word_length (b ∷ rest)) (b ∷ rest))) (drop (word_length (b ∷ rest)) (b ∷ rest))
    → IsPieceOf before (b ∷ rest) (Word kind (word_length (b ∷ rest)))
word_is before kind b rest h part = record {
  positive = omega (arith, word_length-cons b rest h);
  within = word_fits (b ∷ rest);
  part = part;
}

name_is : (before : List ℕ) (b : ℕ) (rest : List ℕ) → is_word_byte b ≡ true → is_ascii_digit b ≡ false → IsPieceOf before (b ∷ rest) (name (b ∷ rest))
unfolding name
name_is before b rest h letter =
    let n = word_length (b ∷ rest) in
    let word = take n (b ∷ rest) in
    elim (chosen {A = Piece} (is_among keywords word) (Word Keyword n) (Word Identifier n) (name (b ∷ rest)) refl) [
      | inl w ↦ subst (IsPieceOf before (b ∷ rest)) w.1 (word_is before Keyword b rest h (w.0, word_ends (b ∷ rest)))
      | inr w ↦
          let first : is_ascii_digit (slice_index word 0) ≡ false = ap (λ k. is_ascii_digit (slice_index (take k (b ∷ rest)) 0)) (word_length-cons b rest h) ∙ letter in
          let found : 0 < length word = omega (arith, word_length-cons b rest h, length-take n (b ∷ rest)) in
          subst (IsPieceOf before (b ∷ rest)) w.1 (word_is before Identifier b rest h (((found, word_bytes (b ∷ rest), first), w.0), word_ends (b ∷ rest)))
    ]

rule_word_is : (before rest : List ℕ) → is_among rule_words (take (word_length rest) rest) ≡ true → IsPieceOf before (36 ∷ rest) (Word RuleWord (1 + word_length rest))
rule_word_is before rest h =
    let more : suc (word_length rest) ≡ 1 + word_length rest = omega arith in
    subst (λ k. IsPieceOf before (36 ∷ rest) (Word RuleWord k)) more (record {
      positive = omega arith;
      within = omega (arith, word_fits rest);
      part = ((take (word_length rest) rest, refl, h), word_ends rest);
    })

-- quotes

record IsBody (quote : ℕ) (bytes : List ℕ) (n : ℕ) : Type 0 where
  within : n + 1 ≤ length bytes
  taken : take (n + 1) bytes ≡ take n bytes ++ quote ∷ []

body_is : (quote : ℕ) (escaped : Bool) (bytes : List ℕ) (n : ℕ) → body_length quote escaped bytes ≡ Some n → IsBody quote bytes n
unfolding body_length
body_is quote escaped [] n h = absurd (let e : ◌≡◌ {A = Option ℕ} None (Some n) = h in cc)
body_is quote escaped (b ∷ bytes) n h = elim (chosen {A = Option ℕ} (is_newline b) None _ (Some n) h) [
  | inl w ↦ absurd (let e : ◌≡◌ {A = Option ℕ} None (Some n) = w.1 in cc)
  | inr w ↦ elim (chosen {A = Option ℕ} (eqb b quote && not escaped) (Some 0) _ (Some n) w.1) [
    | inl v ↦
        let zero_is : 0 ≡ n = (let e : ◌≡◌ {A = Option ℕ} (Some 0) (Some n) = v.1 in cc) in
        subst (IsBody quote (b ∷ bytes)) zero_is (record {
          within = omega arith;
          taken = ap (λ c. c ∷ []) (eqb-true b quote (both (eqb b quote) (not escaped) v.0).0);
        })
    | inr v ↦
        let before = from_map (body_length quote (begins_escape escaped b) bytes) n v.1 in
        let m = before.0 in
        let later = body_is quote (begins_escape escaped b) bytes m before.1 in
        let more : suc m + 1 ≡ suc (m + 1) = omega arith in
        subst (IsBody quote (b ∷ bytes)) before.2 (record {
          within = omega (arith, later.within);
          taken = ap (λ k. take k (b ∷ bytes)) more ∙ ap (λ l. b ∷ l) later.taken;
        })
  ]
]

-- what stands between two quotes
inside-quoted : (quote : ℕ) (body : List ℕ) → inside (quote ∷ (body ++ quote ∷ [])) ≡ body
inside-quoted quote body =
    let n : length (quote ∷ (body ++ quote ∷ [])) - 1 - 1 ≡ length body = omega (arith, length-append body (quote ∷ [])) in
    ap (λ k. take k (body ++ quote ∷ [])) n ∙ take-append_seam body (quote ∷ [])

pub character_value-quoted : (quote : ℕ) (body : List ℕ) → character_value (quote ∷ (body ++ quote ∷ [])) ≡ character_in body
unfolding character_value
character_value-quoted quote body =
    let two : 2 ≤ length (quote ∷ (body ++ quote ∷ [])) = omega (arith, length-append body (quote ∷ [])) in
    ap (λ t. cond t None (character_in (inside (quote ∷ (body ++ quote ∷ []))))) (le-ltb _ 2 two) ∙ ap character_in (inside-quoted quote body)

pub string_value-quoted : (quote : ℕ) (body : List ℕ) → string_value (quote ∷ (body ++ quote ∷ [])) ≡ bytes_in false body
unfolding string_value
string_value-quoted quote body =
    let two : 2 ≤ length (quote ∷ (body ++ quote ∷ [])) = omega (arith, length-append body (quote ∷ [])) in
    ap (λ t. cond t None (bytes_in false (inside (quote ∷ (body ++ quote ∷ []))))) (le-ltb _ 2 two) ∙ ap (bytes_in false) (inside-quoted quote body)

-- a closed quote, by what is known of its spelling
closed_is : (before : List ℕ) (kind : Kind) (quote : ℕ) (rest : List ℕ) (n : ℕ) → body_length quote false rest ≡ Some n
    → IsPart before (Spelled kind (quote ∷ (take n rest ++ quote ∷ []))) (drop (n + 1) rest) → IsPieceOf before (quote ∷ rest) (Word kind (n + 2))
closed_is before kind quote rest n h part =
    let is_body = body_is quote false rest n h in
    let more : n + 2 ≡ suc (n + 1) = omega arith in
    subst (λ k. IsPieceOf before (quote ∷ rest) (Word kind k)) (sym more) (record {
      positive = omega arith;
      within = omega (arith, is_body.within);
      part = subst (λ l. IsPart before (Spelled kind (quote ∷ l)) (drop (n + 1) rest)) (sym is_body.taken) part;
    })

-- fronts

comment_front : (before : List ℕ) (at : ℕ) (rest : List ℕ) (piece : Piece) (found : Option ℕ) → comment_length rest ≡ found
    → if_closed at (λ n. Ok (Gap (n + 4))) found ≡ Ok piece → IsPieceOf before (47 ∷ 42 ∷ rest) piece
comment_front before at rest piece None is h = absurd (no_fault piece (Unclosed at) h)
comment_front before at rest piece (Some n) is h =
    subst (IsPieceOf before (47 ∷ 42 ∷ rest)) (ok_is (Gap (n + 4)) piece h) (block_comment_is before rest n is)

quoted_front : (before : List ℕ) (at : ℕ) (kind : Kind) (quote : ℕ) (is_body : List ℕ → Bool) (rest : List ℕ) (piece : Piece)
    → ((body after : List ℕ) → is_body body ≡ true → IsPart before (Spelled kind (quote ∷ (body ++ quote ∷ []))) after) → (found : Option ℕ) → body_length quote false rest ≡ found
    → if_closed at (λ n. cond (is_body (take n rest)) (Ok (Word kind (n + 2))) (Err (Literal at))) found ≡ Ok piece → IsPieceOf before (quote ∷ rest) piece
quoted_front before at kind quote is_body rest piece spells None is h = absurd (no_fault piece (Unclosed at) h)
quoted_front before at kind quote is_body rest piece spells (Some n) is h = elim (chosen {A = Result Piece LexFault} (is_body (take n rest)) (Ok (Word kind (n + 2))) (Err (Literal at)) (Ok piece) h) [
  | inl w ↦ subst (IsPieceOf before (quote ∷ rest)) (ok_is (Word kind (n + 2)) piece w.1) (closed_is before kind quote rest n is (spells (take n rest) _ w.0))
  | inr w ↦ absurd (no_fault piece (Literal at) w.1)
]

directive_front : (before : List ℕ) (at : ℕ) (rest : List ℕ) (piece : Piece) → directive at (is_indented before) (35 ∷ rest) ≡ Ok piece → IsPieceOf before (35 ∷ rest) piece
unfolding directive
directive_front before at rest piece h = elim (chosen {A = Result Piece LexFault} (is_indented before) _ (Err (Byte at)) (Ok piece) h) [
  | inl w ↦ elim (chosen {A = Result Piece LexFault} (is_include rest) (Ok (Gap (line_length (35 ∷ rest)))) (Err (Directive at)) (Ok piece) w.1) [
    | inl v ↦ subst (IsPieceOf before (35 ∷ rest)) (ok_is (Gap (line_length (35 ∷ rest))) piece v.1) (skipped_is before rest w.0 v.0)
    | inr v ↦ absurd (no_fault piece (Directive at) v.1)
  ]
  | inr w ↦ absurd (no_fault piece (Byte at) w.1)
]

number_front : (before : List ℕ) (at b : ℕ) (rest : List ℕ) (piece : Piece) → is_ascii_digit b ≡ true → number at (b ∷ rest) ≡ Ok piece → IsPieceOf before (b ∷ rest) piece
unfolding number
number_front before at b rest piece digit h = elim (chosen {A = Result Piece LexFault} (is_some (number_value (take (word_length (b ∷ rest)) (b ∷ rest)))) (Ok (Word Number (word_length (b ∷ rest)))) (Err (Literal at)) (Ok piece) h) [
  | inl w ↦ subst (IsPieceOf before (b ∷ rest)) (ok_is (Word Number (word_length (b ∷ rest))) piece w.1) (word_is before Number b rest (digit_is_word_byte b digit) (w.0, word_ends (b ∷ rest)))
  | inr w ↦ absurd (no_fault piece (Literal at) w.1)
]

rule_word_front : (before : List ℕ) (at : ℕ) (rest : List ℕ) (piece : Piece) → rule_word at (36 ∷ rest) ≡ Ok piece → IsPieceOf before (36 ∷ rest) piece
unfolding rule_word
rule_word_front before at rest piece h = elim (chosen {A = Result Piece LexFault} (is_among rule_words (take (word_length rest) rest)) (Ok (Word RuleWord (1 + word_length rest))) (Err (Byte at)) (Ok piece) h) [
  | inl w ↦ subst (IsPieceOf before (36 ∷ rest)) (ok_is (Word RuleWord (1 + word_length rest)) piece w.1) (rule_word_is before rest w.0)
  | inr w ↦ absurd (no_fault piece (Byte at) w.1)
]

no_comment : (bytes : List ℕ) → starts_with nat_eq bytes (codes "//") ≡ false → starts_with nat_eq bytes (codes "/*") ≡ false → opens_comment bytes ≡ false
no_comment bytes h k = ap (λ t. t || starts_with nat_eq bytes (codes "/*")) h ∙ k

sign_front : (before : List ℕ) (at : ℕ) (bytes : List ℕ) (piece : Piece) → opens_comment bytes ≡ false → sign at bytes ≡ Ok piece → IsPieceOf before bytes piece
unfolding sign
sign_front before at bytes piece plain h = elim (chosen {A = Result Piece LexFault} (eqb (sign_length bytes) 0) (Err (Byte at)) (Ok (Word Sign (sign_length bytes))) (Ok piece) h) [
  | inl w ↦ absurd (no_fault piece (Byte at) w.1)
  | inr w ↦
      let positive : 0 < sign_length bytes = omega (arith, eqb-false (sign_length bytes) 0 w.0) in
      let whole : take (sign_length bytes) bytes ++ drop (sign_length bytes) bytes ≡ bytes = take-append-drop (sign_length bytes) bytes in
      subst (IsPieceOf before bytes) (ok_is (Word Sign (sign_length bytes)) piece w.1) (record {
        positive = positive;
        within = sign_fits bytes;
        part = (
          (is_longest_sign bytes).stands positive,
          (ap opens_comment whole ∙ plain, ap sign_length whole ∙ sym (length-take-le (sign_length bytes) bytes (sign_fits bytes))),
        );
      })
]

pub front-is : (before bytes : List ℕ) (piece : Piece) → 0 < length bytes → front (length before) (is_indented before) bytes ≡ Ok piece → IsPieceOf before bytes piece
unfolding front comment quoted
front-is before [] piece found h = absurd (omega arith)
front-is before (b ∷ rest) piece found h =
    let at = length before in
    let indented = is_indented before in
    let P = IsPieceOf before (b ∷ rest) piece in
    elim (chosen {A = Result Piece LexFault} (is_blank b) (Ok (Gap 1)) _ (Ok piece) h) as (λ _. P) [
      | inl w ↦ subst (IsPieceOf before (b ∷ rest)) (ok_is (Gap 1) piece w.1) (blank_is before b rest w.0)
      | inr w1 ↦ elim (chosen {A = Result Piece LexFault} (starts_with nat_eq (b ∷ rest) (codes "//")) (Ok (Gap (line_length (b ∷ rest)))) _ (Ok piece) w1.1) as (λ _. P) [
        | inl w ↦
            let is = sym (begins (codes "//") (b ∷ rest) w.0) in
            subst (IsPieceOf before (b ∷ rest)) (ok_is (Gap (line_length (b ∷ rest))) piece w.1)
            (subst (λ l. IsPieceOf before l (Gap (line_length l))) is (line_comment_is before (drop 2 (b ∷ rest))))
        | inr w2 ↦ elim (chosen {A = Result Piece LexFault} (starts_with nat_eq (b ∷ rest) (codes "/*")) _ _ (Ok piece) w2.1) as (λ _. P) [
          | inl w ↦ subst (λ l. IsPieceOf before l piece) (sym (begins (codes "/*") (b ∷ rest) w.0)) (comment_front before at (drop 2 (b ∷ rest)) piece _ refl w.1)
          | inr w3 ↦ elim (chosen {A = Result Piece LexFault} (eqb b hash) (directive at indented (b ∷ rest)) _ (Ok piece) w3.1) as (λ _. P) [
            | inl w ↦
                let is = eqb-true b hash w.0 in
                subst (λ c. IsPieceOf before (c ∷ rest) piece) (sym is) (directive_front before at rest piece (ap (λ c. directive at indented (c ∷ rest)) (sym is) ∙ w.1))
            | inr w4 ↦ elim (chosen {A = Result Piece LexFault} (is_ascii_digit b) (number at (b ∷ rest)) _ (Ok piece) w4.1) as (λ _. P) [
              | inl w ↦ number_front before at b rest piece w.0 w.1
              | inr w5 ↦ elim (chosen {A = Result Piece LexFault} (is_word_byte b) (Ok (name (b ∷ rest))) _ (Ok piece) w5.1) as (λ _. P) [
                | inl w ↦ subst (IsPieceOf before (b ∷ rest)) (ok_is (name (b ∷ rest)) piece w.1) (name_is before b rest w.0 w5.0)
                | inr w6 ↦ elim (chosen {A = Result Piece LexFault} (eqb b dollar) (rule_word at (b ∷ rest)) _ (Ok piece) w6.1) as (λ _. P) [
                  | inl w ↦
                      let is = eqb-true b dollar w.0 in
                      subst (λ c. IsPieceOf before (c ∷ rest) piece) (sym is) (rule_word_front before at rest piece (ap (λ c. rule_word at (c ∷ rest)) (sym is) ∙ w.1))
                  | inr w7 ↦ elim (chosen {A = Result Piece LexFault} (eqb b apostrophe) _ _ (Ok piece) w7.1) as (λ _. P) [
                    | inl w ↦ subst (λ c. IsPieceOf before (c ∷ rest) piece) (sym (eqb-true b apostrophe w.0)) (
                        quoted_front before at Character apostrophe (λ body. is_some (character_in body)) rest piece
                        (λ body after h. (((body, refl), ap is_some (character_value-quoted apostrophe body) ∙ h), tt)) _ refl w.1
                        )
                    | inr w8 ↦ elim (chosen {A = Result Piece LexFault} (eqb b double_quote) _ (sign at (b ∷ rest)) (Ok piece) w8.1) as (λ _. P) [
                      | inl w ↦ subst (λ c. IsPieceOf before (c ∷ rest) piece) (sym (eqb-true b double_quote w.0)) (
                          quoted_front before at Text double_quote (λ body. is_some (bytes_in false body)) rest piece
                          (λ body after h. (((body, refl), ap is_some (string_value-quoted double_quote body) ∙ h), tt)) _ refl w.1
                          )
                      | inr w ↦ sign_front before at (b ∷ rest) piece (no_comment (b ∷ rest) w2.0 w3.0) w.1
                    ]
                  ]
                ]
              ]
            ]
          ]
        ]
      ]
    ]
