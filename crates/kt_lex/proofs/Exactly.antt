-- A file that is cut has the tokens of its parts, and one that is stopped has that fault.
use Rattle.std.proofs.Common.{◌≡◌, ℕ, ◌+◌, ◌<◌, true, false, cond, eqb, inl, inr, List, [], ◌∷◌, ◌++◌, length, take, drop, Some, None, Result, Ok, Err, sym, refl, ap, ◌∙◌, subst, arith, append_assoc, append-nil}
use Rattle.std.specs.Prelude.{nat_eq, codes, flat_map}
use Rattle.std.specs.Option.{is_some}
use Rattle.std.specs.List.{starts_with, list_any}
use Rattle.std.specs.Char.{is_ascii_digit}
use Rattle.std.proofs.Math.Seq.{take-append_seam}
use Rattle.std.proofs.lemmas.Bool.{cases_Bool, ne_eqb}
use Rattle.std.proofs.lemmas.List.Concat.{flat_map-cons}
use Rattle.kt_lex.specs.declared.token.Kind.TheVariants.{Character, Text, RuleWord, Sign}
use Rattle.kt_lex.specs.declared.token.Token.{Token}
use Rattle.kt_lex.specs.declared.token.LexFault.{LexFault}
use Rattle.kt_lex.specs.declared.token.LexFault.TheVariants.{Byte, Unclosed, Literal, Directive, NoMemory}
use Rattle.kt_lex.specs.declared.front.Piece.TheVariants.{Gap, Word}
use Rattle.kt_lex.specs.Bytes.{is_blank, is_word_byte}
use Rattle.kt_lex.specs.Gaps.{line_length, comment_length, is_include}
use Rattle.kt_lex.specs.Words.{word_length, is_among, rule_words, signs_of_one, signs_of_two, sign_length}
use Rattle.kt_lex.specs.Numbers.{number_value}
use Rattle.kt_lex.specs.Quotes.{body_length, character_in, bytes_in}
use Rattle.kt_lex.specs.Tokens.{is_indented, comment, directive, number, rule_word, quoted, sign, front, size_of, if_closed, token_of, behind, tokens_behind, tokens_of}
use Rattle.kt_lex.specs.Cover.{Part, Between, Spelled, IsPart, AreParts, spelling_of, token_at, tokens_at, is_opening, IsUnclosed, IsFaultyLiteral, IsOtherDirective, IsOtherByte, IsFault, CutsAreTokens, StopsAreFaults}
use Rattle.kt_lex.proofs.Fronts.{begins, digit_is_word_byte}
use Rattle.kt_lex.proofs.Reading.{behind-behind, behind-nil, tokens_behind-front, tokens_behind-fault, tokens_behind-nil}
use Rattle.kt_lex.proofs.Takes.{piece_of, takes_part, part_takes_some, goes_first, goes_second, word_is_plain, plain_front, word_front-is, no_digit, or_parts, no_comment_opens}

-- ---- faults

-- what is at a front is the fault
abbrev Refuses : List ℕ → List ℕ → LexFault → Type 0
Refuses before rest fault = front (length before) (is_indented before) rest ≡ Err fault

unclosed_comment : (before rest : List ℕ) → comment_length rest ≡ None → Refuses before (47 ∷ 42 ∷ rest) (Unclosed (length before))
unfolding front comment
unclosed_comment before rest h = ap (if_closed (length before) (λ n. Ok (Gap (n + 4)))) h

unclosed_character : (before rest : List ℕ) → body_length 39 false rest ≡ None → Refuses before (39 ∷ rest) (Unclosed (length before))
unfolding front quoted
unclosed_character before rest h = ap (if_closed (length before) (λ n. cond (is_some (character_in (take n rest))) (Ok (Word Character (n + 2))) (Err (Literal (length before))))) h

unclosed_text : (before rest : List ℕ) → body_length 34 false rest ≡ None → Refuses before (34 ∷ rest) (Unclosed (length before))
unfolding front quoted
unclosed_text before rest h = ap (if_closed (length before) (λ n. cond (is_some (bytes_in false (take n rest))) (Ok (Word Text (n + 2))) (Err (Literal (length before))))) h

unclosed : (before rest : List ℕ) → IsUnclosed rest → 0 < length rest → Refuses before rest (Unclosed (length before))
unclosed before rest (inl w) found = subst (λ l. Refuses before l (Unclosed (length before))) (sym (begins (codes "/*") rest w.0)) (unclosed_comment before (drop 2 rest) w.1)
unclosed before [] (inr w) found = absurd (omega (arith, found))
unclosed before (b ∷ rest) (inr (inl w)) found = subst (λ c. Refuses before (c ∷ rest) (Unclosed (length before))) (sym w.0) (unclosed_character before rest w.1)
unclosed before (b ∷ rest) (inr (inr w)) found = subst (λ c. Refuses before (c ∷ rest) (Unclosed (length before))) (sym w.0) (unclosed_text before rest w.1)

faulty_number : (before : List ℕ) (b : ℕ) (rest : List ℕ) → is_ascii_digit b ≡ true → number_value (take (word_length (b ∷ rest)) (b ∷ rest)) ≡ None → Refuses before (b ∷ rest) (Literal (length before))
unfolding number
faulty_number before b rest digit h =
    plain_front is_word_byte word_is_plain (length before) (is_indented before) b rest (digit_is_word_byte b digit)
    ∙ goes_first (is_ascii_digit b) _ _ digit
    ∙ goes_second (is_some (number_value (take (word_length (b ∷ rest)) (b ∷ rest)))) _ _ (ap is_some h)

faulty_character : (before rest : List ℕ) (n : ℕ) → body_length 39 false rest ≡ Some n → character_in (take n rest) ≡ None → Refuses before (39 ∷ rest) (Literal (length before))
unfolding front quoted
faulty_character before rest n closes h =
    ap (if_closed (length before) (λ n. cond (is_some (character_in (take n rest))) (Ok (Word Character (n + 2))) (Err (Literal (length before))))) closes
    ∙ goes_second (is_some (character_in (take n rest))) _ _ (ap is_some h)

faulty_text : (before rest : List ℕ) (n : ℕ) → body_length 34 false rest ≡ Some n → bytes_in false (take n rest) ≡ None → Refuses before (34 ∷ rest) (Literal (length before))
unfolding front quoted
faulty_text before rest n closes h =
    ap (if_closed (length before) (λ n. cond (is_some (bytes_in false (take n rest))) (Ok (Word Text (n + 2))) (Err (Literal (length before))))) closes
    ∙ goes_second (is_some (bytes_in false (take n rest))) _ _ (ap is_some h)

faulty_literal : (before rest : List ℕ) → IsFaultyLiteral rest → 0 < length rest → Refuses before rest (Literal (length before))
faulty_literal before [] w found = absurd (omega (arith, found))
faulty_literal before (b ∷ rest) (inl w) found = faulty_number before b rest w.0 w.1
faulty_literal before (b ∷ rest) (inr (inl w)) found = subst (λ c. Refuses before (c ∷ rest) (Literal (length before))) (sym w.1) (faulty_character before rest w.0 w.2 w.3)
faulty_literal before (b ∷ rest) (inr (inr w)) found = subst (λ c. Refuses before (c ∷ rest) (Literal (length before))) (sym w.1) (faulty_text before rest w.0 w.2 w.3)

other_directive : (before rest : List ℕ) → IsOtherDirective before rest → 0 < length rest → Refuses before rest (Directive (length before))
unfolding front directive
other_directive before [] w found = absurd (omega (arith, found))
other_directive before (b ∷ rest) w found =
    subst (λ c. Refuses before (c ∷ rest) (Directive (length before))) (sym w.0)
    (goes_first (is_indented before) _ _ w.1 ∙ goes_second (is_include rest) (Ok (Gap (line_length (35 ∷ rest)))) _ w.2)

-- a slash is a sign
slash_is_sign : (rest : List ℕ) → sign_length (47 ∷ rest) ≡ 0 → ⊥
unfolding sign_length signs_of_one
slash_is_sign rest h = elim (cases_Bool (list_any (starts_with nat_eq (47 ∷ rest)) signs_of_two)) [
  | inl two ↦ absurd (let e : 2 ≡ 0 = sym (goes_first (list_any (starts_with nat_eq (47 ∷ rest)) signs_of_two) 2 1 two) ∙ h in omega (arith, e))
  | inr one ↦ absurd (let e : 1 ≡ 0 = sym (goes_second (list_any (starts_with nat_eq (47 ∷ rest)) signs_of_two) 2 1 one) ∙ h in omega (arith, e))
]

-- where no sign stands no comment opens
no_comment : (b : ℕ) (rest : List ℕ) → sign_length (b ∷ rest) ≡ 0 → eqb 47 b ≡ false
no_comment b rest h = ne_eqb 47 b (λ same. slash_is_sign rest (ap (λ c. sign_length (c ∷ rest)) same ∙ h))

other_byte_there : (before : List ℕ) (b : ℕ) (rest : List ℕ) → is_blank b ≡ false → is_word_byte b ≡ false → is_opening b ≡ false → sign_length (b ∷ rest) ≡ 0 → Refuses before (b ∷ rest) (Byte (length before))
unfolding sign
other_byte_there before b rest blank word opening none =
    let text = or_parts _ (eqb b 34) opening in
    let character = or_parts _ (eqb b 39) text.0 in
    let marks = or_parts (eqb b 35) (eqb b 36) character.0 in
    word_front-is (length before) (is_indented before) b rest blank (no_comment_opens b rest (no_comment b rest none)) marks.0
    ∙ goes_second (is_ascii_digit b) _ _ (no_digit b word)
    ∙ goes_second (is_word_byte b) _ _ word
    ∙ goes_second (eqb b 36) _ _ marks.1
    ∙ goes_second (eqb b 39) _ _ character.1
    ∙ goes_second (eqb b 34) _ _ text.1
    ∙ ap (λ n. cond (eqb n 0) (Err (Byte (length before))) (Ok (Word Sign n))) none

hash_inside : (before rest : List ℕ) → is_indented before ≡ false → Refuses before (35 ∷ rest) (Byte (length before))
unfolding front directive
hash_inside before rest h = goes_second (is_indented before) _ _ h

no_rule_word : (before rest : List ℕ) → is_among rule_words (take (word_length rest) rest) ≡ false → Refuses before (36 ∷ rest) (Byte (length before))
unfolding front rule_word
no_rule_word before rest h = goes_second (is_among rule_words (take (word_length rest) rest)) (Ok (Word RuleWord (1 + word_length rest))) _ h

other_byte : (before rest : List ℕ) → IsOtherByte before rest → 0 < length rest → Refuses before rest (Byte (length before))
other_byte before [] w found = absurd (omega (arith, found))
other_byte before (b ∷ rest) (inl w) found = subst (λ c. Refuses before (c ∷ rest) (Byte (length before))) (sym w.0) (hash_inside before rest w.1)
other_byte before (b ∷ rest) (inr (inl w)) found = subst (λ c. Refuses before (c ∷ rest) (Byte (length before))) (sym w.0) (no_rule_word before rest w.1)
other_byte before (b ∷ rest) (inr (inr w)) found = other_byte_there before b rest w.0 w.1 w.2 w.3

refuses : (before rest : List ℕ) (fault : LexFault) → IsFault fault before rest → 0 < length rest → Refuses before rest fault
refuses before rest (Unclosed at) w found = unclosed before rest w.1 found ∙ ap (λ n. Err (Unclosed n)) (sym w.0)
refuses before rest (Literal at) w found = faulty_literal before rest w.1 found ∙ ap (λ n. Err (Literal n)) (sym w.0)
refuses before rest (Directive at) w found = other_directive before rest w.1 found ∙ ap (λ n. Err (Directive n)) (sym w.0)
refuses before rest (Byte at) w found = other_byte before rest w.1 found ∙ ap (λ n. Err (Byte n)) (sym w.0)
refuses before rest NoMemory w found = absurd w

-- ---- reading over parts

token_of-part : (before : List ℕ) (part : Part) → token_of before (piece_of part) ≡ token_at before part
token_of-part before (Between spelling) = refl
token_of-part before (Spelled kind spelling) = refl

size_of-part : (part : Part) → size_of (piece_of part) ≡ length (spelling_of part)
size_of-part (Between spelling) = refl
size_of-part (Spelled kind spelling) = refl

drop_seam : (xs ys : List ℕ) → drop (length xs) (xs ++ ys) ≡ ys
drop_seam [] ys = refl
drop_seam (x ∷ xs) ys = drop_seam xs ys

length-front : (xs ys : List ℕ) → 0 < length xs → 0 < length (xs ++ ys)
length-front [] ys h = absurd (omega (arith, h))
length-front (x ∷ xs) ys h = omega arith

-- a part is read, and then what stands behind it
read_part : (before : List ℕ) (part : Part) (after : List ℕ) → IsPart before part after
    → tokens_behind before 0 (spelling_of part ++ after) ≡ behind (token_at before part) (tokens_behind (before ++ spelling_of part) 0 after)
read_part before part after is =
    let rest = spelling_of part ++ after in
    let some = part_takes_some before part after is in
    let positive : 0 < size_of (piece_of part) = subst (λ n. 0 < n) (sym (size_of-part part)) some in
    tokens_behind-front before rest (piece_of part) (length-front (spelling_of part) after some) positive (takes_part before part after is)
    ∙ ap (λ l. behind l (tokens_behind (before ++ take (size_of (piece_of part)) rest) 0 (drop (size_of (piece_of part)) rest))) (token_of-part before part)
    ∙ ap (λ n. behind (token_at before part) (tokens_behind (before ++ take n rest) 0 (drop n rest))) (size_of-part part)
    ∙ ap (λ l. behind (token_at before part) (tokens_behind (before ++ l) 0 (drop (length (spelling_of part)) rest))) (take-append_seam (spelling_of part) after)
    ∙ ap (λ l. behind (token_at before part) (tokens_behind (before ++ spelling_of part) 0 l)) (drop_seam (spelling_of part) after)

read_parts : (before : List ℕ) (parts : List Part) (after : List ℕ) (read : Result (List Token) LexFault) → AreParts before parts after
    → tokens_behind (before ++ flat_map spelling_of parts) 0 after ≡ read → tokens_behind before 0 (flat_map spelling_of parts ++ after) ≡ behind (tokens_at before parts) read
read_parts before [] after read each h = ap (λ l. tokens_behind l 0 after) (sym (append-nil before)) ∙ h ∙ sym (behind-nil read)
read_parts before (part ∷ parts) after read each h =
    let joined = flat_map-cons spelling_of part parts in
    let later : tokens_behind ((before ++ spelling_of part) ++ flat_map spelling_of parts) 0 after ≡ read =
    ap (λ l. tokens_behind l 0 after) (append_assoc before (spelling_of part) (flat_map spelling_of parts) ∙ ap (λ l. before ++ l) (sym joined)) ∙ h in
    ap (λ l. tokens_behind before 0 (l ++ after)) joined
    ∙ ap (tokens_behind before 0) (append_assoc (spelling_of part) (flat_map spelling_of parts) after)
    ∙ read_part before part (flat_map spelling_of parts ++ after) each.0
    ∙ ap (behind (token_at before part)) (read_parts (before ++ spelling_of part) parts after read each.1 later)
    ∙ behind-behind (token_at before part) (tokens_at (before ++ spelling_of part) parts) read

pub cuts_are_tokens : CutsAreTokens
unfolding tokens_of
cuts_are_tokens bytes tokens parts cut =
    ap (tokens_behind [] 0) (sym cut.joined ∙ sym (append-nil (flat_map spelling_of parts)))
    ∙ read_parts [] parts [] (Ok []) cut.each (tokens_behind-nil (flat_map spelling_of parts))
    ∙ ap (λ l. Ok l) (append-nil (tokens_at [] parts) ∙ cut.listed)

pub stops_are_faults : StopsAreFaults
unfolding tokens_of
stops_are_faults bytes fault parts rest stop =
    ap (tokens_behind [] 0) (sym stop.joined)
    ∙ read_parts [] parts rest (Err fault) stop.each (tokens_behind-fault (flat_map spelling_of parts) rest fault stop.found (refuses (flat_map spelling_of parts) rest fault stop.why stop.found))
