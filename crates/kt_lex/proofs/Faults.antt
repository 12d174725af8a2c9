-- What a fault says of the bytes at its place.
use Rattle.std.proofs.Common.{◌≡◌, ℕ, ◌+◌, ◌<◌, ◌≤◌, zero, suc, Bool, true, false, cond, eqb, ◌⊎◌, inl, inr, List, [], ◌∷◌, ◌++◌, length, take, drop, Option, Some, None, Result, Ok, Err, sym, refl, ap, ◌∙◌, subst, arith, append_assoc, append-nil, take-append-drop, length-drop}
use Rattle.std.specs.Prelude.{nat_eq, codes, slice_index}
use Rattle.std.specs.Option.{is_some}
use Rattle.std.specs.List.{starts_with, flat_map}
use Rattle.std.specs.Char.{is_ascii_digit}
use Rattle.std.proofs.lemmas.Bool.{eqb-true}
use Rattle.std.proofs.lemmas.List.Concat.{flat_map-cons}
use Rattle.kt_lex.specs.declared.token.Kind.{Kind}
use Rattle.kt_lex.specs.declared.token.Kind.TheVariants.{Number, Character, Text, RuleWord, Sign}
use Rattle.kt_lex.specs.declared.token.Token.{Token}
use Rattle.kt_lex.specs.declared.token.LexFault.{LexFault}
use Rattle.kt_lex.specs.declared.token.LexFault.TheVariants.{Byte, Unclosed, Literal, Directive}
use Rattle.kt_lex.specs.declared.front.Piece.{Piece}
use Rattle.kt_lex.specs.declared.front.Piece.TheVariants.{Gap, Word}
use Rattle.kt_lex.specs.Bytes.{is_blank, is_word_byte, hash, dollar, apostrophe, double_quote}
use Rattle.kt_lex.specs.Gaps.{line_length, comment_length, is_include}
use Rattle.kt_lex.specs.Words.{word_length, is_among, rule_words, sign_length}
use Rattle.kt_lex.specs.Numbers.{number_value}
use Rattle.kt_lex.specs.Quotes.{character_in, bytes_in}
use Rattle.kt_lex.specs.Tokens.{is_indented, comment, directive, number, name, rule_word, quoted, sign, front, size_of, if_closed, token_of, behind, tokens_behind, tokens_of}
use Rattle.kt_lex.specs.Cover.{Part, AreParts, spelling_of, is_opening, IsFault, FaultsAreThere}
use Rattle.kt_lex.proofs.Signs.{chosen}
use Rattle.kt_lex.proofs.Fronts.{part_of, IsPieceOf, front-is}
use Rattle.kt_lex.proofs.Reading.{tokens_behind-front, tokens_behind-fault, tokens_behind-nil}
use Rattle.kt_lex.proofs.Cuts.{spelling_of-part, part_before}

fault_is : (x y : LexFault) → ◌≡◌ {A = Result Piece LexFault} (Err x) (Err y) → x ≡ y
fault_is x y h = cc

no_piece : (x : LexFault) (piece : Piece) → ◌≡◌ {A = Result Piece LexFault} (Ok piece) (Err x) → ⊥
no_piece x piece h = cc

is_none : {X : Type 0} (o : Option X) → is_some o ≡ false → o ≡ None
is_none None h = refl
is_none (Some x) h = absurd (let e : true ≡ false = h in cc)

-- the fault of a quote: it is not closed, or what it holds is faulty
quoted_fault : (at : ℕ) (kind : Kind) (is_body : List ℕ → Bool) (rest : List ℕ) (fault : LexFault) (closes : Option ℕ) → if_closed at (λ n. cond (is_body (take n rest)) (Ok (Word kind (n + 2))) (Err (Literal at))) closes ≡ Err fault → ((Unclosed at ≡ fault) × (closes ≡ None)) ⊎ ((Literal at ≡ fault) × ((n : ℕ) × (closes ≡ Some n) × (is_body (take n rest) ≡ false)))
quoted_fault at kind is_body rest fault None h = inl (fault_is (Unclosed at) fault h, refl)
quoted_fault at kind is_body rest fault (Some n) h = elim (chosen {A = Result Piece LexFault} (is_body (take n rest)) (Ok (Word kind (n + 2))) (Err (Literal at)) (Err fault) h) [
  | inl w ↦ absurd (no_piece fault (Word kind (n + 2)) w.1)
  | inr w ↦ inr (fault_is (Literal at) fault w.1, (n, refl, w.0))
]

comment_fault : (before : List ℕ) (bytes : List ℕ) (fault : LexFault) → starts_with nat_eq bytes (codes "/*") ≡ true → (closes : Option ℕ) → comment_length (drop 2 bytes) ≡ closes → if_closed (length before) (λ n. Ok (Gap (n + 4))) closes ≡ Err fault → IsFault fault before bytes
comment_fault before bytes fault opens None is h = subst (λ f. IsFault f before bytes) (fault_is (Unclosed (length before)) fault h) (refl, inl (opens, is))
comment_fault before bytes fault opens (Some n) is h = absurd (no_piece fault (Gap (n + 4)) h)

directive_fault : (before bytes : List ℕ) (fault : LexFault) → slice_index bytes 0 ≡ hash → directive (length before) (is_indented before) bytes ≡ Err fault → IsFault fault before bytes
unfolding directive
directive_fault before bytes fault is_hash h = elim (chosen {A = Result Piece LexFault} (is_indented before) _ (Err (Byte (length before))) (Err fault) h) as (λ _. IsFault fault before bytes) [
  | inl w ↦ elim (chosen {A = Result Piece LexFault} (is_include (drop 1 bytes)) (Ok (Gap (line_length bytes))) (Err (Directive (length before))) (Err fault) w.1) as (λ _. IsFault fault before bytes) [
    | inl v ↦ absurd (no_piece fault (Gap (line_length bytes)) v.1)
    | inr v ↦ subst (λ f. IsFault f before bytes) (fault_is (Directive (length before)) fault v.1) (refl, (is_hash, w.0, v.0))
  ]
  | inr w ↦ subst (λ f. IsFault f before bytes) (fault_is (Byte (length before)) fault w.1) (refl, inl (is_hash, w.0))
]

number_fault : (before bytes : List ℕ) (fault : LexFault) → is_ascii_digit (slice_index bytes 0) ≡ true → number (length before) bytes ≡ Err fault → IsFault fault before bytes
unfolding number
number_fault before bytes fault digit h = elim (chosen {A = Result Piece LexFault} (is_some (number_value (take (word_length bytes) bytes))) (Ok (Word Number (word_length bytes))) (Err (Literal (length before))) (Err fault) h) as (λ _. IsFault fault before bytes) [
  | inl w ↦ absurd (no_piece fault (Word Number (word_length bytes)) w.1)
  | inr w ↦ subst (λ f. IsFault f before bytes) (fault_is (Literal (length before)) fault w.1) (refl, inl (digit, is_none (number_value (take (word_length bytes) bytes)) w.0))
]

rule_word_fault : (before bytes : List ℕ) (fault : LexFault) → slice_index bytes 0 ≡ dollar → rule_word (length before) bytes ≡ Err fault → IsFault fault before bytes
unfolding rule_word
rule_word_fault before bytes fault is_dollar h =
    let n = word_length (drop 1 bytes) in
    elim (chosen {A = Result Piece LexFault} (is_among rule_words (take n (drop 1 bytes))) (Ok (Word RuleWord (1 + n))) (Err (Byte (length before))) (Err fault) h) as (λ _. IsFault fault before bytes) [
      | inl w ↦ absurd (no_piece fault (Word RuleWord (1 + n)) w.1)
      | inr w ↦ subst (λ f. IsFault f before bytes) (fault_is (Byte (length before)) fault w.1) (refl, inr (inl (is_dollar, w.0)))
    ]

not_opening : (b : ℕ) → eqb b hash ≡ false → eqb b dollar ≡ false → eqb b apostrophe ≡ false → eqb b double_quote ≡ false → is_opening b ≡ false
not_opening b h d a q = rw (h, d, a, q)

sign_fault : (before bytes : List ℕ) (fault : LexFault) → is_blank (slice_index bytes 0) ≡ false → is_word_byte (slice_index bytes 0) ≡ false → is_opening (slice_index bytes 0) ≡ false → sign (length before) bytes ≡ Err fault → IsFault fault before bytes
unfolding sign
sign_fault before bytes fault no_blank no_word none_opens h = elim (chosen {A = Result Piece LexFault} (eqb (sign_length bytes) 0) (Err (Byte (length before))) (Ok (Word Sign (sign_length bytes))) (Err fault) h) as (λ _. IsFault fault before bytes) [
  | inl w ↦ subst (λ f. IsFault f before bytes) (fault_is (Byte (length before)) fault w.1) (refl, inr (inr (no_blank, no_word, none_opens, eqb-true (sign_length bytes) 0 w.0)))
  | inr w ↦ absurd (no_piece fault (Word Sign (sign_length bytes)) w.1)
]

character_fault : (before bytes : List ℕ) (fault : LexFault) → slice_index bytes 0 ≡ apostrophe → quoted (length before) Character apostrophe (λ body. is_some (character_in body)) bytes ≡ Err fault → IsFault fault before bytes
unfolding quoted
character_fault before bytes fault is_quote h = elim (quoted_fault (length before) Character (λ body. is_some (character_in body)) (drop 1 bytes) fault _ h) as (λ _. IsFault fault before bytes) [
  | inl w ↦ subst (λ f. IsFault f before bytes) w.0 (refl, inr (inl (is_quote, w.1)))
  | inr w ↦ subst (λ f. IsFault f before bytes) w.0 (refl, inr (inl (w.1.0, is_quote, w.1.1, is_none (character_in (take w.1.0 (drop 1 bytes))) w.1.2)))
]

string_fault : (before bytes : List ℕ) (fault : LexFault) → slice_index bytes 0 ≡ double_quote → quoted (length before) Text double_quote (λ body. is_some (bytes_in false body)) bytes ≡ Err fault → IsFault fault before bytes
unfolding quoted
string_fault before bytes fault is_quote h = elim (quoted_fault (length before) Text (λ body. is_some (bytes_in false body)) (drop 1 bytes) fault _ h) as (λ _. IsFault fault before bytes) [
  | inl w ↦ subst (λ f. IsFault f before bytes) w.0 (refl, inr (inr (is_quote, w.1)))
  | inr w ↦ subst (λ f. IsFault f before bytes) w.0 (refl, inr (inr (w.1.0, is_quote, w.1.1, is_none (bytes_in false (take w.1.0 (drop 1 bytes))) w.1.2)))
]

front-fault : (before bytes : List ℕ) (fault : LexFault) → front (length before) (is_indented before) bytes ≡ Err fault → IsFault fault before bytes
unfolding front comment
front-fault before bytes fault h =
    let b = slice_index bytes 0 in
    let P = IsFault fault before bytes in
    let at = length before in
    elim (chosen {A = Result Piece LexFault} (is_blank b) (Ok (Gap 1)) _ (Err fault) h) as (λ _. P) [
      | inl w ↦ absurd (no_piece fault (Gap 1) w.1)
      | inr w1 ↦ elim (chosen {A = Result Piece LexFault} (starts_with nat_eq bytes (codes "//")) (Ok (Gap (line_length bytes))) _ (Err fault) w1.1) as (λ _. P) [
        | inl w ↦ absurd (no_piece fault (Gap (line_length bytes)) w.1)
        | inr w2 ↦ elim (chosen {A = Result Piece LexFault} (starts_with nat_eq bytes (codes "/*")) _ _ (Err fault) w2.1) as (λ _. P) [
          | inl w ↦ comment_fault before bytes fault w.0 _ refl w.1
          | inr w3 ↦ elim (chosen {A = Result Piece LexFault} (eqb b hash) (directive at (is_indented before) bytes) _ (Err fault) w3.1) as (λ _. P) [
            | inl w ↦ directive_fault before bytes fault (eqb-true b hash w.0) w.1
            | inr w4 ↦ elim (chosen {A = Result Piece LexFault} (is_ascii_digit b) (number at bytes) _ (Err fault) w4.1) as (λ _. P) [
              | inl w ↦ number_fault before bytes fault w.0 w.1
              | inr w5 ↦ elim (chosen {A = Result Piece LexFault} (is_word_byte b) (Ok (name bytes)) _ (Err fault) w5.1) as (λ _. P) [
                | inl w ↦ absurd (no_piece fault (name bytes) w.1)
                | inr w6 ↦ elim (chosen {A = Result Piece LexFault} (eqb b dollar) (rule_word at bytes) _ (Err fault) w6.1) as (λ _. P) [
                  | inl w ↦ rule_word_fault before bytes fault (eqb-true b dollar w.0) w.1
                  | inr w7 ↦ elim (chosen {A = Result Piece LexFault} (eqb b apostrophe) _ _ (Err fault) w7.1) as (λ _. P) [
                    | inl w ↦ character_fault before bytes fault (eqb-true b apostrophe w.0) w.1
                    | inr w8 ↦ elim (chosen {A = Result Piece LexFault} (eqb b double_quote) _ (sign at bytes) (Err fault) w8.1) as (λ _. P) [
                      | inl w ↦ string_fault before bytes fault (eqb-true b double_quote w.0) w.1
                      | inr w ↦ sign_fault before bytes fault w1.0 w6.0 (not_opening b w4.0 w7.0 w8.0 w.0) w.1
                    ]
                  ]
                ]
              ]
            ]
          ]
        ]
      ]
    ]

-- a rest that stands behind the bytes `before` is parts up to a fault
record IsStoppedBehind (before rest : List ℕ) (fault : LexFault) : Type 0 where
  parts : List Part
  left : List ℕ
  joined : flat_map spelling_of parts ++ left ≡ rest
  each : AreParts before parts left
  found : 0 < length left
  why : IsFault fault (before ++ flat_map spelling_of parts) left

stopped_here : (before rest : List ℕ) (fault : LexFault) → 0 < length rest → IsFault fault before rest → IsStoppedBehind before rest fault
stopped_here before rest fault found why = record {
  parts = [];
  left = rest;
  joined = refl;
  each = tt;
  found = found;
  why = subst (λ l. IsFault fault l rest) (sym (append-nil before)) why;
}

more_before : (before rest : List ℕ) (piece : Piece) (fault : LexFault) → IsPieceOf before rest piece → IsStoppedBehind (before ++ take (size_of piece) rest) (drop (size_of piece) rest) fault → IsStoppedBehind before rest fault
more_before before rest piece fault is_piece stop =
    let spelling = take (size_of piece) rest in
    let part = part_of piece spelling in
    let joined : flat_map spelling_of (part ∷ stop.parts) ≡ spelling ++ flat_map spelling_of stop.parts = flat_map-cons spelling_of part stop.parts ∙ ap (λ l. l ++ flat_map spelling_of stop.parts) (spelling_of-part piece spelling) in
    record {
      parts = part ∷ stop.parts;
      left = stop.left;
      joined = ap (λ l. l ++ stop.left) joined ∙ append_assoc spelling (flat_map spelling_of stop.parts) stop.left ∙ ap (λ l. spelling ++ l) stop.joined ∙ take-append-drop (size_of piece) rest;
      each = part_before before rest piece stop.parts stop.left is_piece stop.joined stop.each;
      found = stop.found;
      why = subst (λ l. IsFault fault l stop.left) (append_assoc before spelling (flat_map spelling_of stop.parts) ∙ ap (λ l. before ++ l) (sym joined)) stop.why;
    }

-- what is read behind a token is the fault
behind_fault : (first : List Token) (read : Result (List Token) LexFault) (fault : LexFault) → behind first read ≡ Err fault → read ≡ Err fault
behind_fault first (Ok more) fault h = absurd (let e : ◌≡◌ {A = Result (List Token) LexFault} (Ok (first ++ more)) (Err fault) = h in cc)
behind_fault first (Err f) fault h = h

same_fault : (x y : LexFault) → ◌≡◌ {A = Result (List Token) LexFault} (Err x) (Err y) → x ≡ y
same_fault x y h = cc

-- at a front: it is the fault, or a piece stands there
data Stop (before rest : List ℕ) (fault : LexFault) : Type 0 where
  Here : IsFault fault before rest → Stop before rest fault
  Later : (piece : Piece) → IsPieceOf before rest piece → tokens_behind (before ++ take (size_of piece) rest) 0 (drop (size_of piece) rest) ≡ Err fault → Stop before rest fault

stop_at : (before rest : List ℕ) (fault : LexFault) → 0 < length rest → tokens_behind before 0 rest ≡ Err fault → (found : Result Piece LexFault) → front (length before) (is_indented before) rest ≡ found → Stop before rest fault
stop_at before rest fault some h (Err f) is =
    Here (subst (λ f. IsFault f before rest) (same_fault f fault (sym (tokens_behind-fault before rest f some is) ∙ h)) (front-fault before rest f is))
stop_at before rest fault some h (Ok piece) is =
    let is_piece = front-is before rest piece some is in
    Later piece is_piece (behind_fault (token_of before piece) _ fault (sym (tokens_behind-front before rest piece some is_piece.positive is) ∙ h))

stopped_behind : (most : ℕ) (before rest : List ℕ) (fault : LexFault) → length rest ≤ most → tokens_behind before 0 rest ≡ Err fault → IsStoppedBehind before rest fault
stopped_behind most before [] fault short h = absurd (let e : ◌≡◌ {A = Result (List Token) LexFault} (Ok []) (Err fault) = sym (tokens_behind-nil before) ∙ h in cc)
stopped_behind zero before (b ∷ rest) fault short h = absurd (omega arith)
stopped_behind (suc most) before (b ∷ rest) fault short h =
    let some : 0 < length (b ∷ rest) = omega arith in
    elim (stop_at before (b ∷ rest) fault some h _ refl) as (λ _. IsStoppedBehind before (b ∷ rest) fault) [
      | Here why ↦ stopped_here before (b ∷ rest) fault some why
      | Later piece is_piece later ↦
          let less : length (drop (size_of piece) (b ∷ rest)) ≤ most = omega (arith, is_piece.positive, length-drop (size_of piece) (b ∷ rest)) in
          more_before before (b ∷ rest) piece fault is_piece (stopped_behind most (before ++ take (size_of piece) (b ∷ rest)) (drop (size_of piece) (b ∷ rest)) fault less later)
    ]

pub faults_are_there : FaultsAreThere
unfolding tokens_of
faults_are_there bytes fault h =
    let whole : length bytes ≤ length bytes = omega arith in
    let stop = stopped_behind (length bytes) [] bytes fault whole h in
    (stop.parts, stop.left, record { joined = stop.joined; each = stop.each; found = stop.found; why = stop.why })
