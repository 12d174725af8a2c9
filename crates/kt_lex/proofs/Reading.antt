-- How reading goes on from a front.
use Rattle.std.proofs.Common.{◌≡◌, ℕ, ◌+◌, ◌-◌, ◌<◌, ◌≤◌, zero, suc, true, List, [], ◌∷◌, ◌++◌, length, take, drop, Result, Ok, Err, sym, refl, ap, ◌∙◌, arith, append_assoc, append-nil, take-append-drop, length-append, length-take-le}
use Rattle.std.specs.List.{fold, count_by}
use Rattle.std.proofs.lemmas.List.Sums.{fold-append, sum_by-append, count_by-le-length}
use Rattle.kt_lex.specs.declared.token.Token.{Token}
use Rattle.kt_lex.specs.declared.token.LexFault.{LexFault}
use Rattle.kt_lex.specs.declared.front.Piece.{Piece}
use Rattle.kt_lex.specs.declared.front.Piece.TheVariants.{Gap, Word}
use Rattle.kt_lex.specs.declared.scan.Place.{Place}
use Rattle.kt_lex.specs.Bytes.{is_newline}
use Rattle.kt_lex.proofs.Fronts.{IsPieceOf, front-is}
use Rattle.kt_lex.specs.Tokens.{line_after, indents_after, is_indented, front, size_of, token_of, behind, read_on, tokens_behind, tokens_of}

-- what is read behind a front: the bytes of the front are passed first
tokens_behind-passed : (before : List ℕ) (n : ℕ) (rest : List ℕ) → tokens_behind before n rest ≡ tokens_behind (before ++ take n rest) 0 (drop n rest)
unfolding tokens_behind
tokens_behind-passed before zero rest = ap (λ l. tokens_behind l 0 rest) (sym (append-nil before))
tokens_behind-passed before (suc n) [] = refl
tokens_behind-passed before (suc n) (b ∷ rest) =
    tokens_behind-passed (before ++ b ∷ []) n rest ∙ ap (λ l. tokens_behind l 0 (drop n rest)) (append_assoc before (b ∷ []) (take n rest))

-- a front is read, and then what follows it
pub tokens_behind-front : (before rest : List ℕ) (piece : Piece) → 0 < length rest → 0 < size_of piece → front (length before) (is_indented before) rest ≡ Ok piece → tokens_behind before 0 rest ≡ behind (token_of before piece) (tokens_behind (before ++ take (size_of piece) rest) 0 (drop (size_of piece) rest))
unfolding tokens_behind
tokens_behind-front before [] piece found positive is_front = absurd (omega arith)
tokens_behind-front before (b ∷ rest) piece found positive is_front =
    let pred : suc (size_of piece - 1) ≡ size_of piece = omega arith in
    let passed : tokens_behind before (suc (size_of piece - 1)) (b ∷ rest) ≡ tokens_behind (before ++ take (suc (size_of piece - 1)) (b ∷ rest)) 0 (drop (suc (size_of piece - 1)) (b ∷ rest)) = tokens_behind-passed before (suc (size_of piece - 1)) (b ∷ rest) in
    ap (λ r. read_on before r (λ p. tokens_behind (before ++ b ∷ []) (size_of p - 1) rest)) is_front
    ∙ ap (behind (token_of before piece)) (passed ∙ ap (λ n. tokens_behind (before ++ take n (b ∷ rest)) 0 (drop n (b ∷ rest))) pred)

-- a fault at a front is what is read
pub tokens_behind-fault : (before rest : List ℕ) (fault : LexFault) → 0 < length rest → front (length before) (is_indented before) rest ≡ Err fault → tokens_behind before 0 rest ≡ Err fault
unfolding tokens_behind
tokens_behind-fault before [] fault found is_fault = absurd (omega arith)
tokens_behind-fault before (b ∷ rest) fault found is_fault =
    ap (λ r. read_on before r (λ p. tokens_behind (before ++ b ∷ []) (size_of p - 1) rest)) is_fault

pub tokens_behind-nil : (before : List ℕ) → tokens_behind before 0 [] ≡ Ok []
unfolding tokens_behind
tokens_behind-nil before = refl

pub behind-behind : (xs ys : List Token) (read : Result (List Token) LexFault) → behind xs (behind ys read) ≡ behind (xs ++ ys) read
behind-behind xs ys (Ok zs) = ap (λ l. Ok l) (sym (append_assoc xs ys zs))
behind-behind xs ys (Err fault) = refl

pub behind-nil : (read : Result (List Token) LexFault) → behind [] read ≡ read
behind-nil (Ok zs) = refl
behind-nil (Err fault) = refl

-- where `lex` stands: what is read, and where
pub record IsRead (bytes : List ℕ) (place : Place) (tokens : List Token) (rest : List ℕ) : Type 0 where
  pub before : List ℕ
  pub split : before ++ rest ≡ bytes
  pub at : place.at ≡ length before
  pub newlines : place.newlines ≡ count_by is_newline before
  pub indented : place.indented ≡ is_indented before
  pub read : tokens_of bytes ≡ behind tokens (tokens_behind before 0 rest)

-- the token that `lex` makes of a piece
abbrev pub token_from : Place → Place → Piece → List Token
token_from place next (Gap n) = []
token_from place next (Word kind n) =
    record { kind = kind; at = place.at; end = next.at; line = place.newlines + 1 } ∷ []

pub IsRead-start : (bytes : List ℕ) (place : Place) → place.at ≡ 0 → place.newlines ≡ 0 → place.indented ≡ true → IsRead bytes place [] bytes
unfolding is_indented tokens_of
IsRead-start bytes place at newlines indented = record {
  before = [];
  split = refl;
  at = at;
  newlines = newlines;
  indented = indented;
  read = sym (behind-nil (tokens_behind [] 0 bytes));
}

pub IsRead-at : (bytes : List ℕ) (place : Place) (tokens : List Token) (rest : List ℕ) → IsRead bytes place tokens rest → place.at + length rest ≡ length bytes
IsRead-at bytes place tokens rest is_read =
    ap (λ n. n + length rest) is_read.at ∙ sym (length-append is_read.before rest) ∙ ap length is_read.split

pub IsRead-newlines : (bytes : List ℕ) (place : Place) (tokens : List Token) (rest : List ℕ) → IsRead bytes place tokens rest → place.newlines ≤ place.at
IsRead-newlines bytes place tokens rest is_read =
    omega (arith, count_by-le-length is_newline is_read.before, is_read.newlines, is_read.at)

-- the front where `lex` stands is the one that is read there
front-here : (bytes : List ℕ) (place : Place) (tokens : List Token) (rest : List ℕ) (is_read : IsRead bytes place tokens rest) → front (length is_read.before) (is_indented is_read.before) rest ≡ front place.at place.indented rest
front-here bytes place tokens rest is_read =
    let at = sym is_read.at in
    let indented = sym is_read.indented in
    λ i. front (at i) (indented i) rest

-- what is read there is a gap, or a spelling of its kind
pub IsRead-piece : (bytes : List ℕ) (place : Place) (tokens : List Token) (rest : List ℕ) (piece : Piece) (is_read : IsRead bytes place tokens rest) → 0 < length rest → front place.at place.indented rest ≡ Ok piece → IsPieceOf is_read.before rest piece
IsRead-piece bytes place tokens rest piece is_read found is_front =
    front-is is_read.before rest piece found (front-here bytes place tokens rest is_read ∙ is_front)

pub IsRead-fault : (bytes : List ℕ) (place : Place) (tokens : List Token) (rest : List ℕ) (fault : LexFault) → IsRead bytes place tokens rest → 0 < length rest → front place.at place.indented rest ≡ Err fault → tokens_of bytes ≡ Err fault
IsRead-fault bytes place tokens rest fault is_read found is_fault =
    is_read.read ∙ ap (behind tokens) (tokens_behind-fault is_read.before rest fault found (front-here bytes place tokens rest is_read ∙ is_fault))

pub IsRead-end : (bytes : List ℕ) (place : Place) (tokens : List Token) (rest : List ℕ) → IsRead bytes place tokens rest → length rest ≡ 0 → tokens_of bytes ≡ Ok tokens
IsRead-end bytes place tokens [] is_read is_end =
    is_read.read ∙ ap (behind tokens) (tokens_behind-nil is_read.before) ∙ ap (λ l. Ok l) (append-nil tokens)
IsRead-end bytes place tokens (b ∷ rest) is_read is_end = absurd (omega arith)

-- the place behind bytes
pub record IsBehind (place next : Place) (bytes : List ℕ) : Type 0 where
  pub at : next.at ≡ place.at + length bytes
  pub newlines : next.newlines ≡ place.newlines + count_by is_newline bytes
  pub indented : next.indented ≡ fold indents_after place.indented bytes

token_of-is : (bytes : List ℕ) (place next : Place) (tokens : List Token) (rest : List ℕ) (piece : Piece) (is_read : IsRead bytes place tokens rest) → size_of piece ≤ length rest → next.at ≡ place.at + length (take (size_of piece) rest) → token_from place next piece ≡ token_of is_read.before piece
unfolding line_after
token_of-is bytes place next tokens rest (Gap n) is_read within at = refl
token_of-is bytes place next tokens rest (Word kind n) is_read within at =
    let end : next.at ≡ length is_read.before + n = at ∙ ap (λ k. place.at + k) (length-take-le n rest within) ∙ ap (λ k. k + n) is_read.at in
    let line : place.newlines + 1 ≡ 1 + count_by is_newline is_read.before = omega (arith, is_read.newlines) in
    λ i. record { kind = kind; at = is_read.at i; end = end i; line = line i } ∷ []

pub IsRead-next : (bytes : List ℕ) (place next : Place) (tokens : List Token) (rest : List ℕ) (piece : Piece) → IsRead bytes place tokens rest → 0 < length rest → 0 < size_of piece → size_of piece ≤ length rest → front place.at place.indented rest ≡ Ok piece → IsBehind place next (take (size_of piece) rest) → IsRead bytes next (tokens ++ token_from place next piece) (drop (size_of piece) rest)
unfolding is_indented
IsRead-next bytes place next tokens rest piece is_read found positive within is_front is_behind = record {
  before = is_read.before ++ take (size_of piece) rest;
  split = append_assoc is_read.before (take (size_of piece) rest) (drop (size_of piece) rest) ∙ ap (λ l. is_read.before ++ l) (take-append-drop (size_of piece) rest) ∙ is_read.split;
  at = is_behind.at ∙ ap (λ n. n + length (take (size_of piece) rest)) is_read.at ∙ sym (length-append is_read.before (take (size_of piece) rest));
  newlines = is_behind.newlines ∙ ap (λ n. n + count_by is_newline (take (size_of piece) rest)) is_read.newlines ∙ sym (sum_by-append _ is_read.before (take (size_of piece) rest));
  indented = is_behind.indented ∙ ap (λ b. fold indents_after b (take (size_of piece) rest)) is_read.indented ∙ sym (fold-append indents_after true is_read.before (take (size_of piece) rest));
  read =
      is_read.read
      ∙ ap (behind tokens) (tokens_behind-front is_read.before rest piece found positive (front-here bytes place tokens rest is_read ∙ is_front))
      ∙ behind-behind tokens (token_of is_read.before piece) _
      ∙ ap (λ l. behind (tokens ++ l) (tokens_behind (is_read.before ++ take (size_of piece) rest) 0 (drop (size_of piece) rest))) (sym (token_of-is bytes place next tokens rest piece is_read within is_behind.at));
}
