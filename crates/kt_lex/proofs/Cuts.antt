-- A file that has tokens is cut into gaps and spellings.
use Rattle.std.proofs.Common.{◌≡◌, ℕ, ◌+◌, ◌<◌, ◌≤◌, zero, suc, List, [], ◌∷◌, ◌++◌, length, take, drop, Result, Ok, Err, sym, refl, ap, ◌∙◌, subst, arith, append-nil, take-append-drop, length-take-le, length-drop}
use Rattle.std.specs.List.{flat_map}
use Rattle.std.proofs.lemmas.List.Concat.{flat_map-cons}
use Rattle.kt_lex.specs.declared.token.Token.{Token}
use Rattle.kt_lex.specs.declared.token.LexFault.{LexFault}
use Rattle.kt_lex.specs.declared.front.Piece.{Piece}
use Rattle.kt_lex.specs.declared.front.Piece.TheVariants.{Gap, Word}
use Rattle.kt_lex.specs.Tokens.{line_after, is_indented, front, size_of, token_of, behind, tokens_behind, tokens_of}
use Rattle.kt_lex.specs.Cover.{Part, IsPart, AreParts, spelling_of, token_at, tokens_at, TokensAreCut}
use Rattle.kt_lex.proofs.Fronts.{part_of, IsPieceOf, front-is}
use Rattle.kt_lex.proofs.Reading.{tokens_behind-front, tokens_behind-fault, tokens_behind-nil}

-- a rest that stands behind the bytes `before` is cut into parts
record IsCutBehind (before rest : List ℕ) (tokens : List Token) : Type 0 where
  parts : List Part
  joined : flat_map spelling_of parts ≡ rest
  each : AreParts before parts []
  listed : tokens_at before parts ≡ tokens

pub spelling_of-part : (piece : Piece) (spelling : List ℕ) → spelling_of (part_of piece spelling) ≡ spelling
spelling_of-part (Gap n) spelling = refl
spelling_of-part (Word kind n) spelling = refl

token_at-part : (before : List ℕ) (piece : Piece) (spelling : List ℕ) → length spelling ≡ size_of piece → token_at before (part_of piece spelling) ≡ token_of before piece
token_at-part before (Gap n) spelling h = refl
token_at-part before (Word kind n) spelling h =
    ap (λ k. record { kind = kind; at = length before; end = length before + k; line = line_after before } ∷ []) h

ok_is : (x y : List Token) → ◌≡◌ {A = Result (List Token) LexFault} (Ok x) (Ok y) → x ≡ y
ok_is x y h = cc

no_fault : (x : List Token) (fault : LexFault) → ◌≡◌ {A = Result (List Token) LexFault} (Err fault) (Ok x) → ⊥
no_fault x fault h = cc

nothing_left : (before : List ℕ) (tokens : List Token) → tokens_behind before 0 [] ≡ Ok tokens → IsCutBehind before [] tokens
nothing_left before tokens h = record {
  parts = [];
  joined = refl;
  each = tt;
  listed = ok_is [] tokens (sym (tokens_behind-nil before) ∙ h);
}

-- a piece is a part before those behind it
pub part_before : (before rest : List ℕ) (piece : Piece) (parts : List Part) (after : List ℕ) → IsPieceOf before rest piece
    → flat_map spelling_of parts ++ after ≡ drop (size_of piece) rest → AreParts (before ++ take (size_of piece) rest) parts after
    → AreParts before (part_of piece (take (size_of piece) rest) ∷ parts) after
part_before before rest piece parts after is_piece joined each = (
  subst (IsPart before (part_of piece (take (size_of piece) rest))) (sym joined) is_piece.part,
  subst (λ l. AreParts (before ++ l) parts after) (sym (spelling_of-part piece (take (size_of piece) rest))) each,
)

-- a part, and the parts behind it
more_parts : (before rest : List ℕ) (piece : Piece) (more : List Token) → IsPieceOf before rest piece → IsCutBehind (before ++ take (size_of piece) rest) (drop (size_of piece) rest) more → IsCutBehind before rest (token_of before piece ++ more)
more_parts before rest piece more is_piece cut =
    let spelling = take (size_of piece) rest in
    let part = part_of piece spelling in
    record {
      parts = part ∷ cut.parts;
      joined = flat_map-cons spelling_of part cut.parts ∙ ap (λ l. l ++ flat_map spelling_of cut.parts) (spelling_of-part piece spelling) ∙ ap (λ l. spelling ++ l) cut.joined ∙ take-append-drop (size_of piece) rest;
      each = part_before before rest piece cut.parts [] is_piece (append-nil (flat_map spelling_of cut.parts) ∙ cut.joined) cut.each;
      listed =
          ap (λ l. l ++ tokens_at (before ++ spelling_of part) cut.parts) (token_at-part before piece spelling (length-take-le (size_of piece) rest is_piece.within))
          ∙ ap (λ l. token_of before piece ++ tokens_at (before ++ l) cut.parts) (spelling_of-part piece spelling)
          ∙ ap (λ l. token_of before piece ++ l) cut.listed;
    }

-- what is read of a piece and of what follows it
read_on_is : (first : List Token) (read : Result (List Token) LexFault) (tokens : List Token) → behind first read ≡ Ok tokens → (more : List Token) × (read ≡ Ok more) × (first ++ more ≡ tokens)
read_on_is first (Ok more) tokens h = (more, refl, ok_is (first ++ more) tokens h)
read_on_is first (Err fault) tokens h = absurd (no_fault tokens fault h)

-- a rest that is read begins with a piece
piece_at : (before rest : List ℕ) (tokens : List Token) → 0 < length rest → tokens_behind before 0 rest ≡ Ok tokens → (found : Result Piece LexFault) → front (length before) (is_indented before) rest ≡ found → (piece : Piece) × (front (length before) (is_indented before) rest ≡ Ok piece)
piece_at before rest tokens some h (Ok piece) is = (piece, is)
piece_at before rest tokens some h (Err fault) is = absurd (no_fault tokens fault (sym (tokens_behind-fault before rest fault some is) ∙ h))

-- each part has a byte, so `most` bytes have at most as many parts
cut_behind : (most : ℕ) (before rest : List ℕ) (tokens : List Token) → length rest ≤ most → tokens_behind before 0 rest ≡ Ok tokens → IsCutBehind before rest tokens
cut_behind most before [] tokens short h = nothing_left before tokens h
cut_behind zero before (b ∷ rest) tokens short h = absurd (omega arith)
cut_behind (suc most) before (b ∷ rest) tokens short h =
    let some : 0 < length (b ∷ rest) = omega arith in
    let found = piece_at before (b ∷ rest) tokens some h _ refl in
    let piece = found.0 in
    let is_piece = front-is before (b ∷ rest) piece some found.1 in
    let less : length (drop (size_of piece) (b ∷ rest)) ≤ most = omega (arith, is_piece.positive, length-drop (size_of piece) (b ∷ rest)) in
    let read = read_on_is (token_of before piece) _ tokens (sym (tokens_behind-front before (b ∷ rest) piece some is_piece.positive found.1) ∙ h) in
    let cut = cut_behind most (before ++ take (size_of piece) (b ∷ rest)) (drop (size_of piece) (b ∷ rest)) read.0 less read.1 in
    subst (IsCutBehind before (b ∷ rest)) read.2 (more_parts before (b ∷ rest) piece read.0 is_piece cut)

pub tokens_are_cut : TokensAreCut
unfolding tokens_of
tokens_are_cut bytes tokens h =
    let whole : length bytes ≤ length bytes = omega arith in
    let cut = cut_behind (length bytes) [] bytes tokens whole h in
    (cut.parts, record { joined = cut.joined; each = cut.each; listed = cut.listed })
