-- The pieces of a format, one by one.
use Rattle.std.proofs.Common.{◌≡◌, ◌==◌, ℕ, ◌<◌, ◌++◌, Bool, true, false, List, [], ◌∷◌, length, Option, Some, None, if◌then◌else◌, refl, sym, ap, ◌∙◌, arith, append_assoc, append-nil}
use Rattle.std.specs.Option.{option_map}
use Rattle.std.proofs.lemmas.Bool.Decides.{Decides-eqb}
use Rattle.kt_names.specs.declared.format.Conversion.{Conversion}
use Rattle.kt_names.specs.declared.format.Conversion.TheVariants.{LongDecimal}
use Rattle.kt_names.specs.Formats.{before, short_of, short_piece, long_piece, percent_piece, first_piece, format_of}

abbrev pub from_piece : Option (Conversion × List ℕ) → Option (List Conversion)
from_piece None = None
from_piece (Some p) = before p.0 (format_of p.1)

short-from : (c : ℕ) (rest : List ℕ) → short_of c (format_of rest) ≡ from_piece (option_map (λ p. (p, rest)) (short_piece c))
short-from c rest = by (c == 100) (c == 99) (c == 115) (c == 37) refl refl refl refl
  where
    by : (d e f g : Bool) → (c == 100) ≡ d → (c == 99) ≡ e → (c == 115) ≡ f → (c == 37) ≡ g → short_of c (format_of rest) ≡ from_piece (option_map (λ p. (p, rest)) (short_piece c))
    by true e f g i j k l = rw i refl
    by false true f g i j k l = rw (i, j) refl
    by false false true g i j k l = rw (i, j, k) refl
    by false false false true i j k l = rw (i, j, k, l) refl
    by false false false false i j k l = rw (i, j, k, l) refl

-- an `l` alone is no conversion
ell : (c : ℕ) (rest : Option (List Conversion)) → (c == 108) ≡ true → short_of c rest ≡ None
ell c rest e = ap (λ n. short_of n rest) ((Decides-eqb c 108).0 e)

long-from : (d : ℕ) (rest : List ℕ) → (if d == 100 then before LongDecimal (format_of rest) else None) ≡ from_piece (long_piece (d ∷ rest))
long-from d rest = by (d == 100) refl
  where
    by : (t : Bool) → (d == 100) ≡ t → (if d == 100 then before LongDecimal (format_of rest) else None) ≡ from_piece (long_piece (d ∷ rest))
    by true i = rw i refl
    by false i = rw i refl

-- a format's pieces are its first piece and those of what is behind it
pub by_pieces : (b : ℕ) (format : List ℕ) → format_of (b ∷ format) ≡ from_piece (first_piece (b ∷ format))
unfolding format_of
by_pieces b [] = by (b == 37) refl
  where
    by : (t : Bool) → (b == 37) ≡ t → format_of (b ∷ []) ≡ from_piece (first_piece (b ∷ []))
    by true i = rw i refl
    by false i = rw i refl
by_pieces b (c ∷ []) = by (b == 37) (c == 108) refl refl
  where
    by : (t u : Bool) → (b == 37) ≡ t → (c == 108) ≡ u → format_of (b ∷ c ∷ []) ≡ from_piece (first_piece (b ∷ c ∷ []))
    by true true i j = rw (i, j) (ell c (Some []) j)
    by true false i j = rw (i, j) (short-from c [])
    by false u i j = rw i refl
by_pieces b (c ∷ d ∷ rest) = by (b == 37) (c == 108) refl refl
  where
    by : (t u : Bool) → (b == 37) ≡ t → (c == 108) ≡ u → format_of (b ∷ c ∷ d ∷ rest) ≡ from_piece (first_piece (b ∷ c ∷ d ∷ rest))
    by true true i j = rw (i, j) (long-from d rest)
    by true false i j = rw (i, j) (short-from c (d ∷ rest))
    by false u i j = rw i refl

-- ---- from piece to piece

abbrev pub joined : List Conversion → Option (List Conversion) → Option (List Conversion)
joined pieces rest = option_map (λ cs. pieces ++ cs) rest

joined-before : (pieces : List Conversion) (c : Conversion) (rest : Option (List Conversion)) → joined pieces (before c rest) ≡ joined (pieces ++ c ∷ []) rest
joined-before pieces c None = refl
joined-before pieces c (Some cs) = ap Some (sym (append_assoc pieces (c ∷ []) cs))

pub next : (pieces : List Conversion) (rest behind : List ℕ) (c : Conversion) (whole : Option (List Conversion)) → Some (c, behind) ≡ first_piece rest
    → joined pieces (format_of rest) ≡ whole → joined (pieces ++ c ∷ []) (format_of behind) ≡ whole
next pieces [] behind c whole e h = absurd cc
next pieces (b ∷ rest) behind c whole e h =
    sym (joined-before pieces c (format_of behind)) ∙ ap (λ p. joined pieces (from_piece p)) e ∙ ap (joined pieces) (sym (by_pieces b rest)) ∙ h

pub none-next : (pieces : List Conversion) (rest : List ℕ) (whole : Option (List Conversion)) → None ≡ first_piece rest → 0 < length rest → joined pieces (format_of rest) ≡ whole → whole ≡ None
none-next pieces [] whole e n h = absurd (omega arith)
none-next pieces (b ∷ rest) whole e n h = sym h ∙ ap (joined pieces) (by_pieces b rest ∙ ap from_piece (sym e))

pub ended : (pieces : List Conversion) (rest : List ℕ) (whole : Option (List Conversion)) → length rest ≡ 0 → joined pieces (format_of rest) ≡ whole → whole ≡ Some pieces
unfolding format_of
ended pieces [] whole n h = sym h ∙ ap Some (append-nil pieces)
ended pieces (b ∷ rest) whole n h = absurd (omega arith)

pub begun : (rest : Option (List Conversion)) → joined [] rest ≡ rest
begun None = refl
begun (Some cs) = refl

-- what is behind a piece is shorter
abbrev behind : List ℕ → Option (Conversion × List ℕ) → List ℕ
behind other None = other
behind other (Some p) = p.1

long-shorter : (format rest : List ℕ) (c : Conversion) → Some (c, rest) ≡ long_piece format → length rest < length format
long-shorter [] rest c e = absurd cc
long-shorter (d ∷ format) rest c e = by (d == 100) refl
  where
    by : (t : Bool) → (d == 100) ≡ t → length rest < length (d ∷ format)
    by true i = let same : rest ≡ format = ap (behind rest) (rw i at e) in omega (arith, ap length same)
    by false i = absurd cc (rw i at e)

abbrev with_rest : List ℕ → Conversion → Conversion × List ℕ
with_rest rest c = (c, rest)

short-shorter : (p : Option Conversion) (format rest : List ℕ) (c : Conversion) → Some (with_rest rest c) ≡ option_map (with_rest format) p → rest ≡ format
short-shorter None format rest c e = absurd cc
short-shorter (Some q) format rest c e = ap (behind rest) e

percent-shorter : (format rest : List ℕ) (c : Conversion) → Some (c, rest) ≡ percent_piece format → length rest < length format
percent-shorter [] rest c e = absurd cc
percent-shorter (d ∷ format) rest c e = by (d == 108) refl
  where
    by : (t : Bool) → (d == 108) ≡ t → length rest < length (d ∷ format)
    by true i = let h = long-shorter format rest c (rw i at e) in omega arith
    by false i = let same = short-shorter (short_piece d) format rest c (rw i at e) in omega (arith, ap length same)

pub shorter : (format rest : List ℕ) (c : Conversion) → Some (c, rest) ≡ first_piece format → length rest < length format
shorter [] rest c e = absurd cc
shorter (d ∷ format) rest c e = by (d == 37) refl
  where
    by : (t : Bool) → (d == 37) ≡ t → length rest < length (d ∷ format)
    by true i = let h = percent-shorter format rest c (rw i at e) in omega arith
    by false i = let same : rest ≡ format = ap (behind rest) (rw i at e) in omega (arith, ap length same)
