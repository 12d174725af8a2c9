-- The format of `printf` (ISO/IEC 9899:2011, 7.21.6.1): `%d`, `%ld`, `%c`, `%s` and `%%` alone.
use Rattle.std.specs.Prelude.{ℕ, ◌==◌, List, [], ◌∷◌, Option, Some, None, if◌then◌else◌}
use Rattle.std.specs.Option.{option_map}
use Rattle.kt_names.specs.declared.format.Conversion.{Conversion}
use Rattle.kt_names.specs.declared.format.Conversion.TheVariants.{Plain, Decimal, LongDecimal, Byte, Text}

abbrev pub before : Conversion → Option (List Conversion) → Option (List Conversion)
before c rest = option_map (λ cs. c ∷ cs) rest

-- a conversion of one letter, or `%%`, and the pieces behind it
abbrev pub short_of : ℕ → Option (List Conversion) → Option (List Conversion)
short_of c rest =
    if c == 100 then before Decimal rest
    else (if c == 99 then before Byte rest
    else (if c == 115 then before Text rest
    else (if c == 37 then before (Plain 37) rest
    else None)))

-- the pieces of a format; none where it has another conversion
unfoldable pub format_of : List ℕ → Option (List Conversion)
format_of [] = Some []
format_of (b ∷ []) = if b == 37 then None else Some (Plain b ∷ [])
format_of (b ∷ c ∷ []) =
    if b == 37 then short_of c (Some []) else before (Plain b) (format_of (c ∷ []))
format_of (b ∷ c ∷ d ∷ rest) =
    if b == 37
    then (if (c == 108) then (if d == 100 then before LongDecimal (format_of rest) else None) else short_of c (format_of (d ∷ rest)))
    else before (Plain b) (format_of (c ∷ d ∷ rest))

-- ---- the first piece of a format, and what is behind it

abbrev pub short_piece : ℕ → Option Conversion
short_piece c =
    if c == 100 then Some Decimal
    else (if c == 99 then Some Byte
    else (if c == 115 then Some Text
    else (if c == 37 then Some (Plain 37)
    else None)))

-- behind `%l`
abbrev pub long_piece : List ℕ → Option (Conversion × List ℕ)
long_piece [] = None
long_piece (d ∷ rest) = if d == 100 then Some (LongDecimal, rest) else None

-- behind `%`
abbrev pub percent_piece : List ℕ → Option (Conversion × List ℕ)
percent_piece [] = None
percent_piece (c ∷ rest) = if c == 108 then long_piece rest else option_map (λ p. (p, rest)) (short_piece c)

abbrev pub first_piece : List ℕ → Option (Conversion × List ℕ)
first_piece [] = None
first_piece (b ∷ rest) = if b == 37 then percent_piece rest else Some (Plain b, rest)
