-- The format of `printf` (ISO/IEC 9899:2011, 7.21.6.1): `%d`, `%ld`, `%c`, `%s` and `%%` alone.
use Rattle.std.specs.Prelude.{ℕ, suc, ◌==◌, ◌&&◌, not, Bool, true, false, List, [], ◌∷◌, ◌++◌, Option, Some, None, if◌then◌else◌}
use Rattle.std.specs.Option.{option_map}
use Rattle.kt_tree.specs.declared.expr.Part.{Part}
use Rattle.kt_tree.specs.declared.expr.Part.TheVariants as part
use Rattle.kt_tree.specs.Kinds.{Scope, is_integer, points_to, char_type, long_type}
use Rattle.kt_typing.specs.declared.format.Conversion.{Conversion}
use Rattle.kt_typing.specs.declared.format.Conversion.TheVariants.{Plain, Decimal, LongDecimal, Byte, Text}

-- where reading stands in a format: between pieces, behind `%`, behind `%l`
pub data Standpoint : Type 0 where
  Between : Standpoint
  Percent : Standpoint
  Long : Standpoint

abbrev pub before : Conversion → Option (List Conversion) → Option (List Conversion)
before c rest = option_map (λ cs. c ∷ cs) rest

-- the pieces of the rest of a format; none where it has another conversion
abbrev pub format_from : Standpoint → List ℕ → Option (List Conversion)
format_from Between [] = Some []
format_from Percent [] = None
format_from Long [] = None
format_from Between (b ∷ rest) = if b == 37 then format_from Percent rest else before (Plain b) (format_from Between rest)
format_from Percent (b ∷ rest) =
    if b == 100 then before Decimal (format_from Between rest)
    else (if b == 99 then before Byte (format_from Between rest)
    else (if b == 115 then before Text (format_from Between rest)
    else (if b == 37 then before (Plain 37) (format_from Between rest)
    else (if b == 108 then format_from Long rest
    else None))))
format_from Long (b ∷ rest) = if b == 100 then before LongDecimal (format_from Between rest) else None

abbrev pub format_of : List ℕ → Option (List Conversion)
format_of bytes = format_from Between bytes

-- how many arguments the pieces take
abbrev pub taken_by : List Conversion → ℕ
taken_by [] = 0
taken_by (Plain b ∷ cs) = taken_by cs
taken_by (c ∷ cs) = suc (taken_by cs)

-- the piece takes an argument of the type
abbrev pub is_taken : Scope → Conversion → ℕ → Bool
is_taken s (Plain b) t = false
is_taken s LongDecimal t = t == long_type
is_taken s Text t = points_to s t char_type
is_taken s Decimal t = is_integer s t && not (t == long_type)
is_taken s Byte t = is_integer s t && not (t == long_type)

-- each piece but the plain ones takes one argument, of its types
abbrev pub are_taken : Scope → List Conversion → List ℕ → Bool
are_taken s [] [] = true
are_taken s [] (t ∷ ts) = false
are_taken s (Plain b ∷ cs) ts = are_taken s cs ts
are_taken s (c ∷ cs) [] = false
are_taken s (c ∷ cs) (t ∷ ts) = is_taken s c t && are_taken s cs ts

-- plain bytes before the parts, as one part
abbrev pub with_bytes : List ℕ → List Part → List Part
with_bytes [] parts = parts
with_bytes (b ∷ bytes) parts = part.Bytes (b ∷ bytes) ∷ parts

-- the parts of a format behind these plain bytes
abbrev pub parts_of : List ℕ → List Conversion → List Part
parts_of plain [] = with_bytes plain []
parts_of plain (Plain b ∷ cs) = parts_of (plain ++ b ∷ []) cs
parts_of plain (Decimal ∷ cs) = with_bytes plain (part.Number ∷ parts_of [] cs)
parts_of plain (LongDecimal ∷ cs) = with_bytes plain (part.Number ∷ parts_of [] cs)
parts_of plain (Byte ∷ cs) = with_bytes plain (part.Byte ∷ parts_of [] cs)
parts_of plain (Text ∷ cs) = with_bytes plain (part.Text ∷ parts_of [] cs)
