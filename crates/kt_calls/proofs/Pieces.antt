-- The pieces of a format, byte by byte.
use Rattle.std.proofs.Common.{◌≡◌, ℕ, List, [], ◌∷◌, ◌++◌, Option, Some, None, refl, ap, append_assoc}
use Rattle.kt_typing.specs.declared.format.Conversion.{Conversion}
use Rattle.kt_typing.specs.Formats.{before, format_from}
use Rattle.kt_calls.specs.declared.format.Standpoint.{Standpoint}
use Rattle.kt_calls.specs.Arguments.{joined}
use Rattle.kt_calls.specs.Standpoints.{standpoint_of, read_as, with_piece}

before-joined : (cs : List Conversion) (c : Conversion) (rest : Option (List Conversion)) → joined (cs ++ c ∷ []) rest ≡ joined cs (before c rest)
before-joined cs c None = refl
before-joined cs c (Some ds) = ap Some (append_assoc cs (c ∷ []) ds)

pub piece-read : (cs : List Conversion) (o : Option Conversion) (s : Standpoint) (rest : List ℕ) → joined (with_piece cs o) (format_from (standpoint_of s) rest) ≡ joined cs (read_as o s rest)
piece-read cs None s rest = refl
piece-read cs (Some c) s rest = before-joined cs c (format_from (standpoint_of s) rest)

pub joined-nil : {A : Type 0} (o : Option (List A)) → joined [] o ≡ o
joined-nil None = refl
joined-nil (Some xs) = refl
