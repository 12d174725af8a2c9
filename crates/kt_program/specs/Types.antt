-- Types as a file spells them, and the table of types that it gives.
use Rattle.std.specs.Prelude.{ℕ, zero, suc, ◌==◌, ◌&&◌, Bool, true, false, List, [], ◌∷◌, ◌++◌, Option, Some, None, if◌then◌else◌}
use Rattle.std.specs.Option.{is_some}
use Rattle.std.specs.List.{position_from}
use Rattle.std.specs.Str.{bytes_eq}
use Rattle.kt_types.specs.declared.kinds.Ty.{Ty}
use Rattle.kt_types.specs.declared.kinds.Ty.TheVariants as ty
use Rattle.kt_grammar.specs.declared.tree.Base.{Base}
use Rattle.kt_grammar.specs.declared.tree.Base.TheVariants as base

abbrev pub or_first : Option ℕ → ℕ
or_first None = 0
or_first (Some n) = n

-- the place of what passes the test, among these; 0 where none does
abbrev pub place_by : {A : Type 0} → (A → Bool) → List A → ℕ
place_by test xs = or_first (position_from test 0 xs)

abbrev pub has_by : {A : Type 0} → (A → Bool) → List A → Bool
has_by test xs = is_some (position_from test 0 xs)

-- the names, each once, in the order of their first places
abbrev pub with_name : List (List ℕ) → List ℕ → List (List ℕ)
with_name names n = if has_by (λ m. bytes_eq m n) names then names else names ++ n ∷ []

abbrev pub with_names : List (List ℕ) → List (List ℕ) → List (List ℕ)
with_names names [] = names
with_names names (n ∷ rest) = with_names (with_name names n) rest

abbrev pub number_of_struct : List (List ℕ) → List ℕ → ℕ
number_of_struct structs n = place_by (λ m. bytes_eq m n) structs

-- ---- types of declarations (ISO/IEC 9899:2011, 6.2.5)

-- a type that is no pointer, and how many stars follow it
pub record Spelled : Type 0 where
  pub base : Ty
  pub stars : ℕ

abbrev pub base_type : List (List ℕ) → Base → Ty
base_type structs base.Char = ty.Char
base_type structs base.Int = ty.Int
base_type structs base.Long = ty.Long
base_type structs base.Mutex = ty.Mutex
base_type structs (base.Struct n) = ty.Struct (number_of_struct structs n.word)

abbrev pub spelled : List (List ℕ) → Base → ℕ → Spelled
spelled structs b stars = record { base = base_type structs b; stars = stars }

abbrev pub int : Spelled
int = record { base = ty.Int; stars = 0 }

-- two types of a table are one
abbrev pub same_type : Ty → Ty → Bool
same_type ty.Char ty.Char = true
same_type ty.Int ty.Int = true
same_type ty.Long ty.Long = true
same_type ty.Mutex ty.Mutex = true
same_type (ty.Struct s) (ty.Struct r) = s == r
same_type (ty.Array e n) (ty.Array f m) = (e == f) && (n == m)
same_type (ty.Ptr e) (ty.Ptr f) = e == f
same_type _ _ = false

abbrev pub same_spelled : Spelled → Spelled → Bool
same_spelled a b = same_type a.base b.base && (a.stars == b.stars)

-- ---- the table

abbrev pub place_of_type : List Ty → Ty → ℕ
place_of_type types t = place_by (same_type t) types

-- the types, with this one at the end where they lack it
abbrev pub with_type : List Ty → Ty → List Ty
with_type types t = if has_by (same_type t) types then types else types ++ t ∷ []

-- the place of a type with so many stars
abbrev pub starred_place : List Ty → Ty → ℕ → ℕ
starred_place types t zero = place_of_type types t
starred_place types t (suc n) = place_of_type types (ty.Ptr (starred_place types t n))

abbrev pub place_in : List Ty → Spelled → ℕ
place_in types t = starred_place types t.base t.stars

-- the types, with this one and all that it points to
abbrev pub with_starred : List Ty → Ty → ℕ → List Ty
with_starred types t zero = with_type types t
with_starred types t (suc n) = let before = with_starred types t n in with_type before (ty.Ptr (starred_place before t n))

-- the scalar types at the places 0 to 3
abbrev pub scalars : List Ty
scalars = ty.Char ∷ ty.Int ∷ ty.Long ∷ ty.Mutex ∷ []
