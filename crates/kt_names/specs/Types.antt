-- Types of expressions, and the table of types that a file's text gives.
use Rattle.std.specs.Prelude.{ℕ, zero, suc, ◌==◌, ◌&&◌, ◌||◌, not, Bool, true, false, List, [], ◌∷◌, ◌++◌, Option, Some, None, if◌then◌else◌}
use Rattle.std.specs.Option.{is_some}
use Rattle.std.specs.List.{position_from}
use Rattle.std.specs.Str.{bytes_eq}
use Rattle.kt_types.specs.declared.kinds.Ty.{Ty}
use Rattle.kt_types.specs.declared.kinds.Ty.TheVariants as ty
use Rattle.kt_grammar.specs.declared.tree.Base.{Base}
use Rattle.kt_grammar.specs.declared.tree.Base.TheVariants as base
use Rattle.kt_names.specs.declared.ctype.Root.{Root}
use Rattle.kt_names.specs.declared.ctype.Root.TheVariants as root
use Rattle.kt_names.specs.declared.ctype.CType.{CType}
use Rattle.kt_names.specs.Uses.{Use, Starred, Arrayed}

-- the place of what passes the test, among these; 0 where none does
abbrev pub place_by : {A : Type 0} → (A → Bool) → List A → ℕ
place_by test xs = elim (position_from test 0 xs) as (λ _. ℕ) [ None ↦ 0 | (Some n) ↦ n ]

abbrev pub has_by : {A : Type 0} → (A → Bool) → List A → Bool
has_by test xs = is_some (position_from test 0 xs)

-- the names, each once, in the order of their first places
abbrev pub with_name : List (List ℕ) → List ℕ → List (List ℕ)
with_name names n = if has_by (λ m. bytes_eq m n) names then names else names ++ n ∷ []

abbrev pub with_names : List (List ℕ) → List (List ℕ) → List (List ℕ)
with_names names [] = names
with_names names (n ∷ rest) = with_names (with_name names n) rest

abbrev pub number_of_struct : List (List ℕ) → List ℕ → ℕ
number_of_struct structs n = place_by (λ m. bytes_eq m n) structs

-- ---- types of expressions (ISO/IEC 9899:2011, 6.2.5)

abbrev pub root_of : List (List ℕ) → Base → Root
root_of structs base.Char = root.Char
root_of structs base.Int = root.Int
root_of structs base.Long = root.Long
root_of structs base.Mutex = root.Mutex
root_of structs (base.Struct n) = root.Struct (number_of_struct structs n.word)

-- the type of a base with so many stars
abbrev pub ctype : List (List ℕ) → Base → ℕ → CType
ctype structs b stars = record { root = root_of structs b; stars = stars }

abbrev pub char : CType
char = record { root = root.Char; stars = 0 }

abbrev pub int : CType
int = record { root = root.Int; stars = 0 }

abbrev pub long : CType
long = record { root = root.Long; stars = 0 }

abbrev pub mutex : CType
mutex = record { root = root.Mutex; stars = 0 }

abbrev pub pointer_to : CType → CType
pointer_to t = record t { stars = suc t.stars }

-- what a pointer of the type points to; none where it is no pointer
abbrev pub pointee_by : Root → ℕ → Option CType
pointee_by r zero = None
pointee_by r (suc stars) = Some (record { root = r; stars = stars })

abbrev pub pointee : CType → Option CType
pointee t = pointee_by t.root t.stars

abbrev pub is_pointer : CType → Bool
is_pointer t = not (t.stars == 0)

abbrev pub is_integer_root : Root → Bool
is_integer_root root.Char = true
is_integer_root root.Int = true
is_integer_root root.Long = true
is_integer_root root.Mutex = false
is_integer_root (root.Struct s) = false

abbrev pub is_integer : CType → Bool
is_integer t = (t.stars == 0) && is_integer_root t.root

abbrev pub is_scalar : CType → Bool
is_scalar t = is_integer t || is_pointer t

abbrev pub same_root : Root → Root → Bool
same_root root.Char root.Char = true
same_root root.Int root.Int = true
same_root root.Long root.Long = true
same_root root.Mutex root.Mutex = true
same_root (root.Struct s) (root.Struct r) = s == r
same_root _ _ = false

abbrev pub same_ctype : CType → CType → Bool
same_ctype a b = same_root a.root b.root && (a.stars == b.stars)

-- the type that two integers take in arithmetic (6.3.1.8)
abbrev pub common : CType → CType → CType
common a b = if same_ctype a long || same_ctype b long then long else int

-- ---- the table

-- two types of a table are one
abbrev pub same_type : Ty → Ty → Bool
same_type ty.Char ty.Char = true
same_type ty.Int ty.Int = true
same_type ty.Long ty.Long = true
same_type ty.Mutex ty.Mutex = true
same_type (ty.Struct s) (ty.Struct r) = s == r
same_type (ty.Array e n) (ty.Array f m) = (e == f) && (n == m)
same_type (ty.Ptr e) (ty.Ptr f) = e == f
same_type _ _ = false

abbrev pub place_of_type : List Ty → Ty → ℕ
place_of_type types t = place_by (same_type t) types

-- the types, with this one at the end where they lack it
abbrev pub with_type : List Ty → Ty → List Ty
with_type types t = if has_by (same_type t) types then types else types ++ t ∷ []

abbrev pub root_type : Root → Ty
root_type root.Char = ty.Char
root_type root.Int = ty.Int
root_type root.Long = ty.Long
root_type root.Mutex = ty.Mutex
root_type (root.Struct s) = ty.Struct s

-- the place of a type with so many stars
abbrev pub starred_place : List Ty → Root → ℕ → ℕ
starred_place types r zero = place_of_type types (root_type r)
starred_place types r (suc n) = place_of_type types (ty.Ptr (starred_place types r n))

-- the place of a type in the table
abbrev pub place_in : List Ty → CType → ℕ
place_in types t = starred_place types t.root t.stars

-- the types, with this one and all that it points to
abbrev pub with_starred : List Ty → Root → ℕ → List Ty
with_starred types r zero = with_type types (root_type r)
with_starred types r (suc n) = let before = with_starred types r n in with_type before (ty.Ptr (starred_place before r n))

abbrev pub with_use : List (List ℕ) → List Ty → Use → List Ty
with_use structs types (Starred b stars) = with_starred types (root_of structs b) stars
with_use structs types (Arrayed b stars n) = with_type types (ty.Array (starred_place types (root_of structs b) stars) n)

abbrev pub with_uses : List (List ℕ) → List Ty → List Use → List Ty
with_uses structs types [] = types
with_uses structs types (u ∷ rest) = with_uses structs (with_use structs types u) rest

-- the scalar types at the places 0 to 3
abbrev pub scalars : List Ty
scalars = ty.Char ∷ ty.Int ∷ ty.Long ∷ ty.Mutex ∷ []
