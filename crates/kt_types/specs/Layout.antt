-- The layout of types: the scalar cells of each type, as a list (ISO/IEC 9899:2011, 6.2.5 and 6.7.2.1).
use Rattle.std.specs.Prelude.{◌≡◌, ℕ, suc, zero, ◌+◌, ◌*◌, ◌<◌, ◌≤◌, ◌==◌, List, [], ◌∷◌, ◌++◌, length, slice_get, position, Option, None, Some, option_and_then, unwrap_or, if◌then◌else◌, IsSome, MatchOption}
use Rattle.std.specs.Cmp.Lexicographic.{pointwise}
use Rattle.std.specs.Option.{option_map}
use Rattle.kt_types.specs.Table.{Table, Definition, HasDistinctNames, fields_of}
use Rattle.kt_types.specs.declared.kinds.Field.{Field}
use Rattle.kt_types.specs.declared.kinds.FieldDecl.{FieldDecl}
use Rattle.kt_types.specs.declared.kinds.Ty.{Ty}
use Rattle.kt_types.specs.declared.kinds.Ty.TheVariants.{Char, Int, Long, Mutex, Struct, Array, Ptr}
use Rattle.kt_types.specs.declared.faults.TypeFault.{TypeFault}
use Rattle.kt_types.specs.declared.faults.TypeFault.TheVariants.{Twice, Incomplete, TooBig, NoMemory}

-- a list, repeated n times
unfoldable pub repeated : {X : Type 0} → ℕ → List X → List X
repeated zero xs = []
repeated (suc n) xs = xs ++ repeated n xs

-- the cells of the fields joined, where `cells_at` has the cells of each place; none where it lacks a field's
abbrev pub joined : (ℕ → Option (List Ty)) → List FieldDecl → Option (List Ty)
joined cells_at [] = Some []
joined cells_at (f ∷ fs) = option_and_then (λ cs. option_map (λ rest. cs ++ rest) (joined cells_at fs)) (cells_at f.ty)

-- the cells of a type: a scalar gives itself, a struct what `cells_by` has for its number, an array repeats its element's
abbrev pub type_cells : (ℕ → Option (List Ty)) → (ℕ → Option (List Ty)) → Ty → Option (List Ty)
type_cells cells_by cells_at Char = Some (Char ∷ [])
type_cells cells_by cells_at Int = Some (Int ∷ [])
type_cells cells_by cells_at Long = Some (Long ∷ [])
type_cells cells_by cells_at Mutex = Some (Mutex ∷ [])
type_cells cells_by cells_at (Ptr p) = Some (Ptr p ∷ [])
type_cells cells_by cells_at (Struct s) = cells_by s
type_cells cells_by cells_at (Array e n) = option_map (repeated n) (cells_at e)

-- the cells of the type at a place, through at most n types
unfoldable pub place_cells : (ℕ → Option (List Ty)) → List Ty → ℕ → ℕ → Option (List Ty)
place_cells cells_by types zero p = None
place_cells cells_by types (suc n) p = option_and_then (type_cells cells_by (place_cells cells_by types n)) (slice_get types p)

-- the cells of a struct, by these definitions, the latest first: those of its fields, by the definitions before its own
unfoldable pub struct_cells : List Ty → List Definition → ℕ → Option (List Ty)
struct_cells types [] s = None
struct_cells types (d ∷ earlier) s =
    if d.number == s then joined (place_cells (struct_cells types earlier) types (length types)) d.fields else struct_cells types earlier s

-- the layout of the type at a place: its cells; none where the type is incomplete, or the table has no such place
unfoldable pub layout : Table → ℕ → Option (List Ty)
layout t p = place_cells (struct_cells t.types t.defined) t.types (length t.types) p

-- the cells of a struct, once it is defined: those of its fields
abbrev pub struct_layout : Table → ℕ → Option (List Ty)
struct_layout t s = option_and_then (joined (layout t)) (fields_of t s)

-- the layout of the type at a place is that of its kind, by the layouts of the struct, the element and the fields that it names
abbrev pub IsFixed : Table → ℕ → Type 0
IsFixed t p = MatchOption (slice_get t.types p) (layout t p ≡ None) (λ ty. layout t p ≡ type_cells (struct_layout t) (layout t) ty)

-- the type at the place is complete
abbrev pub IsComplete : Table → ℕ → Type 0
IsComplete t p = IsSome (layout t p)

-- the cells of the complete type at a place
abbrev pub cells : Table → ℕ → List Ty
cells t p = unwrap_or (layout t p) []

-- how many cells stand before the n-th of these fields
abbrev pub cells_before : Table → List FieldDecl → ℕ → ℕ
cells_before t fields zero = 0
cells_before t [] (suc n) = 0
cells_before t (f ∷ fs) (suc n) = length (cells t f.ty) + cells_before t fs n

-- the n-th of these fields, as a look-up gives it
abbrev pub field_found : Table → List FieldDecl → ℕ → Option Field
field_found t fields n =
    option_map (λ f. record { index = n; cell = cells_before t fields n; ty = f.ty; view = f.view }) (slice_get fields n)

-- the field of this name, among these fields
abbrev pub field_named : Table → List FieldDecl → List ℕ → Option Field
field_named t fields name = option_and_then (field_found t fields) (position (λ f. pointwise ◌==◌ name f.name) fields)

-- how many cells a struct, an array or a global may have
abbrev pub cell_limit : ℕ
cell_limit = 65536

-- the places that a type names are places of the table, and the struct is one of it
abbrev pub NamesPlaces : Table → Ty → Type 0
NamesPlaces t (Struct s) = s < length t.structs
NamesPlaces t (Array e n) = e < length t.types
NamesPlaces t (Ptr p) = p < length t.types
NamesPlaces t Char = Unit {0}
NamesPlaces t Int = Unit {0}
NamesPlaces t Long = Unit {0}
NamesPlaces t Mutex = Unit {0}

-- the type is no array, or has a complete element, at least one of it, and no more cells than the limit
abbrev pub IsFitting : Table → Ty → Type 0
IsFitting t (Array e n) = IsComplete t e × (1 ≤ n) × (n * length (cells t e) ≤ cell_limit)
IsFitting t (Struct s) = Unit {0}
IsFitting t (Ptr p) = Unit {0}
IsFitting t Char = Unit {0}
IsFitting t Int = Unit {0}
IsFitting t Long = Unit {0}
IsFitting t Mutex = Unit {0}

-- the struct has no definition yet, and no two of the fields have one name
abbrev pub IsNew : Table → ℕ → List FieldDecl → Type 0
IsNew t s fields = (fields_of t s ≡ None) × HasDistinctNames fields

-- the struct may be defined by these fields
abbrev pub CanDefine : Table → ℕ → List FieldDecl → Type 0
CanDefine t s fields = IsNew t s fields × (cs : List Ty) × (joined (layout t) fields ≡ Some cs) × (length cs ≤ cell_limit)

-- why it may not: it is defined or a name stands twice; else a field's type is incomplete; else there are too many cells.
-- Memory may be wanting at any time.
abbrev pub IsFaulty : Table → ℕ → List FieldDecl → TypeFault → Type 0
IsFaulty t s fields Twice = ¬ IsNew t s fields
IsFaulty t s fields Incomplete = IsNew t s fields × (joined (layout t) fields ≡ None)
IsFaulty t s fields TooBig = IsNew t s fields × (cs : List Ty) × (joined (layout t) fields ≡ Some cs) × (cell_limit < length cs)
IsFaulty t s fields NoMemory = Unit {0}
