-- The types of rule code: those of the old version, and behind them `char *`, pointers to what its globals, fields and structs
-- are, and its structs, where it lacks them.
use Rattle.std.specs.Prelude.{ℕ, suc, ◌==◌, Bool, false, List, [], ◌∷◌, ◌++◌, map, flat_map, position, slice_get, Option, None, Some, if◌then◌else◌}
use Rattle.std.specs.List.{list_any}
use Rattle.kt_types.specs.declared.kinds.FieldDecl.{FieldDecl}
use Rattle.kt_types.specs.declared.kinds.Ty.{Ty}
use Rattle.kt_types.specs.declared.kinds.Ty.TheVariants.{Struct, Ptr}
use Rattle.kt_types.specs.Table.{Table, Definition}
use Rattle.kt_tree.specs.Kinds.{char_type, field_pointee_of}
use Rattle.kt_tree.specs.Version.{Program}

abbrev pub is_pointer_to : ℕ → Ty → Bool
is_pointer_to e (Ptr a) = a == e
is_pointer_to e _ = false

abbrev pub is_struct : ℕ → Ty → Bool
is_struct s (Struct r) = r == s
is_struct s _ = false

-- the place of the type of pointers to a type, and of the type of a struct

abbrev pub pointer_place : List Ty → ℕ → Option ℕ
pointer_place types e = position (is_pointer_to e) types

abbrev pub struct_place : List Ty → ℕ → Option ℕ
struct_place types s = position (is_struct s) types

-- the types with one more, where they lack it

abbrev pub with_pointer : List Ty → ℕ → List Ty
with_pointer types e = if list_any (is_pointer_to e) types then types else types ++ Ptr e ∷ []

abbrev pub with_struct : List Ty → ℕ → List Ty
with_struct types s = if list_any (is_struct s) types then types else types ++ Struct s ∷ []

abbrev pub with_pointers : List Ty → List ℕ → List Ty
with_pointers types [] = types
with_pointers types (e ∷ rest) = with_pointers (with_pointer types e) rest

abbrev pub with_pointer_there : List Ty → Option ℕ → List Ty
with_pointer_there types None = types
with_pointer_there types (Some e) = with_pointer types e

-- with so many structs, of which this is the number of the first, and pointers to them
abbrev pub with_structs : List Ty → ℕ → List (List ℕ) → List Ty
with_structs types s [] = types
with_structs types s (n ∷ rest) =
    let more = with_struct types s in
    with_structs (with_pointer_there more (struct_place more s)) (suc s) rest

-- what a pointer to a field points to
abbrev pub field_pointee : Table → FieldDecl → ℕ
field_pointee t d = field_pointee_of (slice_get t.types d.ty) d.ty

abbrev pub pointees_in : Table → Definition → List ℕ
pointees_in t d = map (field_pointee t) d.fields

abbrev pub rule_types : Program → Table
rule_types p =
    let pointees = char_type ∷ map (λ g. g.ty) p.globals ++ flat_map (pointees_in p.types) p.types.defined in
    record p.types { types = with_structs (with_pointers p.types.types pointees) 0 p.types.structs }
