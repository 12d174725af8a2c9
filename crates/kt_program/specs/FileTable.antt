-- The table of types of a file: in the order of the file, each type as it is spelled, and each struct where it is defined (ISO/IEC
-- 9899:2011, 6.2.5 and 6.7.2.1). What no table can have is left out: an array whose element has no cells there, or of no or too many
-- elements, and a definition of a struct that is defined, that names a field twice, or whose fields have no cells there or too many.
-- A file with one of these has a fault at it, and what it could change stands behind.
use Rattle.std.specs.Prelude.{ℕ, ◌*◌, ◌&&◌, Bool, true, false, not, nat_le, List, [], ◌∷◌, length, map, Option, Some, None, if◌then◌else◌}
use Rattle.std.specs.Option.{is_some}
use Rattle.kt_lex.specs.declared.number.Number.{Number}
use Rattle.kt_syntax.specs.Tree.{External, StructDefined}
use Rattle.kt_types.specs.declared.kinds.FieldDecl.{FieldDecl}
use Rattle.kt_types.specs.declared.kinds.Ty.{Ty}
use Rattle.kt_types.specs.declared.kinds.Ty.TheVariants as ty
use Rattle.kt_types.specs.Layout.{cell_limit, joined, layout}
use Rattle.kt_types.specs.Table.{Table, fields_of, with_definition}
use Rattle.kt_program.specs.Gathered.{OuterGlobal, declared_type, globals_of, struct_names}
use Rattle.kt_program.specs.Mentioned.{Spelling, Starred, Arrayed, external_spellings}
use Rattle.kt_program.specs.Types.{base_type, number_of_struct, place_in, place_of_type, scalars, starred_place, with_starred, with_type}
use Rattle.kt_program.specs.Scopes.{contains}
use Rattle.kt_program.specs.Views.{Field, all_fields, field_view}

-- ---- types

-- so many of an element can be an array
abbrev pub can_repeat : ℕ → Option (List Ty) → Bool
can_repeat n None = false
can_repeat n (Some cells) = nat_le 1 n && nat_le (n * length cells) cell_limit

abbrev pub with_array : Table → ℕ → ℕ → Table
with_array t e n = if can_repeat n (layout t e) then record t { types = with_type t.types (ty.Array e n) } else t

abbrev pub with_spelling : Table → Spelling → Table
with_spelling t (Starred b stars) = record t { types = with_starred t.types (base_type t.structs b) stars }
with_spelling t (Arrayed b stars n) = with_array t (starred_place t.types (base_type t.structs b) stars) n

abbrev pub with_spellings : Table → List Spelling → Table
with_spellings t [] = t
with_spellings t (u ∷ rest) = with_spellings (with_spelling t u) rest

-- ---- structs

-- a field's type: that of its declarator, or an array of it
abbrev pub counted_place : Table → ℕ → Option Number → ℕ
counted_place t e None = e
counted_place t e (Some n) = place_of_type t.types (ty.Array e n.value)

abbrev pub field_of : Table → List OuterGlobal → List Field → Field → FieldDecl
field_of t globals fields x = record {
  name = x.declarator.name.word;
  ty = counted_place t (place_in t.types (declared_type t.structs x.base x.declarator.pointer)) x.declarator.count;
  view = field_view globals fields x;
}

abbrev pub are_few : Option (List Ty) → Bool
are_few None = false
are_few (Some cells) = nat_le (length cells) cell_limit

abbrev pub are_distinct : List (List ℕ) → Bool
are_distinct [] = true
are_distinct (n ∷ rest) = not (contains rest n) && are_distinct rest

-- the struct of that number can be defined by these fields
abbrev pub can_define : Table → ℕ → List FieldDecl → Bool
can_define t s fields = not (is_some (fields_of t s)) && are_distinct (map (λ f. f.name) fields) && are_few (joined (layout t) fields)

abbrev pub with_struct : Table → ℕ → List FieldDecl → Table
with_struct t s fields = if can_define t s fields then with_definition t s fields else t

-- ---- files

-- behind the types that it spells, a struct is defined
abbrev pub with_external : List OuterGlobal → Table → External → Table
with_external globals t (StructDefined n fs) =
    let u = with_spellings t (external_spellings (StructDefined n fs)) in
    with_struct u (number_of_struct u.structs n.word) (map (field_of u globals (all_fields fs)) (all_fields fs))
with_external globals t x = with_spellings t (external_spellings x)

abbrev pub with_externals : List OuterGlobal → Table → List External → Table
with_externals globals t [] = t
with_externals globals t (x ∷ rest) = with_externals globals (with_external globals t x) rest

-- the names of all structs, and the scalar types
abbrev pub start : List External → Table
start xs = record { types = scalars; structs = struct_names xs; defined = [] }

abbrev pub table_of : List External → Table
table_of xs = with_externals (globals_of xs) (start xs) xs
