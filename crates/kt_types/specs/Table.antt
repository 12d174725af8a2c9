-- The table of types of a version: its types, the names of its structs and their definitions.
use Rattle.std.specs.Prelude.{◌≡◌, ◌≢◌, ℕ, ◌<◌, ◌==◌, List, [], ◌∷◌, ◌++◌, slice_get, Option, None, Some, if◌then◌else◌}
use Rattle.kt_types.specs.declared.kinds.FieldDecl.{FieldDecl}
use Rattle.kt_types.specs.declared.kinds.Ty.{Ty}
use Rattle.kt_types.specs.declared.kinds.Ty.TheVariants.{Char, Int, Long, Mutex}

-- the definition of a struct: its number, and its fields in the order of their declarations
pub record Definition : Type 0 where
  pub number : ℕ
  pub fields : List FieldDecl

-- the types by place, the names of the structs by number, and the definitions of structs, the latest first
pub record Table : Type 0 where
  pub types : List Ty
  pub structs : List (List ℕ)
  pub defined : List Definition

-- the table with the scalar types alone
abbrev pub scalar_table : Table
scalar_table = record { types = Char ∷ Int ∷ Long ∷ Mutex ∷ []; structs = []; defined = [] }

-- the fields of the struct of this number, by these definitions
abbrev pub fields_by : List Definition → ℕ → Option (List FieldDecl)
fields_by [] s = None
fields_by (d ∷ earlier) s = if d.number == s then Some d.fields else fields_by earlier s

-- the fields of a struct, once it is defined
abbrev pub fields_of : Table → ℕ → Option (List FieldDecl)
fields_of t s = fields_by t.defined s

-- the type has a place in the table
abbrev pub HasType : Table → Ty → Type 0
HasType t ty = (p : ℕ) × (slice_get t.types p ≡ Some ty)

-- some struct of the table has this name
abbrev pub HasStruct : Table → List ℕ → Type 0
HasStruct t name = (s : ℕ) × (slice_get t.structs s ≡ Some name)

-- the table with one more type, at the last place
abbrev pub with_type : Table → Ty → Table
with_type t ty = record t { types = t.types ++ ty ∷ [] }

-- the table with one more struct, which has the last number
abbrev pub with_struct : Table → List ℕ → Table
with_struct t name = record t { structs = t.structs ++ name ∷ [] }

-- the table in which the struct of this number is defined by these fields
abbrev pub with_definition : Table → ℕ → List FieldDecl → Table
with_definition t s fields = record t { defined = record { number = s; fields = fields } ∷ t.defined }

-- no name stands twice among the fields
abbrev pub HasDistinctNames : List FieldDecl → Type 0
HasDistinctNames fields = (i j : ℕ) (f g : FieldDecl) → i < j → slice_get fields i ≡ Some f → slice_get fields j ≡ Some g → f.name ≢ g.name
