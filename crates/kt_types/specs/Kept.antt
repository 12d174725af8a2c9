-- What a table keeps beside its types, names and definitions, so that counts and offsets are looked up and not computed.
use Rattle.std.specs.Prelude.{◌≡◌, ℕ, ◌*◌, ◌^◌, ◌<◌, ◌≤◌, ◌⊎◌, List, [], ◌∷◌, length, map, slice_get, Option, None, Some}
use Rattle.std.specs.Global.{Vec}
use Rattle.std.specs.declared.hash.BuildHasherDefault.{BuildHasherDefault}
use Rattle.std.specs.declared.hash.FoldHasher.{FoldHasher}
use Rattle.indexmap.specs.IndexSet.{IndexSet}
use Rattle.kt_types.specs.Layout.{IsComplete, cells, layout, joined, repeated, struct_cells, cells_before, cell_limit}
use Rattle.kt_types.specs.Rank.{rank}
use Rattle.kt_types.specs.Table.{Table, Definition, fields_of, fields_by}
use Rattle.kt_types.specs.declared.kinds.FieldDecl.{FieldDecl}
use Rattle.kt_types.specs.declared.kinds.Ty.{Ty}
use Rattle.kt_types.specs.declared.kinds.Ty.TheVariants.{Char, Int, Long, Mutex, Struct, Array, Ptr}
use Rattle.kt_types.specs.declared.table.StructLayout.{StructLayout}

-- what stands with the type at place p: n is how many cells it has, where it is no struct
abbrev pub IsCounted : Table → ℕ → Ty → ℕ → Type 0
IsCounted t p (Struct s) n = s < length t.structs
IsCounted t p (Array e k) n = (cs : List Ty) × (e < p) × (layout t e ≡ Some cs) × (layout t p ≡ Some (repeated k cs)) × (n ≡ k * length cs) × (1 ≤ n) × (n ≤ cell_limit)
IsCounted t p (Ptr q) n = (q < length t.types) × (n ≡ 1)
IsCounted t p Char n = n ≡ 1
IsCounted t p Int n = n ≡ 1
IsCounted t p Long n = n ≡ 1
IsCounted t p Mutex n = n ≡ 1

-- each field's first cell: how many cells stand before the field
pub record AreStarts (t : Table) (fields : List FieldDecl) (starts : List ℕ) : Type 0 where
  pub len : length starts ≡ length fields
  pub each : (n : ℕ) → n < length fields → slice_get starts n ≡ Some (cells_before t fields n)

-- the names, each as the list of its bytes, are those of the fields
abbrev pub AreNames : List FieldDecl → IndexSet (Vec ℕ) (BuildHasherDefault FoldHasher) → Type 0
AreNames fields names = map (λ name. name.items) names.keys ≡ map (λ f. f.name) fields

-- what stands with a definition: each field's first cell, the names, and how many cells there are
pub record IsLaidOut (t : Table) (d : StructLayout) : Type 0 where
  pub known : fields_of t d.number ≡ Some d.fields.items
  pub cells : (cs : List Ty) × (struct_cells t.types t.defined d.number ≡ Some cs) × (joined (layout t) d.fields.items ≡ Some cs) × (d.cells ≡ length cs)
  pub some_cells : 1 ≤ d.cells
  pub few_cells : d.cells ≤ cell_limit
  pub few_fields : length d.fields.items ≤ d.cells
  pub starts : AreStarts t d.fields.items d.starts.items
  pub names : AreNames d.fields.items d.names

-- what stands with the name of the struct of number s: the place of its definition
abbrev pub IsNumbered : Table → List StructLayout → ℕ → Option ℕ → Type 0
IsNumbered t defined s None = fields_of t s ≡ None
IsNumbered t defined s (Some i) = (d : StructLayout) × (slice_get defined i ≡ Some d) × (d.number ≡ s)

-- each struct is defined once
abbrev pub IsDefinedOnce : List Definition → Type 0
IsDefinedOnce [] = Unit {0}
IsDefinedOnce (d ∷ earlier) = (fields_by earlier d.number ≡ None) × IsDefinedOnce earlier

-- the definition that a layout stands for
abbrev pub definition_of : StructLayout → Definition
definition_of d = record { number = d.number; fields = d.fields.items }

-- what a table keeps: its types with their counts, the place of each struct's definition, and the layouts, the latest last
pub record IsKept (t : Table) (counts : List (Ty × ℕ)) (places : List (Option ℕ)) (defined : List StructLayout) : Type 0 where
  pub few_types : length t.types < 2 ^ 32
  pub few_structs : length t.structs < 2 ^ 32
  pub counted : (p : ℕ) (c : Ty × ℕ) → slice_get counts p ≡ Some c → IsCounted t p c.0 c.1
  pub numbered : (s : ℕ) (i : Option ℕ) → slice_get places s ≡ Some i → IsNumbered t defined s i
  pub laid_out : (i : ℕ) (d : StructLayout) → slice_get defined i ≡ Some d → IsLaidOut t d
  pub once : IsDefinedOnce t.defined
  pub declared : (s : ℕ) → length t.structs ≤ s → fields_of t s ≡ None

-- the cell of the type at p is this cell of the type at q, a field of the struct at p or the element of the array at p
pub record IsPart (t : Table) (p cell q within : ℕ) : Type 0 where
  pub complete : IsComplete t q
  pub within_it : within < length (cells t q)
  pub same : slice_get (cells t q) within ≡ slice_get (cells t p) cell
  pub falls : (rank t.types t.defined q < rank t.types t.defined p) ⊎ ((rank t.types t.defined q ≤ rank t.types t.defined p) × (q < p))
