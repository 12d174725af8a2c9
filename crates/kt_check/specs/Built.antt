-- How the table of types of a version is made: all structs, then the types in their order, and each struct as soon as its
-- fields' types are there.
use Rattle.std.specs.Prelude.{◌≡◌, ℕ, ◌+◌, ◌<◌, ◌≤◌, nat_lt, List, [], ◌∷◌, length, take, slice_get, Some, if◌then◌else◌}
use Rattle.kt_types.specs.declared.kinds.Ty.{Ty}
use Rattle.kt_types.specs.declared.kinds.FieldDecl.{FieldDecl}
use Rattle.kt_types.specs.Table.{Table, Definition, HasType}
use Rattle.kt_types.specs.Layout.{NamesPlaces, IsFitting, CanDefine}
use Rattle.kt_check.specs.declared.sofar.Defined.{Defined}
use Rattle.kt_names.specs.Types.{scalars}

-- a definition, as the code keeps it
abbrev pub definition_seen : Defined → Definition
definition_seen d = record { number = d.number; fields = d.fields.items }

-- the table of these structs and of the scalar types
abbrev pub with_structs : List (List ℕ) → Table
with_structs structs = record { types = scalars; structs = structs; defined = [] }

-- the table of the first k of these types
abbrev pub stage : List Ty → List (List ℕ) → ℕ → List Definition → Table
stage types structs k defs = record { types = take k types; structs = structs; defined = defs }

abbrev pub larger : ℕ → ℕ → ℕ
larger a b = if nat_lt a b then b else a

-- how many types there are where these fields and m types have their places
abbrev pub reach : ℕ → List FieldDecl → ℕ
reach m [] = m
reach m (f ∷ fs) = reach (larger m (f.ty + 1)) fs

-- the type may be interned at the place p
abbrev pub CanIntern : List Ty → List (List ℕ) → List Definition → ℕ → Ty → Type 0
CanIntern types structs defs p t = NamesPlaces (stage types structs p defs) t × IsFitting (stage types structs p defs) t × ¬ HasType (stage types structs p defs) t

-- so may each from the place k to before the place m
abbrev pub CanInternAll : List Ty → List (List ℕ) → List Definition → ℕ → ℕ → Type 0
CanInternAll types structs defs k m = (p : ℕ) (t : Ty) → k ≤ p → p < m → slice_get types p ≡ Some t → CanIntern types structs defs p t

-- where k types and these definitions are there, this one may be made: first the types up to those of its fields
abbrev pub CanAdd : List Ty → List (List ℕ) → ℕ → List Definition → Definition → Type 0
CanAdd types structs k done d =
    (reach k d.fields ≤ length types) × CanInternAll types structs done k (reach k d.fields)
    × (d.number < length structs) × CanDefine (stage types structs (reach k d.fields) done) d.number d.fields

-- and those that follow in their order, and then all other types
abbrev pub CanBuild : List Ty → List (List ℕ) → ℕ → List Definition → List Definition → Type 0
CanBuild types structs k done [] = (k ≤ length types) × CanInternAll types structs done k (length types)
CanBuild types structs k done (d ∷ rest) = CanAdd types structs k done d × CanBuild types structs (reach k d.fields) (d ∷ done) rest

-- these definitions, in their order, behind those before: the latest is first
abbrev pub reversed_onto : List Definition → List Definition → List Definition
reversed_onto [] before = before
reversed_onto (d ∷ rest) before = reversed_onto rest (d ∷ before)

-- the table of all these types and structs, with these definitions in their order
abbrev pub built : List Ty → List (List ℕ) → List Definition → Table
built types structs defs = record { types = types; structs = structs; defined = reversed_onto defs [] }
