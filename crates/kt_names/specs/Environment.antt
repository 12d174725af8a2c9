-- What the names of a file stand for where an expression of it is typed.
use Rattle.std.specs.Prelude.{ℕ, ◌+◌, ◌==◌, ◌&&◌, ◌||◌, not, Bool, true, false, List, [], ◌∷◌, Option, Some, None, if◌then◌else◌}
use Rattle.std.specs.Option.{is_some}
use Rattle.std.specs.Str.{bytes_eq}
use Rattle.kt_names.specs.declared.ctype.Root.{Root}
use Rattle.kt_names.specs.declared.ctype.Root.TheVariants as root
use Rattle.kt_names.specs.declared.ctype.CType.{CType}

-- a function as it is declared first, and its number where it is defined
pub record Declared : Type 0 where
  pub parameters : List CType
  pub result : Option CType
  pub number : Option ℕ

-- what a name of the whole file stands for: a global by its number, its type (of an array that of its elements), or a function
pub data Outer : Type 0 where
  Global : ℕ → CType → Bool → Outer
  Function : Declared → Outer

-- a name that is in scope, and the number of its local
pub record Visible : Type 0 where
  pub name : List ℕ
  pub local : ℕ

-- a field: its type, of an array that of its elements
pub record FieldOf : Type 0 where
  pub name : List ℕ
  pub ty : CType
  pub array : Bool

-- a struct that is defined, and how many cells it has
pub record Struct : Type 0 where
  pub number : ℕ
  pub fields : List FieldOf
  pub cells : ℕ

pub record Environment : Type 0 where
  -- the names of all structs of the file
  pub names : List (List ℕ)
  -- the place of each type in the version's table
  pub place : CType → ℕ
  -- the structs that are defined before here
  pub structs : List Struct
  pub outer : List ℕ → Option Outer
  -- the number of the literal at a place in the file
  pub literal : ℕ → ℕ
  -- the names of points, the update points first
  pub points : List (List ℕ)
  -- the type of each local of the function, and whether the function has `E_NOTELOCALS`
  pub locals : List CType
  pub noted : Bool
  -- the locals in scope, the innermost first
  pub visible : List Visible

abbrev pub local_named : List Visible → List ℕ → Option ℕ
local_named [] name = None
local_named (v ∷ rest) name = if bytes_eq v.name name then Some v.local else local_named rest name

abbrev pub struct_numbered : List Struct → ℕ → Option Struct
struct_numbered [] s = None
struct_numbered (d ∷ rest) s = if d.number == s then Some d else struct_numbered rest s

-- the struct of a type that is a struct, where it is defined before here
abbrev pub defined_root : List Struct → Root → Option Struct
defined_root structs (root.Struct s) = struct_numbered structs s
defined_root structs _ = None

abbrev pub is_struct_root : Root → Bool
is_struct_root (root.Struct s) = true
is_struct_root _ = false

-- the type is a struct
abbrev pub is_struct : CType → Bool
is_struct t = (t.stars == 0) && is_struct_root t.root

abbrev pub struct_in : Environment → CType → Option Struct
struct_in env t = if t.stars == 0 then defined_root env.structs t.root else None

-- the type has its cells: it is no struct, or one that is defined before here
abbrev pub is_complete : Environment → CType → Bool
is_complete env t = not (is_struct t) || is_some (struct_in env t)

-- how many cells a type has
abbrev pub cells_of : Environment → CType → ℕ
cells_of env t = elim (struct_in env t) as (λ _. ℕ) [ None ↦ 1 | (Some d) ↦ d.cells ]

-- a field by its name, with its number
pub record Found : Type 0 where
  pub index : ℕ
  pub field : FieldOf

abbrev pub field_from : ℕ → List FieldOf → List ℕ → Option Found
field_from n [] name = None
field_from n (f ∷ fields) name = if bytes_eq f.name name then Some (record { index = n; field = f }) else field_from (n + 1) fields name
