-- What the names of a file stand for where an expression is typed, against what an expression of the version may name.
use Rattle.std.proofs.Common.{◌≡◌, ℕ, zero, suc, ◌<◌, Bool, true, List, ◌++◌, map, length, slice_get, Option, Some, None}
use Rattle.std.specs.Option.{option_map}
use Rattle.std.specs.List.{AllByRecursion}
use Rattle.kt_types.specs.declared.kinds.Ty.{Ty}
use Rattle.kt_types.specs.declared.kinds.Ty.TheVariants as ty
use Rattle.kt_types.specs.declared.kinds.FieldDecl.{FieldDecl}
use Rattle.kt_tree.specs.Kinds as kinds
use Rattle.kt_tree.specs.Kinds.{Scope, field_at, type_at, field_pointee_of}
use Rattle.kt_names.specs.declared.ctype.Root.{Root}
use Rattle.kt_names.specs.declared.ctype.CType.{CType}
use Rattle.kt_names.specs.Uses.{Use, Starred, Arrayed}
use Rattle.kt_names.specs.Types.{ctype, pointer_to, is_scalar, root_type, starred_place, place_in, scalars}
use Rattle.kt_names.specs.Environment.{Environment, Global, Function, Declared, FieldOf, Struct, struct_numbered, local_named, is_complete}
use Rattle.kt_names.specs.Builtins.{point_number}
use Rattle.kt_names.specs.Tables.{Written, Literal, Updates, Asks}

-- ---- types

-- a type with so many stars has its place in the table, and all that it points to too
abbrev pub HasStars : List Ty → Root → ℕ → Type 0
HasStars types r zero = slice_get types (starred_place types r zero) ≡ Some (root_type r)
HasStars types r (suc n) = (slice_get types (starred_place types r (suc n)) ≡ Some (ty.Ptr (starred_place types r n))) × HasStars types r n

abbrev pub Has : List Ty → CType → Type 0
Has types t = HasStars types t.root t.stars

-- the type of a value: an integer or a pointer
abbrev pub Holds : List Ty → CType → Type 0
Holds types t = Has types t × (is_scalar t ≡ true)

abbrev pub ResultHolds : List Ty → Option CType → Type 0
ResultHolds types None = Unit {0}
ResultHolds types (Some t) = Holds types t

-- ---- names

-- a field as the version has it is the one of this type, and a pointer to it has a place
abbrev pub IsField : Scope → (CType → ℕ) → ℕ → ℕ → FieldOf → Type 0
IsField s place n i f =
    (fd : FieldDecl) × (field_at s n i ≡ Some fd) × (field_pointee_of (type_at s fd.ty) fd.ty ≡ place f.ty) × Has s.types.types (pointer_to f.ty)

-- a function as the version has it takes and gives these types
abbrev pub IsHead : Scope → (CType → ℕ) → ℕ → Declared → Type 0
IsHead s place f d =
    (slice_get s.functions f ≡ Some (record { parameters = map place d.parameters; result = option_map place d.result }))
    × AllByRecursion (Holds s.types.types) d.parameters
    × ResultHolds s.types.types d.result

pub record Agrees (env : Environment) (s : Scope) : Type 0 where
  pub place : env.place ≡ place_in s.types.types
  pub scalars : (rest : List Ty) × (s.types.types ≡ scalars ++ rest)
  pub complete : (t : CType) → Has s.types.types t → is_complete env t ≡ true → kinds.is_complete s (env.place t) ≡ true
  pub fields : (n : ℕ) (d : Struct) → struct_numbered env.structs n ≡ Some d → (i : ℕ) (f : FieldOf) → slice_get d.fields i ≡ Some f → IsField s env.place n i f
  pub globals : (name : List ℕ) (g : ℕ) (t : CType) (array : Bool) → env.outer name ≡ Some (Global g t array)
      → (slice_get s.globals g ≡ Some (env.place t)) × Has s.types.types (pointer_to t)
  pub functions : (name : List ℕ) (d : Declared) (f : ℕ) → env.outer name ≡ Some (Function d) → d.number ≡ Some f → IsHead s env.place f d
  pub locals : (x : ℕ) (t : CType) → slice_get env.locals x ≡ Some t → (slice_get s.locals x ≡ Some (env.place t)) × Has s.types.types t
  pub count : length s.locals ≡ length env.locals
  -- a local in scope is an integer or a pointer
  pub visible : (n : List ℕ) (x : ℕ) → local_named env.visible n ≡ Some x → (t : CType) × (slice_get env.locals x ≡ Some t) × (is_scalar t ≡ true)
  pub noted : s.noted ≡ env.noted

-- ---- what a text names, writes and spells

abbrev pub HasUse : List (List ℕ) → List Ty → Use → Type 0
HasUse names types (Starred b n) = Has types (ctype names b n)
HasUse names types (Arrayed b n count) = Unit {0}

-- a string has its number
abbrev pub HasNumber : Environment → Scope → Written → Type 0
HasNumber env s (Literal at bytes) = env.literal at < s.literals
HasNumber env s (Updates name) = point_number env.points name < s.updates
HasNumber env s (Asks name) = point_number env.points name < s.names

-- what a text names has its types, and what it writes has its numbers
pub record Known (env : Environment) (s : Scope) (us : List Use) (ws : List Written) : Type 0 where
  pub uses : AllByRecursion (HasUse env.names s.types.types) us
  pub written : AllByRecursion (HasNumber env s) ws
