-- A version: types, globals, literals, functions and names of points; and what makes it one.
use Rattle.std.specs.Prelude.{◌≡◌, ◌≢◌, ℕ, pos, negsuc, ◌+◌, ◌*◌, ◌<◌, ◌≤◌, ◌==◌, ◌&&◌, ◌||◌, not, Bool, true, false, nat_lt, nat_le, List, [], ◌∷◌, ◌++◌, length, map, take, slice_get, codes, Option, Some, None, IfSome, if◌then◌else◌}
use Rattle.std.specs.Option.{is_some, option_map}
use Rattle.std.specs.List.{list_all, AllByRecursion}
use Rattle.kt_types.specs.declared.kinds.Ty.{Ty}
use Rattle.kt_types.specs.declared.kinds.Ty.TheVariants as ty
use Rattle.kt_types.specs.declared.kinds.View.{View}
use Rattle.kt_types.specs.declared.kinds.View.TheVariants as view
use Rattle.kt_types.specs.declared.kinds.FieldDecl.{FieldDecl}
use Rattle.kt_types.specs.Table.{Table, Definition}
use Rattle.kt_types.specs.Layout.{layout, cells}
use Rattle.kt_types.specs.PointNames.{PointNames}
use Rattle.kt_tree.specs.declared.global.GlobalDecl.{GlobalDecl}
use Rattle.kt_tree.specs.declared.global.Init.{Init}
use Rattle.kt_tree.specs.declared.global.Init.TheVariants as init
use Rattle.kt_tree.specs.Tree.{Function}
use Rattle.kt_tree.specs.Kinds.{Head, Scope, char_type, int_type, mutex_type, is_integer_type, pointee_of, is_same, fits_in, is_scalar}
use Rattle.kt_tree.specs.Typed.{fits}
use Rattle.kt_tree.specs.Names.{is_identifier, is_point_name}

pub record Program : Type 0 where
  pub types : Table
  pub globals : List GlobalDecl
  pub literals : List (List ℕ)
  pub functions : List Function
  pub points : PointNames

-- the program of these parts
abbrev pub program : Table → List GlobalDecl → List (List ℕ) → List Function → PointNames → Program
program types globals literals functions points = record { types = types; globals = globals; literals = literals; functions = functions; points = points }

abbrev pub head_of : Function → Head
head_of f = record { parameters = map (λ l. l.ty) (take f.params f.locals); result = f.result }

-- what a function's body may name
abbrev pub scope_of : Program → Function → Scope
scope_of p f = record {
  types = p.types;
  globals = map (λ g. g.ty) p.globals;
  literals = length p.literals;
  functions = map head_of p.functions;
  names = length p.points.names;
  updates = p.points.updates;
  locals = map (λ l. l.ty) f.locals;
  noted = f.noted;
}

-- no name stands twice
abbrev pub AreDistinct : List (List ℕ) → Type 0
AreDistinct names = (i j : ℕ) (a b : List ℕ) → i < j → slice_get names i ≡ Some a → slice_get names j ≡ Some b → a ≢ b

abbrev pub AreIdentifiers : List (List ℕ) → Type 0
AreIdentifiers names = list_all is_identifier names ≡ true

-- each type has one place
abbrev pub HasOnePlaces : Table → Type 0
HasOnePlaces t = (i j : ℕ) (u : Ty) → slice_get t.types i ≡ Some u → slice_get t.types j ≡ Some u → i ≡ j

-- a result is an integer or a pointer, or there is none
abbrev pub is_result_type : Scope → Option ℕ → Bool
is_result_type s None = true
is_result_type s (Some t) = is_scalar s t

-- an integer global may say how much a pointer points to
abbrev pub is_integer_global : Program → Option GlobalDecl → Bool
is_integer_global p None = false
is_integer_global p (Some g) = not g.array && is_integer_type (slice_get p.types.types g.ty)

-- the view of a declaration outside a struct: a plain `char *` points to a whole object, another plain pointer to one
-- element, and what is no pointer has the plain view
abbrev pub is_view : Program → Option ℕ → View → Bool
is_view p (Some e) view.One = not (e == char_type)
is_view p (Some e) view.Whole = e == char_type
is_view p (Some e) (view.Global g) = is_integer_global p (slice_get p.globals g)
is_view p (Some e) (view.Count n) = nat_le n 65536
is_view p None view.One = true
is_view p _ _ = false

-- an integer field may say how much a pointer of the same struct points to
abbrev pub is_integer_field : Program → Option FieldDecl → Bool
is_integer_field p None = false
is_integer_field p (Some f) = is_integer_type (slice_get p.types.types f.ty)

-- the view of a field of a struct with these fields
abbrev pub is_field_view : Program → List FieldDecl → Option ℕ → View → Bool
is_field_view p fields (Some e) (view.Field n) = is_integer_field p (slice_get fields n)
is_field_view p fields pointee v = is_view p pointee v

-- what a field's view is about: of an array its elements
abbrev pub viewed : Table → Option Ty → Option Ty
viewed t (Some (ty.Array e n)) = slice_get t.types e
viewed t other = other

-- the names and views of a struct's fields are right
pub record AreFields (p : Program) (d : Definition) : Type 0 where
  pub names : AreIdentifiers (map (λ f. f.name) d.fields)
  pub views : list_all (λ f. is_field_view p d.fields (pointee_of (viewed p.types (slice_get p.types.types f.ty))) f.view) d.fields ≡ true

-- a function of the program
pub record IsFunction (p : Program) (f : Function) : Type 0 where
  pub parameters : f.params ≤ length f.locals
  pub locals : list_all (λ l. is_scalar (scope_of p f) l.ty) f.locals ≡ true
  pub views : list_all (λ l. is_view p (pointee_of (slice_get p.types.types l.ty)) l.view) f.locals ≡ true
  pub names : AreIdentifiers (map (λ l. l.name) f.locals)
  pub distinct : f.noted ≡ true → AreDistinct (map (λ l. l.name) f.locals)
  pub result : is_result_type (scope_of p f) f.result ≡ true
  pub body : fits (scope_of p f) f.result false f.body ≡ true

-- the written initial value is one of a global of the type (ISO/IEC 9899:2011, 6.7.9), whose declaration has no brackets
abbrev pub is_initial : Program → Option Ty → Bool → Init → Bool
is_initial p t array init.Zero = true
is_initial p (Some ty.Char) false (init.Number n) = fits_in 7 n
is_initial p (Some ty.Int) false (init.Number n) = fits_in 31 n
is_initial p (Some ty.Long) false (init.Number n) = fits_in 63 n
is_initial p (Some (ty.Ptr e)) false init.Null = true
is_initial p (Some (ty.Ptr e)) false (init.Literal n) = (e == char_type) && nat_lt n (length p.literals)
is_initial p (Some ty.Mutex) false init.Free = true
is_initial p t array other = false

pub record IsGlobal (p : Program) (g : GlobalDecl) : Type 0 where
  pub complete : is_some (layout p.types g.ty) ≡ true
  pub some : 1 ≤ g.count
  pub within : g.count * length (cells p.types g.ty) ≤ 65536
  pub single : g.array ≡ false → g.count ≡ 1
  pub initial : is_initial p (slice_get p.types.types g.ty) g.array g.init ≡ true
  pub view : is_view p (pointee_of (slice_get p.types.types g.ty)) g.view ≡ true

-- the cells of all these globals
abbrev pub global_cells : Table → List GlobalDecl → ℕ
global_cells t [] = 0
global_cells t (g ∷ rest) = g.count * length (cells t g.ty) + global_cells t rest

-- the function `main` gives `int` and has no parameter
abbrev pub IsMain : Function → Type 0
IsMain f = (f.name ≡ codes "main") × (f.result ≡ Some int_type) × (f.params ≡ 0)

abbrev pub global_names : Program → List (List ℕ)
global_names p = map (λ g. g.name) p.globals

abbrev pub function_names : Program → List (List ℕ)
function_names p = map (λ f. f.name) p.functions

-- all names of globals and functions
abbrev pub outer_names : Program → List (List ℕ)
outer_names p = global_names p ++ function_names p

-- the names of the version's points: those at which it may be updated
abbrev pub update_points : Program → List (List ℕ)
update_points p = take p.points.updates p.points.names

-- each entry of a list has a number
pub record IsNumbered (p : Program) : Type 0 where
  pub globals : length p.globals < 4294967296
  pub literals : length p.literals < 4294967296
  pub functions : length p.functions < 4294967296
  pub points : length p.points.names < 4294967296

pub record IsProgram (p : Program) : Type 0 where
  pub scalars : take 4 p.types.types ≡ ty.Char ∷ ty.Int ∷ ty.Long ∷ ty.Mutex ∷ []
  pub places : HasOnePlaces p.types
  pub structs : AreIdentifiers p.types.structs
  pub fields : AllByRecursion (AreFields p) p.types.defined
  pub names : AreIdentifiers (outer_names p)
  pub distinct : AreDistinct (outer_names p)
  pub globals : AllByRecursion (IsGlobal p) p.globals
  pub within : global_cells p.types p.globals ≤ 1048576
  pub functions : AllByRecursion (IsFunction p) p.functions
  pub main : (n : ℕ) × (f : Function) × (slice_get p.functions n ≡ Some f) × IsMain f
  pub point_names : list_all is_point_name p.points.names ≡ true
  pub points : AreDistinct p.points.names
  pub updates : p.points.updates ≤ length p.points.names
