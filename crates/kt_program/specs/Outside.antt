-- What names of a whole file stand for, and the environment of what stands outside functions, at a place of the file.
use Rattle.std.specs.Prelude.{◌≡◌, ℕ, suc, Bool, true, false, List, [], ◌∷◌, map, length, slice_get, option_and_then, Option, Some, None, if◌then◌else◌}
use Rattle.std.specs.List.{position_from}
use Rattle.std.specs.Option.{option_map}
use Rattle.std.specs.Str.{bytes_eq}
use Rattle.kt_syntax.specs.Tree.{Routine, External}
use Rattle.kt_types.specs.declared.kinds.Ty.{Ty}
use Rattle.kt_types.specs.declared.kinds.Ty.TheVariants as ty
use Rattle.kt_types.specs.Table.{Table, Definition}
use Rattle.kt_tree.specs.declared.expr.Constant.TheVariants as constant
use Rattle.kt_tree.specs.Tree.{Constant'}
use Rattle.kt_tree.specs.Kinds.{Head, Scope, is_pointer}
use Rattle.kt_typing.specs.declared.standing.Standing.{Standing}
use Rattle.kt_typing.specs.declared.standing.Standing.TheVariants as standing
use Rattle.kt_typing.specs.Environment.{Environment, Meaning, Missing, Stands, Routine as Function}
use Rattle.kt_typing.specs.Faults.{incomplete}
use Rattle.kt_program.specs.FileTable.{table_of}
use Rattle.kt_program.specs.Types.{same_type, place_in, or_first}
use Rattle.kt_program.specs.Gathered.{OuterGlobal, struct_names, globals_of, global_name, global_type, is_array, defined_of, parameter_types, result_type}
use Rattle.kt_program.specs.Strings.{written_of, literal_places, literal_number, update_names, point_names}

-- what the whole text gives: its types, structs, literals and names of points, its globals, and the functions that it defines
pub record Whole : Type 0 where
  pub types : List Ty
  pub structs : List (List ℕ)
  pub globals : List OuterGlobal
  pub defined : List Routine
  pub literals : List ℕ
  pub points : List (List ℕ)
  pub updates : ℕ

abbrev pub whole : List External → Whole
whole xs = record {
  types = (table_of xs).types;
  structs = struct_names xs;
  globals = globals_of xs;
  defined = defined_of xs;
  literals = literal_places (written_of xs);
  points = point_names xs;
  updates = length (update_names xs);
}

-- ---- types by their places in the table

abbrev pub place_of : List Ty → Ty → Option ℕ
place_of types t = position_from (same_type t) 0 types

abbrev pub struct_place : Whole → List ℕ → Option ℕ
struct_place w n = option_and_then (λ k. place_of w.types (ty.Struct k)) (position_from (λ m. bytes_eq m n) 0 w.structs)

-- ---- names

-- a struct or a mutex is used as a whole, an array through its first element, anything else as a cell
abbrev pub standing_of : Bool → Option Ty → Standing
standing_of true t = standing.Value
standing_of false (Some (ty.Struct k)) = standing.Whole
standing_of false (Some ty.Mutex) = standing.Whole
standing_of false _ = standing.Cell

abbrev pub global_meaning : Whole → ℕ → OuterGlobal → Option ℕ → Meaning
global_meaning w k g None = Missing
global_meaning w k g (Some p) =
    Stands (standing_of (is_array g) (slice_get w.types (place_in w.types (global_type w.structs g)))) p (Constant' (constant.Global k) p)

abbrev pub function_meaning : Option ℕ → Meaning
function_meaning None = Missing
function_meaning (Some k) = Function k

-- a global, or else a function that is defined
abbrev pub outer_meaning : Whole → ℕ → List OuterGlobal → List ℕ → Meaning
outer_meaning w k [] n = function_meaning (position_from (λ r. bytes_eq r.name.word n) 0 w.defined)
outer_meaning w k (g ∷ rest) n =
    if bytes_eq (global_name g) n then global_meaning w k g (place_of w.types (ty.Ptr (place_in w.types (global_type w.structs g))))
    else outer_meaning w (suc k) rest n

-- ---- the environment outside functions

abbrev pub head : Whole → Routine → Head
head w r = record {
  parameters = map (place_in w.types) (parameter_types w.structs r);
  result = option_map (place_in w.types) (result_type w.structs r);
}

-- the table of types where these structs are defined, the latest first
abbrev pub table : Whole → List Definition → Table
table w defined = record { types = w.types; structs = w.structs; defined = defined }

-- what a function with these locals may name, behind these definitions
abbrev pub scope : Whole → List Definition → List ℕ → Bool → Scope
scope w defined locals noted = record {
  types = table w defined;
  globals = map (λ g. place_in w.types (global_type w.structs g)) w.globals;
  literals = length w.literals;
  functions = map (head w) w.defined;
  names = length w.points;
  updates = w.updates;
  locals = locals;
  noted = noted;
}

-- a struct that is defined later is incomplete here; globals and functions are in scope in the whole file
abbrev pub environment : Whole → List Definition → List ℕ → Bool → Environment
environment w defined locals noted = record {
  scope = scope w defined locals noted;
  text = or_first (place_of w.types (ty.Ptr 0));
  pointer = λ t. place_of w.types (ty.Ptr t);
  struct = struct_place w;
  name = outer_meaning w 0 w.globals;
  word = λ x. Missing;
  old_symbol = λ n. Missing;
  literal = literal_number w.literals;
  point = λ n. or_first (position_from (λ m. bytes_eq m n) 0 w.points);
  without_cells = incomplete;
  without_fields = λ at named. incomplete at;
}

-- its table has the type `char *`
abbrev pub HasText : Environment → Type 0
HasText env = is_pointer env.scope env.text ≡ true
