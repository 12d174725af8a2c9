-- The typing of files: each external declaration in its turn, the version that comes of all, or the first fault.
use Rattle.std.specs.Prelude.{ℕ, zero, suc, ◌+◌, ◌*◌, ◌==◌, ◌&&◌, ◌||◌, not, nat_le, Bool, true, false, List, [], ◌∷◌, ◌++◌, map, length, codes, Result, Ok, Option, Some, None, if◌then◌else◌, ℤ, pos, negsuc, option_and_then}
use Rattle.std.specs.Option.{is_some, option_map}
use Rattle.std.specs.List.{position_from, list_any}
use Rattle.std.specs.Str.{bytes_eq}
use Rattle.kt_lex.specs.declared.number.Number.{Number}
use Rattle.kt_grammar.specs.declared.tree.Base.{Base}
use Rattle.kt_grammar.specs.declared.tree.Base.TheVariants as base
use Rattle.kt_grammar.specs.declared.tree.Name.{Name}
use Rattle.kt_syntax.specs.declared.tree.Extent.{Extent}
use Rattle.kt_syntax.specs.declared.tree.Extent.TheVariants as extent
use Rattle.kt_syntax.specs.declared.tree.Pointer.{Pointer}
use Rattle.kt_syntax.specs.declared.tree.Stars.{Stars}
use Rattle.kt_syntax.specs.declared.tree.Declarator.{Declarator}
use Rattle.kt_syntax.specs.declared.tree.Constant.{Constant}
use Rattle.kt_syntax.specs.declared.tree.Constant.TheVariants as written
use Rattle.kt_syntax.specs.declared.tree.GlobalDeclarator.{GlobalDeclarator}
use Rattle.kt_syntax.specs.declared.tree.Parameter.{Parameter}
use Rattle.kt_syntax.specs.declared.tree.Fields.{Fields}
use Rattle.kt_syntax.specs.Tree.{Tree, Definition as Body', Routine, External, StructMentioned, StructDefined, GlobalsDeclared, FunctionDeclared}
use Rattle.kt_types.specs.declared.kinds.Ty.{Ty}
use Rattle.kt_types.specs.declared.kinds.Ty.TheVariants as ty
use Rattle.kt_types.specs.declared.kinds.View.{View}
use Rattle.kt_types.specs.declared.kinds.View.TheVariants as view
use Rattle.kt_types.specs.declared.kinds.FieldDecl.{FieldDecl}
use Rattle.kt_types.specs.Table.{Definition}
use Rattle.kt_names.specs.declared.ctype.CType.{CType}
use Rattle.kt_tree.specs.declared.global.GlobalDecl.{GlobalDecl}
use Rattle.kt_tree.specs.declared.global.Init.{Init}
use Rattle.kt_tree.specs.declared.global.Init.TheVariants as init
use Rattle.kt_tree.specs.Kinds.{fits_in}
use Rattle.kt_tree.specs.Tree.{Function as TypedFunction, Statement, Compound}
use Rattle.kt_tree.specs.Version.{Program}
use Rattle.kt_names.specs.declared.fault.CheckFault.{CheckFault}
use Rattle.kt_names.specs.declared.fault.CheckFault.TheVariants.{Twice, BadType, TooBig, NoMain}
use Rattle.kt_names.specs.Checked.{Checked, fault, and_then, both, holds, first}
use Rattle.kt_names.specs.Environment.{Environment, Outer, Global, FieldOf, Struct, struct_numbered, cells_of}
use Rattle.kt_names.specs.Builtins.{builtin_named}
use Rattle.kt_names.specs.Types.{int, same_ctype, is_scalar, ctype, place_in, place_of_type, number_of_struct}
use Rattle.kt_names.specs.declared.ctype.Root.{Root}
use Rattle.kt_names.specs.declared.ctype.Root.TheVariants as root
use Rattle.kt_names.specs.Uses.{stars_of, result_stars}
use Rattle.kt_names.specs.Statements.{Body, State, declarator_place, base_for, held, extent_outside, pointer_outside, new_name, declared, contains, entries}
use Rattle.kt_names.specs.Functions.{same_result, result_fault, agrees, parameters, no_state, body_in, is_noted, defined_function}
use Rattle.kt_names.specs.Tables.{struct_names, types_of, declared_type, result_type, parameter_types, outer_named, locals_of, written_of, literals_in, literal_places, literal_number, update_names, point_names, plain_view, view_of, extent_of}

-- what a file's syntax gives once for all: its tables
pub record Frame : Type 0 where
  pub externals : List External
  -- the names of structs, by number, and the types of the table
  pub names : List (List ℕ)
  pub types : List Ty
  pub outer : List ℕ → Option Outer
  pub literal : ℕ → ℕ
  pub points : List (List ℕ)

abbrev pub frame_of : List External → Frame
frame_of xs = record {
  externals = xs;
  names = struct_names xs;
  types = types_of xs;
  outer = outer_named (struct_names xs) xs;
  literal = literal_number (literal_places (written_of xs));
  points = point_names xs;
}

-- what was declared so far
pub record Sofar : Type 0 where
  -- definitions of structs, the latest first, as typing and as the version has them
  pub structs : List Struct
  pub defined : List Definition
  pub globals : List GlobalDecl
  -- the cells of all these globals
  pub cells : ℕ
  -- functions that were declared, each time
  pub routines : List Routine
  pub functions : List TypedFunction

-- the environment outside functions
abbrev pub outside : Frame → Sofar → Environment
outside f s = record {
  names = f.names;
  place = place_in f.types;
  structs = s.structs;
  outer = f.outer;
  literal = f.literal;
  points = f.points;
  locals = [];
  noted = false;
  visible = [];
}

-- ---- structs

-- an array has 1 to 65,536 elements
abbrev pub is_array_count : Option Number → Bool
is_array_count None = true
is_array_count (Some n) = nat_le 1 n.value && nat_le n.value 65536

abbrev pub count_of : Option Number → ℕ
count_of None = 1
count_of (Some n) = n.value

-- the place of a field's type: that of its declarator, or an array of it
abbrev pub field_place : Frame → Base → Declarator → ℕ
field_place f b d = elim d.count as (λ _. ℕ) [
  | None ↦ place_in f.types (declared_type f.names b d.pointer)
  | (Some n) ↦ place_of_type f.types (ty.Array (place_in f.types (declared_type f.names b d.pointer)) n.value)
]

-- a field with the base of its declaration
pub record OneField : Type 0 where
  pub base : Base
  pub declarator : Declarator

abbrev pub fields_in : List Fields → List OneField
fields_in [] = []
fields_in (f ∷ rest) = map (λ d. record { base = f.base; declarator = d }) f.declarators ++ fields_in rest

-- the number of a field by its name
abbrev pub field_number : List OneField → List ℕ → Option ℕ
field_number fields n = position_from (λ x. bytes_eq x.declarator.name.word n) 0 fields

abbrev pub is_integer_base : Base → Bool
is_integer_base base.Char = true
is_integer_base base.Int = true
is_integer_base base.Long = true
is_integer_base _ = false

-- an integer field that is no array
abbrev pub is_count_field : OneField → Bool
is_count_field x = is_integer_base x.base && (stars_of x.declarator.pointer == 0) && not (is_some x.declarator.count)

abbrev pub count_field : List OneField → List ℕ → Option ℕ
count_field fields n = position_from (λ x. is_count_field x && bytes_eq x.declarator.name.word n) 0 fields

-- `E_PTRARRAY` in a struct names an integer field of it, an integer global, or a number of at most 65,536
abbrev pub extent_inside : Environment → List OneField → Extent → Checked (Unit {0})
extent_inside env fields (extent.Name n) = if is_some (count_field fields n.word) then Ok tt else extent_outside env (extent.Name n)
extent_inside env fields (extent.Number at n) = extent_outside env (extent.Number at n)

-- a pointer's extent in a struct (the parser gives no pointer without a star)
abbrev pub pointer_inside : Environment → List OneField → Option Pointer → Checked (Unit {0})
pointer_inside env fields None = Ok tt
pointer_inside env fields (Some p) =
    if p.stars.count == 0 then fault (BadType p.stars.at)
    else (elim p.extent as (λ _. Checked (Unit {0})) [ None ↦ Ok tt | (Some e) ↦ extent_inside env fields e ])

abbrev pub outer_view_of : Option Outer → View
outer_view_of (Some (Global n t array)) = view.Global n
outer_view_of _ = view.One

abbrev pub named_view : (List ℕ → Option Outer) → List OneField → Name → View
named_view outer fields n = elim (count_field fields n.word) as (λ _. View) [ None ↦ outer_view_of (outer n.word) | (Some k) ↦ view.Field k ]

abbrev pub field_view : Frame → List OneField → OneField → View
field_view f fields x = elim (extent_of x.declarator.pointer) as (λ _. View) [
  | None ↦ plain_view x.base x.declarator.pointer
  | (Some e) ↦ elim e as (λ _. View) [ (extent.Name n) ↦ named_view f.outer fields n | (extent.Number at n) ↦ view.Count n.value ]
]

-- how many cells a field has
abbrev pub field_cells : Frame → Sofar → OneField → ℕ
field_cells f s x = count_of x.declarator.count * cells_of (outside f s) (declared_type f.names x.base x.declarator.pointer)

-- the fields of a struct so far: their names, the latest first, and how many cells they have
pub record Within : Type 0 where
  pub names : List (List ℕ)
  pub cells : ℕ

abbrev pub no_field : Within
no_field = record { names = []; cells = 0 }

-- a field of a struct with these fields, behind those so far
abbrev pub field : Frame → Sofar → List OneField → Within → OneField → Checked Within
field f s fields w x =
    and_then
    (both (pointer_inside (outside f s) fields x.declarator.pointer)
    (both (holds (not (contains w.names x.declarator.name.word)) (Twice x.declarator.name.at))
    (holds (is_array_count x.declarator.count && nat_le (w.cells + field_cells f s x) 65536) (TooBig x.declarator.name.at))))
    (λ y. Ok (record { names = x.declarator.name.word ∷ w.names; cells = w.cells + field_cells f s x }))

abbrev pub fields_with : Frame → Sofar → List OneField → Base → Within → List Declarator → Checked Within
fields_with f s fields b w [] = Ok w
fields_with f s fields b w (d ∷ rest) = and_then (field f s fields w (record { base = b; declarator = d })) (λ v. fields_with f s fields b v rest)

-- fields of one base
abbrev pub fields_of_base : Frame → Sofar → List OneField → Within → Fields → Checked Within
fields_of_base f s fields w x =
    and_then (base_for (outside f s) x.base (map (λ d. stars_of d.pointer) x.declarators)) (λ y. fields_with f s fields x.base w x.declarators)

-- all fields
abbrev pub fields_from : Frame → Sofar → List OneField → Within → List Fields → Checked Within
fields_from f s fields w [] = Ok w
fields_from f s fields w (x ∷ rest) = and_then (fields_of_base f s fields w x) (λ v. fields_from f s fields v rest)

abbrev pub field_info : Frame → OneField → FieldOf
field_info f x = record { name = x.declarator.name.word; ty = declared_type f.names x.base x.declarator.pointer; array = is_some x.declarator.count }

abbrev pub field_decl : Frame → List OneField → OneField → FieldDecl
field_decl f fields x = record { name = x.declarator.name.word; ty = field_place f x.base x.declarator; view = field_view f fields x }

-- ---- globals

-- the name of a global or function: no built-in call's
abbrev pub outer_name : Name → Checked (Unit {0})
outer_name n = holds (not (is_some (builtin_named n.word))) (Twice n.at)

abbrev pub has_global : Sofar → List ℕ → Bool
has_global s n = contains (map (λ g. g.name) s.globals) n

abbrev pub has_routine : Sofar → List ℕ → Bool
has_routine s n = contains (map (λ r. r.name.word) s.routines) n

abbrev pub negative : ℕ → ℤ
negative zero = pos 0
negative (suc n) = negsuc n

-- the number that a constant stands for (6.7.9)
abbrev pub constant_number : Constant → Option ℤ
constant_number (written.Number n) = Some (pos n.value)
constant_number (written.Negative n) = Some (negative n.value)
constant_number (written.Character b) = Some (pos b)
constant_number written.Eof = Some (negsuc 0)
constant_number _ = None

-- a number where it is within the type
abbrev pub number_init : ℕ → Option ℤ → Option Init
number_init bits n = option_and_then (λ k. if fits_in bits k then Some (init.Number k) else None) n

abbrev pub is_zero : Number → Bool
is_zero n = (n.value == 0) && not n.long && not n.hexadecimal

-- the initial value of a pointer type
abbrev pub pointer_init : Frame → CType → Constant → Option Init
pointer_init f e written.Null = Some init.Null
pointer_init f e (written.Number n) = if is_zero n then Some init.Null else None
pointer_init f t (written.Text at bytes) = if same_ctype t (record { root = root.Char; stars = 1 }) then Some (init.Literal (f.literal at)) else None
pointer_init f e _ = None

abbrev pub mutex_init : Constant → Option Init
mutex_init written.MutexInitializer = Some init.Free
mutex_init _ = None

abbrev pub root_init : Root → Constant → Option Init
root_init root.Char c = number_init 7 (constant_number c)
root_init root.Int c = number_init 31 (constant_number c)
root_init root.Long c = number_init 63 (constant_number c)
root_init root.Mutex c = mutex_init c
root_init (root.Struct n) c = None

-- the initial value of a type, where the constant is one of it
abbrev pub typed_init : Frame → CType → Constant → Option Init
typed_init f t c = if t.stars == 0 then root_init t.root c else pointer_init f t c

-- a global array or struct has no initial value
abbrev pub initial_of : Frame → CType → Bool → ℕ → Option Constant → Checked Init
initial_of f t array at None = Ok init.Zero
initial_of f t array at (Some c) =
    elim (if array then None else typed_init f t c) as (λ _. Checked Init) [ None ↦ fault (BadType at) | (Some i) ↦ Ok i ]

-- a global, and what was declared with it
abbrev pub global : Frame → Sofar → Base → GlobalDeclarator → Checked GlobalDecl
global f s b g =
    let t = declared_type f.names b g.declarator.pointer in
    let size = count_of g.declarator.count * cells_of (outside f s) t in
    and_then
    (both (pointer_outside (outside f s) g.declarator.pointer)
    (both (outer_name g.declarator.name)
    (both (holds (not (has_global s g.declarator.name.word || has_routine s g.declarator.name.word)) (Twice g.declarator.name.at))
    (both (holds (is_array_count g.declarator.count && nat_le size 65536 && nat_le (s.cells + size) 1048576) (TooBig g.declarator.name.at))
    (initial_of f t (is_some g.declarator.count) (declarator_place g.declarator.pointer g.declarator.name) g.initial)))))
    (λ x. Ok (record {
      name = g.declarator.name.word;
      ty = place_in f.types t;
      count = count_of g.declarator.count;
      array = is_some g.declarator.count;
      view = view_of f.outer b g.declarator.pointer;
      init = x.1.1.1.1;
    }))

abbrev pub with_global : Frame → Sofar → Base → GlobalDeclarator → GlobalDecl → Sofar
with_global f s b g d = record s {
  globals = s.globals ++ d ∷ [];
  cells = s.cells + d.count * cells_of (outside f s) (declared_type f.names b g.declarator.pointer);
}

abbrev pub globals_from : Frame → Sofar → Base → List GlobalDeclarator → Checked Sofar
globals_from f s b [] = Ok s
globals_from f s b (g ∷ rest) = and_then (global f s b g) (λ d. globals_from f (with_global f s b g d) b rest)

-- globals of one base
abbrev pub globals : Frame → Sofar → Base → List GlobalDeclarator → Checked Sofar
globals f s b gs = and_then (base_for (outside f s) b (map (λ g. stars_of g.declarator.pointer) gs)) (λ x. globals_from f s b gs)

-- ---- functions

abbrev pub function : Frame → Sofar → Routine → Checked Sofar
function f s r =
    and_then
    (both (result_fault (outside f s) r)
    (both (outer_name r.name)
    (both (holds (not (has_global s r.name.word)) (Twice r.name.at))
    (both (agrees f.names r s.routines) (parameters (body_in (outside f s) r (is_noted r.body)) no_state r.parameters)))))
    (λ x. and_then (defined_function (outside f s) r x.1.1.1.1 r.body)
    (λ d. Ok (record s { routines = s.routines ++ r ∷ []; functions = s.functions ++ d })))

-- ---- files

abbrev pub with_struct : Frame → Sofar → Name → List OneField → ℕ → Sofar
with_struct f s n fields cells = record s {
  structs = record { number = number_of_struct f.names n.word; fields = map (field_info f) fields; cells = cells } ∷ s.structs;
  defined = record { number = number_of_struct f.names n.word; fields = map (field_decl f fields) fields } ∷ s.defined;
}

abbrev pub struct : Frame → Sofar → Name → List Fields → Checked Sofar
struct f s n fs =
    and_then (both (holds (not (is_some (struct_numbered s.structs (number_of_struct f.names n.word)))) (Twice n.at)) (fields_from f s (fields_in fs) no_field fs))
    (λ x. Ok (with_struct f s n (fields_in fs) x.1.cells))

abbrev pub external : Frame → Sofar → External → Checked Sofar
external f s (StructMentioned n) = Ok s
external f s (StructDefined n fs) = struct f s n fs
external f s (GlobalsDeclared b gs) = globals f s b gs
external f s (FunctionDeclared r) = function f s r

abbrev pub externals : Frame → Sofar → List External → Checked Sofar
externals f s [] = Ok s
externals f s (x ∷ rest) = and_then (external f s x) (λ t. externals f t rest)

abbrev pub nothing_yet : Sofar
nothing_yet = record { structs = []; defined = []; globals = []; cells = 0; routines = []; functions = [] }

-- a definition of `main` gives `int` and has no parameter
abbrev pub is_main : Frame → Routine → Bool
is_main f r = is_some r.body && bytes_eq r.name.word (codes "main") && same_result (result_type f.names r) (Some int) && (length r.parameters == 0)

abbrev pub has_main : Frame → List Routine → Bool
has_main f [] = false
has_main f (r ∷ rest) = is_main f r || has_main f rest

abbrev pub program_of : Frame → Sofar → Program
program_of f s = record {
  types = record { types = f.types; structs = f.names; defined = s.defined };
  globals = s.globals;
  literals = literals_in (written_of f.externals);
  functions = s.functions;
  points = record { names = f.points; updates = length (update_names f.externals) };
}

-- the version of a file, or its faults
abbrev pub typed_file : Tree → Checked Program
typed_file t =
    let f = frame_of t.externals in
    and_then (externals f nothing_yet t.externals) (λ s. if has_main f s.routines then Ok (program_of f s) else fault (NoMain t.length))

-- the version of a file, or its first fault
abbrev pub version_of : Tree → Result Program CheckFault
version_of t = first (typed_file t)
