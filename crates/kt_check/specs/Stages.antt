-- What the code for files keeps while it goes through them, and what that stands for.
use Rattle.std.specs.Prelude.{ℕ, ◌+◌, ◌*◌, ◌≡◌, ◌==◌, ◌&&◌, ◌||◌, nat_le, Bool, false, not, List, [], ◌∷◌, ◌++◌, map, Ok, Option, Some, None, if◌then◌else◌}
use Rattle.std.specs.Option.{option_map, is_some}
use Rattle.std.specs.List.{list_any}
use Rattle.std.specs.Map.{lookup}
use Rattle.std.specs.Str.{bytes_eq}
use Rattle.kt_grammar.specs.declared.tree.Base.{Base}
use Rattle.kt_syntax.specs.declared.tree.GlobalDeclarator.{GlobalDeclarator}
use Rattle.kt_syntax.specs.declared.tree.Parameter.{Parameter}
use Rattle.kt_tree.specs.declared.global.GlobalDecl.{GlobalDecl}
use Rattle.kt_tree.specs.declared.global.Init.{Init}
use Rattle.kt_names.specs.declared.fault.CheckFault.TheVariants.{Twice, TooBig, Incomplete, BadType, NoMain}
use Rattle.kt_tree.specs.Tree.{Function, function_of}
use Rattle.kt_tree.specs.declared.function.Fun.{Fun}
use Rattle.kt_names.specs.declared.info.Scopes.{Scopes}
use Rattle.kt_names.specs.Scopes.{state_of}
use Rattle.kt_syntax.specs.Tree.{Routine, routine_of, external_of}
use Rattle.kt_check.specs.declared.frame.Frame.{Frame as FrameCode}
use Rattle.kt_check.specs.declared.sofar.Sofar.{Sofar as SofarCode}
pub use Rattle.kt_check.specs.Built.{definition_seen}
use Rattle.kt_check.specs.declared.sofar.Head.{Head}
use Rattle.kt_names.specs.Functions.{stars_place, same_function, is_other_type, is_defined, agrees, parameters, no_state, body_in, is_noted, result_fault, defined_function}
use Rattle.kt_names.specs.Checked.{Checked, and_then, both, holds, fault}
use Rattle.kt_names.specs.Environment.{cells_of, is_complete}
use Rattle.kt_names.specs.Types.{place_in, ctype, is_scalar}
use Rattle.kt_names.specs.declared.ctype.CType.{CType}
use Rattle.kt_names.specs.Uses.{result_stars}
use Rattle.kt_names.specs.Statements.{State, declarator_place, pointer_outside, struct_place}
use Rattle.kt_names.specs.Tables.{declared_type, view_of}
use Rattle.kt_check.specs.Files.{Frame, Sofar, externals, nothing_yet, has_main, outside, is_array_count, count_of, outer_name, has_global, has_routine, initial_of}
use Rattle.kt_names.specs.Views.{latest_first, struct_of, outer_of, literal_at}

abbrev pub frame_seen : FrameCode → Frame
frame_seen f = record {
  externals = map external_of f.items.now;
  names = map (λ n. n.items) f.names.now.keys;
  types = f.types.now.types.keys;
  outer = λ name. option_map outer_of (lookup (λ k. bytes_eq name k.items) f.outer.now.entries);
  literal = λ at. literal_at (lookup (λ k. at == k) f.literals.now.entries);
  points = map (λ n. n.items) f.points.now.keys;
}

abbrev pub sofar_of : SofarCode → Sofar
sofar_of s = record {
  structs = map struct_of (latest_first s.structs.entries);
  defined = map definition_seen (latest_first s.defined.items);
  globals = s.globals.items;
  cells = s.cells;
  routines = map (λ r. routine_of r.now) s.routines.items;
  functions = map function_of s.functions.items;
}

-- ---- the first declaration of each function

abbrev pub head_named : SofarCode → List ℕ → Option Head
head_named s name = lookup (λ k. bytes_eq name k.items) s.heads.entries

abbrev pub is_head_defined : Option Head → Bool
is_head_defined None = false
is_head_defined (Some h) = h.defined

abbrev pub is_other_head : List (List ℕ) → Routine → Option Head → Bool
is_other_head names r None = false
is_other_head names r (Some h) = not (same_function names (routine_of h.first.now) r)

-- names are looked up instead of the lists of declarations; all declarations of a function have the type of the first
pub record Keeps (names : List (List ℕ)) (s : SofarCode) : Type 0 where
  pub globals : map (λ n. n.items) s.global_names.keys ≡ map (λ g. g.name) s.globals.items
  pub declared : (n : List ℕ) → has_routine (sofar_of s) n ≡ is_some (head_named s n)
  pub defined : (n : List ℕ) → is_defined (sofar_of s).routines n ≡ is_head_defined (head_named s n)
  pub types : (r : Routine) → list_any (is_other_type names r) (sofar_of s).routines ≡ is_other_head names r (head_named s r.name.word)

-- ---- parts

-- what is right has no value
abbrev pub right : {X : Type 0} → X → Unit {0}
right x = tt

abbrev pub behind_right : {A X Y : Type 0} → (X → Y) → A × X → Unit {0} × Y
behind_right f x = (tt, f x.1)

-- what is judged of a global, with its initial value
abbrev pub init_parts : Frame → Sofar → Base → GlobalDeclarator → Checked (Unit {0} × Init)
init_parts f s b g =
    let t = declared_type f.names b g.declarator.pointer in
    let size = count_of g.declarator.count * cells_of (outside f s) t in
    both (holds (is_array_count g.declarator.count && nat_le size 65536 && nat_le (s.cells + size) 1048576) (TooBig g.declarator.name.at))
    (initial_of f t (is_some g.declarator.count) (declarator_place g.declarator.pointer g.declarator.name) g.initial)

abbrev pub once_parts : Frame → Sofar → Base → GlobalDeclarator → Checked (Unit {0} × (Unit {0} × Init))
once_parts f s b g =
    both (holds (not (has_global s g.declarator.name.word || has_routine s g.declarator.name.word)) (Twice g.declarator.name.at)) (init_parts f s b g)

abbrev pub named_parts : Frame → Sofar → Base → GlobalDeclarator → Checked (Unit {0} × (Unit {0} × (Unit {0} × Init)))
named_parts f s b g = both (outer_name g.declarator.name) (once_parts f s b g)

abbrev pub global_parts : Frame → Sofar → Base → GlobalDeclarator → Checked (Unit {0} × (Unit {0} × (Unit {0} × (Unit {0} × Init))))
global_parts f s b g = both (pointer_outside (outside f s) g.declarator.pointer) (named_parts f s b g)

abbrev pub once_seen : {A B C : Type 0} → A × (B × C) → Unit {0} × (Unit {0} × C)
once_seen x = (tt, (tt, x.1.1))

abbrev pub named_seen : {A B C D : Type 0} → A × (B × (C × D)) → Unit {0} × (Unit {0} × (Unit {0} × D))
named_seen x = (tt, (tt, (tt, x.1.1.1)))

abbrev pub global_seen : {A B C D E : Type 0} → A × (B × (C × (D × E))) → Unit {0} × (Unit {0} × (Unit {0} × (Unit {0} × E)))
global_seen x = (tt, (tt, (tt, (tt, x.1.1.1.1))))

-- a global with this initial value
abbrev pub global_decl : Frame → Base → GlobalDeclarator → Init → GlobalDecl
global_decl f b g init = record {
  name = g.declarator.name.word;
  ty = place_in f.types (declared_type f.names b g.declarator.pointer);
  count = count_of g.declarator.count;
  array = is_some g.declarator.count;
  view = view_of f.outer b g.declarator.pointer;
  init = init;
}

-- ---- functions

-- a result of this base
abbrev pub based_result : Frame → Sofar → Base → Routine → Checked (Unit {0})
based_result f s b r =
    and_then (holds (not (result_stars r.stars == 0) || is_complete (outside f s) (ctype f.names b 0)) (Incomplete (struct_place b)))
    (λ x. holds (is_scalar (ctype f.names b (result_stars r.stars))) (BadType (stars_place r.stars r.name)))

-- the types of these parameters
abbrev pub types_in : Frame → List Parameter → List CType
types_in f ps = map (λ p. declared_type f.names p.base p.pointer) ps

-- the first declaration of a function, with this one
abbrev pub first_routine : Option Head → Routine → Routine
first_routine None r = r
first_routine (Some h) r = routine_of h.first.now

-- what is judged of a declaration of a function, with the state behind its parameters
abbrev pub agreed_parts : Frame → Sofar → Routine → Checked (Unit {0} × State)
agreed_parts f s r = both (agrees f.names r s.routines) (parameters (body_in (outside f s) r (is_noted r.body)) no_state r.parameters)

abbrev pub new_parts : Frame → Sofar → Routine → Checked (Unit {0} × (Unit {0} × State))
new_parts f s r = both (holds (not (has_global s r.name.word)) (Twice r.name.at)) (agreed_parts f s r)

abbrev pub outer_parts : Frame → Sofar → Routine → Checked (Unit {0} × (Unit {0} × (Unit {0} × State)))
outer_parts f s r = both (outer_name r.name) (new_parts f s r)

abbrev pub function_parts : Frame → Sofar → Routine → Checked (Unit {0} × (Unit {0} × (Unit {0} × (Unit {0} × State))))
function_parts f s r = both (result_fault (outside f s) r) (outer_parts f s r)

abbrev pub new_seen : {A B : Type 0} → A × (B × Scopes) → Unit {0} × (Unit {0} × State)
new_seen x = (tt, (tt, state_of x.1.1))

abbrev pub outer_seen : {A B C : Type 0} → A × (B × (C × Scopes)) → Unit {0} × (Unit {0} × (Unit {0} × State))
outer_seen x = (tt, (tt, (tt, state_of x.1.1.1)))

abbrev pub function_seen : {A B C D : Type 0} → A × (B × (C × (D × Scopes))) → Unit {0} × (Unit {0} × (Unit {0} × (Unit {0} × State)))
function_seen x = (tt, (tt, (tt, (tt, state_of x.1.1.1.1))))

-- a function that is defined, or none
abbrev pub functions_seen : Option Fun → List Function
functions_seen None = []
functions_seen (Some f) = function_of f ∷ []

-- the body of a function whose declaration is right
abbrev pub function_body_of : Frame → Sofar → Routine → Checked (List Function)
function_body_of f s r = and_then (function_parts f s r) (λ x. defined_function (outside f s) r x.1.1.1.1 r.body)

-- a declaration of a function more
abbrev pub with_routine : Sofar → Routine → Sofar
with_routine s r = record s { routines = s.routines ++ r ∷ [] }

-- definitions more
abbrev pub with_bodies : Sofar → List Function → Sofar
with_bodies s d = record s { functions = s.functions ++ d }

-- ---- files

-- what a file of these tables and so many bytes declares
abbrev pub typed_from : Frame → ℕ → Checked Sofar
typed_from f length = and_then (externals f nothing_yet f.externals) (λ s. if has_main f s.routines then Ok s else fault (NoMain length))
