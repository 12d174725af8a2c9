-- What a file's syntax gives: types, structs, globals, functions and locals, in the order of the file.
use Rattle.std.specs.Prelude.{ℕ, Bool, ◌&&◌, true, false, List, [], ◌∷◌, ◌++◌, map, flat_map, Option, Some, None, if◌then◌else◌}
use Rattle.std.specs.Option.{is_some, option_map}
use Rattle.kt_grammar.specs.declared.tree.Base.{Base}
use Rattle.kt_syntax.specs.declared.tree.Pointer.{Pointer}
use Rattle.kt_syntax.specs.declared.tree.GlobalDeclarator.{GlobalDeclarator}
use Rattle.kt_syntax.specs.declared.tree.Parameter.{Parameter}
use Rattle.kt_syntax.specs.Tree.{Declaration, Start, Declares, Statement, Declared as DeclaredLocals, Compound, Conditional, Alternative, Looped, Repeated, Counted, Statements, Nothing as NoStatements, More as Then, Definition, Routine, External, GlobalsDeclared, FunctionDeclared}
use Rattle.kt_program.specs.Mentioned.{stars_of, result_stars, where_there, structs_of}
use Rattle.kt_program.specs.Types.{Spelled, spelled, same_spelled, with_names}

-- ---- types

-- the names of the structs
abbrev pub struct_names : List External → List (List ℕ)
struct_names xs = with_names [] (structs_of xs)

abbrev pub declared_type : List (List ℕ) → Base → Option Pointer → Spelled
declared_type structs b p = spelled structs b (stars_of p)

-- ---- what a file declares outside functions

-- a global with the base of its declaration
pub record OuterGlobal : Type 0 where
  pub base : Base
  pub declarator : GlobalDeclarator

abbrev pub globals_in : External → List OuterGlobal
globals_in (GlobalsDeclared b gs) = map (λ g. record { base = b; declarator = g }) gs
globals_in _ = []

abbrev pub globals_of : List External → List OuterGlobal
globals_of xs = flat_map globals_in xs

abbrev pub functions_in : External → List Routine
functions_in (FunctionDeclared f) = f ∷ []
functions_in _ = []

-- all declarations of functions
abbrev pub functions_of : List External → List Routine
functions_of xs = flat_map functions_in xs

-- those that are definitions
abbrev pub defined_in : List Routine → List Routine
defined_in [] = []
defined_in (f ∷ rest) = if is_some f.body then f ∷ defined_in rest else defined_in rest

abbrev pub defined_of : List External → List Routine
defined_of xs = defined_in (functions_of xs)

abbrev pub result_type : List (List ℕ) → Routine → Option Spelled
result_type t f = option_map (λ b. spelled t b (result_stars f.stars)) f.result

abbrev pub parameter_types : List (List ℕ) → Routine → List Spelled
parameter_types t f = map (λ p. declared_type t p.base p.pointer) f.parameters

abbrev pub global_name : OuterGlobal → List ℕ
global_name g = g.declarator.declarator.name.word

abbrev pub global_type : List (List ℕ) → OuterGlobal → Spelled
global_type t g = declared_type t g.base g.declarator.declarator.pointer

abbrev pub is_array : OuterGlobal → Bool
is_array g = is_some g.declarator.declarator.count

-- ---- functions of one type

abbrev pub same_types : List Spelled → List Spelled → Bool
same_types [] [] = true
same_types (a ∷ as') (b ∷ bs) = same_spelled a b && same_types as' bs
same_types _ _ = false

abbrev pub same_result : Option Spelled → Option Spelled → Bool
same_result None None = true
same_result (Some a) (Some b) = same_spelled a b
same_result _ _ = false

abbrev pub same_function : List (List ℕ) → Routine → Routine → Bool
same_function t a b = same_result (result_type t a) (result_type t b) && same_types (parameter_types t a) (parameter_types t b)

-- `E_NOTELOCALS` stands before the body
abbrev pub is_noted : Option Definition → Bool
is_noted None = false
is_noted (Some b) = b.noted

-- ---- locals

pub record DeclaredLocal : Type 0 where
  pub name : List ℕ
  pub ty : Spelled
  pub base : Base
  pub pointer : Option Pointer

abbrev pub parameter_local : List (List ℕ) → Parameter → DeclaredLocal
parameter_local t p = record { name = p.name.word; ty = declared_type t p.base p.pointer; base = p.base; pointer = p.pointer }

abbrev pub locals_in : List (List ℕ) → Declaration → List DeclaredLocal
locals_in t x = map (λ l. record { name = l.name.word; ty = declared_type t x.base l.pointer; base = x.base; pointer = l.pointer }) x.locals

abbrev pub start_locals : List (List ℕ) → Start → List DeclaredLocal
start_locals t (Declares x) = locals_in t x
start_locals t _ = []

abbrev mutual
  pub statement_locals : List (List ℕ) → Statement → List DeclaredLocal
  statement_locals t (DeclaredLocals x) = locals_in t x
  statement_locals t (Compound block) = block_locals t block
  statement_locals t (Conditional c s) = statement_locals t s
  statement_locals t (Alternative c s r) = statement_locals t s ++ statement_locals t r
  statement_locals t (Looped c s) = statement_locals t s
  statement_locals t (Repeated s c) = statement_locals t s
  statement_locals t (Counted start test step s) = start_locals t start ++ statement_locals t s
  statement_locals t _ = []

  pub block_locals : List (List ℕ) → Statements → List DeclaredLocal
  block_locals t NoStatements = []
  block_locals t (Then s rest) = statement_locals t s ++ block_locals t rest

-- the parameters, and then all locals of the body in the order of their declarations
abbrev pub locals_of : List (List ℕ) → Routine → List DeclaredLocal
locals_of t f = map (parameter_local t) f.parameters ++ where_there (λ b. block_locals t b.entries) f.body
