-- The tables that a file's syntax gives: types, structs, globals, functions, locals, literals, points.
use Rattle.std.specs.Prelude.{ℕ, suc, ◌==◌, Bool, List, [], ◌∷◌, ◌++◌, map, flat_map, Option, Some, None, if◌then◌else◌}
use Rattle.std.specs.Option.{is_some, option_map}
use Rattle.std.specs.List.{position_from}
use Rattle.std.specs.Str.{bytes_eq}
use Rattle.kt_grammar.specs.declared.tree.Base.{Base}
use Rattle.kt_grammar.specs.declared.tree.Base.TheVariants as base
use Rattle.kt_grammar.specs.Tree.{Term, Text, Called, Parenthesised, Transformed, Element, Member, Pointed, Stepped, Prefixed, Converted, Operated, Chosen, Assigned, Terms, Nothing, More}
use Rattle.kt_syntax.specs.declared.tree.Extent.{Extent}
use Rattle.kt_syntax.specs.declared.tree.Extent.TheVariants as extent
use Rattle.kt_syntax.specs.declared.tree.Pointer.{Pointer}
use Rattle.kt_syntax.specs.declared.tree.Constant.{Constant}
use Rattle.kt_syntax.specs.declared.tree.Constant.TheVariants as written
use Rattle.kt_syntax.specs.declared.tree.GlobalDeclarator.{GlobalDeclarator}
use Rattle.kt_syntax.specs.declared.tree.Parameter.{Parameter}
use Rattle.kt_syntax.specs.Tree.{Declaration, Start, NoStart, Declares, Evaluates, Statement, Declared as DeclaredLocals, Compound, Evaluated, Returned, Conditional, Alternative, Looped, Repeated, Counted, Statements, Nothing as NoStatements, More as Then, Routine, External, GlobalsDeclared, FunctionDeclared}
use Rattle.kt_types.specs.declared.kinds.Ty.{Ty}
use Rattle.kt_types.specs.declared.kinds.View.{View}
use Rattle.kt_types.specs.declared.kinds.View.TheVariants as view
use Rattle.kt_names.specs.declared.ctype.CType.{CType}
use Rattle.kt_names.specs.declared.builtin.Builtin.{Builtin}
use Rattle.kt_names.specs.declared.builtin.Builtin.TheVariants as builtin
use Rattle.kt_names.specs.Uses.{stars_of, result_stars, where_there, uses_of, structs_of}
use Rattle.kt_names.specs.Types.{with_names, with_uses, scalars, ctype}
use Rattle.kt_names.specs.Environment.{Outer, Global, Function, Declared}
use Rattle.kt_names.specs.Builtins.{builtin_named}

-- ---- types

-- the names of the structs, and the types
abbrev pub struct_names : List External → List (List ℕ)
struct_names xs = with_names [] (structs_of xs)

abbrev pub types_of : List External → List Ty
types_of xs = with_uses (struct_names xs) scalars (uses_of xs)

abbrev pub declared_type : List (List ℕ) → Base → Option Pointer → CType
declared_type structs b p = ctype structs b (stars_of p)

-- ---- what a file declares outside functions

-- a global with the base of its declaration
pub record OuterGlobal : Type 0 where
  pub base : Base
  pub declarator : GlobalDeclarator

abbrev pub globals_in : External → List OuterGlobal
globals_in (GlobalsDeclared b gs) = map (λ g. record { base = b; declarator = g }) gs
globals_in _ = []

abbrev pub globals_of : List External → List OuterGlobal
globals_of xs = flat_map globals_in xs

abbrev pub functions_in : External → List Routine
functions_in (FunctionDeclared f) = f ∷ []
functions_in _ = []

-- all declarations of functions
abbrev pub functions_of : List External → List Routine
functions_of xs = flat_map functions_in xs

-- those that are definitions
abbrev pub defined_in : List Routine → List Routine
defined_in [] = []
defined_in (f ∷ rest) = if is_some f.body then f ∷ defined_in rest else defined_in rest

abbrev pub defined_of : List External → List Routine
defined_of xs = defined_in (functions_of xs)

abbrev pub first_by : {A : Type 0} → (A → Bool) → List A → Option A
first_by test [] = None
first_by test (x ∷ rest) = if test x then Some x else first_by test rest

abbrev pub result_type : List (List ℕ) → Routine → Option CType
result_type t f = option_map (λ b. ctype t b (result_stars f.stars)) f.result

abbrev pub parameter_types : List (List ℕ) → Routine → List CType
parameter_types t f = map (λ p. declared_type t p.base p.pointer) f.parameters

-- a function as its first declaration has it, with its number among the definitions
abbrev pub function_named : List (List ℕ) → List External → List ℕ → Option Declared
function_named t xs n =
    option_map
    (λ f. record { parameters = parameter_types t f; result = result_type t f; number = position_from (λ g. bytes_eq g.name.word n) 0 (defined_of xs) })
    (first_by (λ f. bytes_eq f.name.word n) (functions_of xs))

abbrev pub global_name : OuterGlobal → List ℕ
global_name g = g.declarator.declarator.name.word

abbrev pub global_type : List (List ℕ) → OuterGlobal → CType
global_type t g = declared_type t g.base g.declarator.declarator.pointer

abbrev pub is_array : OuterGlobal → Bool
is_array g = is_some g.declarator.declarator.count

abbrev pub global_from : List (List ℕ) → ℕ → List OuterGlobal → List ℕ → Option Outer
global_from t n [] name = None
global_from t n (g ∷ rest) name =
    if bytes_eq (global_name g) name then Some (Global n (global_type t g) (is_array g)) else global_from t (suc n) rest name

-- what a name of the file stands for: a global, or else a function
abbrev pub outer_named : List (List ℕ) → List External → List ℕ → Option Outer
outer_named t xs n = elim (global_from t 0 (globals_of xs) n) as (λ _. Option Outer)
    [ (Some g) ↦ Some g | None ↦ option_map Function (function_named t xs n) ]

-- ---- locals

pub record DeclaredLocal : Type 0 where
  pub name : List ℕ
  pub ty : CType
  pub base : Base
  pub pointer : Option Pointer

abbrev pub parameter_local : List (List ℕ) → Parameter → DeclaredLocal
parameter_local t p = record { name = p.name.word; ty = declared_type t p.base p.pointer; base = p.base; pointer = p.pointer }

abbrev pub locals_in : List (List ℕ) → Declaration → List DeclaredLocal
locals_in t x = map (λ l. record { name = l.name.word; ty = declared_type t x.base l.pointer; base = x.base; pointer = l.pointer }) x.locals

abbrev pub start_locals : List (List ℕ) → Start → List DeclaredLocal
start_locals t (Declares x) = locals_in t x
start_locals t _ = []

abbrev mutual
  pub statement_locals : List (List ℕ) → Statement → List DeclaredLocal
  statement_locals t (DeclaredLocals x) = locals_in t x
  statement_locals t (Compound block) = block_locals t block
  statement_locals t (Conditional c s) = statement_locals t s
  statement_locals t (Alternative c s r) = statement_locals t s ++ statement_locals t r
  statement_locals t (Looped c s) = statement_locals t s
  statement_locals t (Repeated s c) = statement_locals t s
  statement_locals t (Counted start test step s) = start_locals t start ++ statement_locals t s
  statement_locals t _ = []

  pub block_locals : List (List ℕ) → Statements → List DeclaredLocal
  block_locals t NoStatements = []
  block_locals t (Then s rest) = statement_locals t s ++ block_locals t rest

-- the parameters, and then all locals of the body in the order of their declarations
abbrev pub locals_of : List (List ℕ) → Routine → List DeclaredLocal
locals_of t f = map (parameter_local t) f.parameters ++ where_there (λ b. block_locals t b.entries) f.body

-- ---- literals and points

-- a string with the place of its token, and what it is: a literal, an update point, or a name that is asked about
pub data Written : Type 0 where
  Literal : ℕ → List ℕ → Written
  Updates : List ℕ → Written
  Asks : List ℕ → Written

abbrev pub literal : ℕ → List ℕ → List Written
literal at bytes = Literal at bytes ∷ []

-- the first string of a call, where it is no literal
abbrev pub first_written : Option Builtin → ℕ → List ℕ → List Written
first_written (Some builtin.Printf) at bytes = []
first_written (Some builtin.Update) at bytes = Updates bytes ∷ []
first_written (Some builtin.IsUpdatingFrom) at bytes = Asks bytes ∷ []
first_written _ at bytes = literal at bytes

abbrev mutual
  pub term_written : Term → List Written
  term_written (Text at bytes) = literal at bytes
  term_written (Called n (More (Text at bytes) rest)) = first_written (builtin_named n.word) at bytes ++ terms_written rest
  term_written (Called n args) = terms_written args
  term_written (Parenthesised at a) = term_written a
  term_written (Transformed at a) = term_written a
  term_written (Element a i) = term_written a ++ term_written i
  term_written (Member a f) = term_written a
  term_written (Pointed a f) = term_written a
  term_written (Stepped a op) = term_written a
  term_written (Prefixed at op a) = term_written a
  term_written (Converted at t a) = term_written a
  term_written (Operated op a b) = term_written a ++ term_written b
  term_written (Chosen c a b) = term_written c ++ (term_written a ++ term_written b)
  term_written (Assigned op a b) = term_written a ++ term_written b
  term_written _ = []

  pub terms_written : Terms → List Written
  terms_written Nothing = []
  terms_written (More a rest) = term_written a ++ terms_written rest

abbrev pub declaration_written : Declaration → List Written
declaration_written x = flat_map (λ l. where_there term_written l.initial) x.locals

abbrev pub start_written : Start → List Written
start_written NoStart = []
start_written (Declares x) = declaration_written x
start_written (Evaluates e) = term_written e

abbrev mutual
  pub statement_written : Statement → List Written
  statement_written (DeclaredLocals x) = declaration_written x
  statement_written (Compound block) = block_written block
  statement_written (Evaluated e) = term_written e
  statement_written (Returned at e) = where_there term_written e
  statement_written (Conditional c s) = term_written c ++ statement_written s
  statement_written (Alternative c s r) = term_written c ++ (statement_written s ++ statement_written r)
  statement_written (Looped c s) = term_written c ++ statement_written s
  statement_written (Repeated s c) = statement_written s ++ term_written c
  statement_written (Counted start test step s) =
      start_written start ++ (where_there term_written test ++ (where_there term_written step ++ statement_written s))
  statement_written _ = []

  pub block_written : Statements → List Written
  block_written NoStatements = []
  block_written (Then s rest) = statement_written s ++ block_written rest

abbrev pub constant_written : Constant → List Written
constant_written (written.Text at bytes) = literal at bytes
constant_written _ = []

abbrev pub external_written : External → List Written
external_written (GlobalsDeclared b gs) = flat_map (λ g. where_there constant_written g.initial) gs
external_written (FunctionDeclared f) = where_there (λ b. block_written b.entries) f.body
external_written _ = []

abbrev pub written_of : List External → List Written
written_of xs = flat_map external_written xs

abbrev pub literals_in : List Written → List (List ℕ)
literals_in [] = []
literals_in (Literal at bytes ∷ rest) = bytes ∷ literals_in rest
literals_in (_ ∷ rest) = literals_in rest

abbrev pub literal_places : List Written → List ℕ
literal_places [] = []
literal_places (Literal at bytes ∷ rest) = at ∷ literal_places rest
literal_places (_ ∷ rest) = literal_places rest

-- the number of the literal at a place in the file (which has one)
abbrev pub literal_number : List ℕ → ℕ → ℕ
literal_number places at = elim (position_from (λ p. p == at) 0 places) as (λ _. ℕ) [ None ↦ 0 | (Some n) ↦ n ]

abbrev pub updates_in : List Written → List (List ℕ)
updates_in [] = []
updates_in (Updates bytes ∷ rest) = bytes ∷ updates_in rest
updates_in (_ ∷ rest) = updates_in rest

abbrev pub asks_in : List Written → List (List ℕ)
asks_in [] = []
asks_in (Asks bytes ∷ rest) = bytes ∷ asks_in rest
asks_in (_ ∷ rest) = asks_in rest

-- the names of points: the update points, and then the names that are asked about alone
abbrev pub update_names : List External → List (List ℕ)
update_names xs = with_names [] (updates_in (written_of xs))

abbrev pub point_names : List External → List (List ℕ)
point_names xs = with_names (update_names xs) (asks_in (written_of xs))

-- ---- views (E_PTRARRAY)

-- a plain `char *` points to a whole object, another plain pointer to one element
abbrev pub plain_view : Base → Option Pointer → View
plain_view base.Char (Some p) = if p.stars.count == 1 then view.Whole else view.One
plain_view b p = view.One

abbrev pub global_view : Option Outer → View
global_view (Some (Global n t array)) = view.Global n
global_view _ = view.One

-- the view of an extent outside a struct
abbrev pub outer_view : (List ℕ → Option Outer) → Extent → View
outer_view outer (extent.Name n) = global_view (outer n.word)
outer_view outer (extent.Number at n) = view.Count n.value

abbrev pub extent_of : Option Pointer → Option Extent
extent_of None = None
extent_of (Some p) = p.extent

abbrev pub view_of : (List ℕ → Option Outer) → Base → Option Pointer → View
view_of outer b p = elim (extent_of p) as (λ _. View) [ None ↦ plain_view b p | (Some e) ↦ outer_view outer e ]
