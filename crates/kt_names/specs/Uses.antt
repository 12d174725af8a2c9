-- Which types and structs a file names, in the order of the file.
use Rattle.std.specs.Prelude.{ℕ, ◌+◌, nat_le, List, [], ◌∷◌, ◌++◌, flat_map, codes, Option, Some, None, if◌then◌else◌}
use Rattle.std.specs.Str.{bytes_eq}
use Rattle.kt_grammar.specs.declared.tree.Base.{Base}
use Rattle.kt_grammar.specs.declared.tree.Base.TheVariants as base
use Rattle.kt_grammar.specs.declared.tree.Name.{Name}
use Rattle.kt_grammar.specs.declared.tree.TypeName.{TypeName}
use Rattle.kt_lex.specs.declared.number.Number.{Number}
use Rattle.kt_grammar.specs.Tree.{Term, Text, Null, Called, Parenthesised, SizeOf, Element, Member, Pointed, Stepped, Prefixed, Converted, Operated, Chosen, Assigned, Terms, Nothing, More}
use Rattle.kt_syntax.specs.declared.tree.Stars.{Stars}
use Rattle.kt_syntax.specs.declared.tree.Pointer.{Pointer}
use Rattle.kt_syntax.specs.declared.tree.Declarator.{Declarator}
use Rattle.kt_syntax.specs.declared.tree.GlobalDeclarator.{GlobalDeclarator}
use Rattle.kt_syntax.specs.declared.tree.Parameter.{Parameter}
use Rattle.kt_syntax.specs.declared.tree.Fields.{Fields}
use Rattle.kt_syntax.specs.Tree.{Local, Declaration, Start, NoStart, Declares, Evaluates, Statement, Declared, Compound, Evaluated, Returned, Conditional, Alternative, Looped, Repeated, Counted, Statements, Nothing as NoStatements, More as Then, Routine, External, StructMentioned, StructDefined, GlobalsDeclared, FunctionDeclared}

-- a type as a text names it: a base with so many stars, or an array of so many of those
pub data Use : Type 0 where
  Starred : Base → ℕ → Use
  Arrayed : Base → ℕ → ℕ → Use

-- how many stars a declarator has
abbrev pub stars_of : Option Pointer → ℕ
stars_of None = 0
stars_of (Some p) = p.stars.count

-- the stars of a function's declarator
abbrev pub result_stars : Option Stars → ℕ
result_stars None = 0
result_stars (Some s) = s.count

-- what is named where there is something
abbrev pub where_there : {A B : Type 0} → (A → List B) → Option A → List B
where_there f None = []
where_there f (Some x) = f x

-- ---- types, each with its pointees; with a pointer to it where a pointer may come to be without a declaration

-- an allocation of bytes is of `char *`
abbrev pub called_uses : Name → List Use
called_uses n = if bytes_eq n.word (codes "malloc") then Starred base.Char 1 ∷ [] else []

abbrev pub named_uses : TypeName → List Use
named_uses t = Starred t.base (t.stars + 1) ∷ []

abbrev mutual
  pub term_uses : Term → List Use
  term_uses (Text at bytes) = Starred base.Char 1 ∷ []
  term_uses (Null at) = Starred base.Char 1 ∷ []
  term_uses (Called n args) = called_uses n ++ terms_uses args
  term_uses (Parenthesised at a) = term_uses a
  term_uses (SizeOf at t) = named_uses t
  term_uses (Element a i) = term_uses a ++ term_uses i
  term_uses (Member a f) = term_uses a
  term_uses (Pointed a f) = term_uses a
  term_uses (Stepped a op) = term_uses a
  term_uses (Prefixed at op a) = term_uses a
  term_uses (Converted at t a) = named_uses t ++ term_uses a
  term_uses (Operated op a b) = term_uses a ++ term_uses b
  term_uses (Chosen c a b) = term_uses c ++ (term_uses a ++ term_uses b)
  term_uses (Assigned op a b) = term_uses a ++ term_uses b
  term_uses _ = []

  pub terms_uses : Terms → List Use
  terms_uses Nothing = []
  terms_uses (More a rest) = term_uses a ++ terms_uses rest

-- the types of declarators of one base, each with so many stars more
abbrev pub local_uses : Base → Local → List Use
local_uses b l = Starred b (stars_of l.pointer) ∷ where_there term_uses l.initial

abbrev pub declaration_uses : Declaration → List Use
declaration_uses x = flat_map (local_uses x.base) x.locals

abbrev pub start_uses : Start → List Use
start_uses NoStart = []
start_uses (Declares x) = declaration_uses x
start_uses (Evaluates e) = term_uses e

abbrev mutual
  pub statement_uses : Statement → List Use
  statement_uses (Declared x) = declaration_uses x
  statement_uses (Compound block) = statements_uses block
  statement_uses (Evaluated e) = term_uses e
  statement_uses (Returned at e) = where_there term_uses e
  statement_uses (Conditional c s) = term_uses c ++ statement_uses s
  statement_uses (Alternative c s t) = term_uses c ++ (statement_uses s ++ statement_uses t)
  statement_uses (Looped c s) = term_uses c ++ statement_uses s
  statement_uses (Repeated s c) = statement_uses s ++ term_uses c
  statement_uses (Counted start test step s) =
      start_uses start ++ (where_there term_uses test ++ (where_there term_uses step ++ statement_uses s))
  statement_uses _ = []

  pub statements_uses : Statements → List Use
  statements_uses NoStatements = []
  statements_uses (Then s rest) = statement_uses s ++ statements_uses rest

-- A field's type, or that of its elements, with a pointer to it; and then the array. (None has more than 65,536 elements.)
abbrev pub counted_uses : Base → ℕ → Option Number → List Use
counted_uses b stars None = Starred b (stars + 1) ∷ []
counted_uses b stars (Some n) = Starred b (stars + 1) ∷ (if nat_le n.value 65536 then Arrayed b stars n.value ∷ [] else [])

abbrev pub field_uses : Base → Declarator → List Use
field_uses b d = counted_uses b (stars_of d.pointer) d.count

abbrev pub fields_uses : Fields → List Use
fields_uses f = flat_map (field_uses f.base) f.declarators

-- a global's type, or that of its elements, with a pointer to it
abbrev pub global_uses : Base → GlobalDeclarator → List Use
global_uses b g = Starred b (stars_of g.declarator.pointer + 1) ∷ []

abbrev pub parameter_uses : Parameter → List Use
parameter_uses p = Starred p.base (stars_of p.pointer) ∷ []

-- `void` is no type of the table
abbrev pub result_uses : Option Base → ℕ → List Use
result_uses None stars = []
result_uses (Some b) stars = Starred b stars ∷ []

abbrev pub head_uses : Routine → List Use
head_uses f = result_uses f.result (result_stars f.stars) ++ flat_map parameter_uses f.parameters

abbrev pub body_uses : Routine → List Use
body_uses f = where_there (λ b. statements_uses b.entries) f.body

abbrev pub external_uses : External → List Use
external_uses (StructMentioned n) = []
external_uses (StructDefined n fs) = flat_map fields_uses fs
external_uses (GlobalsDeclared b gs) = flat_map (global_uses b) gs
external_uses (FunctionDeclared f) = head_uses f ++ body_uses f

-- all types that a file names, in its order
abbrev pub uses_of : List External → List Use
uses_of xs = flat_map external_uses xs

-- ---- structs: first those that declarations name, then those of bodies

abbrev pub base_structs : Base → List (List ℕ)
base_structs (base.Struct n) = n.word ∷ []
base_structs _ = []

abbrev pub use_structs : Use → List (List ℕ)
use_structs (Starred b stars) = base_structs b
use_structs (Arrayed b stars n) = base_structs b

abbrev pub declared_structs : External → List (List ℕ)
declared_structs (StructMentioned n) = n.word ∷ []
declared_structs (StructDefined n fs) = n.word ∷ flat_map (λ f. base_structs f.base) fs
declared_structs (GlobalsDeclared b gs) = base_structs b
declared_structs (FunctionDeclared f) = flat_map use_structs (head_uses f)

abbrev pub body_structs : External → List (List ℕ)
body_structs (FunctionDeclared f) = flat_map use_structs (body_uses f)
body_structs _ = []

-- all structs that a file mentions, each as often as it does
abbrev pub structs_of : List External → List (List ℕ)
structs_of xs = flat_map declared_structs xs ++ flat_map body_structs xs
