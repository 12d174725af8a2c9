-- Which types and structs a file names, in the order of the file.
use Rattle.std.specs.Prelude.{ℕ, ◌+◌, List, [], ◌∷◌, ◌++◌, flat_map, codes, Option, Some, None, if◌then◌else◌}
use Rattle.std.specs.Str.{bytes_eq}
use Rattle.kt_grammar.specs.declared.tree.Base.{Base}
use Rattle.kt_grammar.specs.declared.tree.Base.TheVariants as base
use Rattle.kt_grammar.specs.declared.tree.Name.{Name}
use Rattle.kt_grammar.specs.declared.tree.TypeName.{TypeName}
use Rattle.kt_lex.specs.declared.number.Number.{Number}
use Rattle.kt_grammar.specs.Tree.{Term, Text, Null, Called, Parenthesised, SizeOf, Element, Member, Pointed, Stepped, Prefixed, Converted, Operated, Chosen, Assigned, Terms, Nothing, More}
use Rattle.kt_syntax.specs.declared.tree.Stars.{Stars}
use Rattle.kt_syntax.specs.declared.tree.Pointer.{Pointer}
use Rattle.kt_syntax.specs.declared.tree.Declarator.{Declarator}
use Rattle.kt_syntax.specs.declared.tree.GlobalDeclarator.{GlobalDeclarator}
use Rattle.kt_syntax.specs.declared.tree.Parameter.{Parameter}
use Rattle.kt_syntax.specs.declared.tree.Fields.{Fields}
use Rattle.kt_syntax.specs.Tree.{Local, Declaration, Start, NoStart, Declares, Evaluates, Statement, Declared, Compound, Evaluated, Returned, Conditional, Alternative, Looped, Repeated, Counted, Statements, Nothing as NoStatements, More as Then, Routine, External, StructMentioned, StructDefined, GlobalsDeclared, FunctionDeclared}

-- a type as a text names it: a base with so many stars, or an array of so many of those
pub data Spelling : Type 0 where
  Starred : Base → ℕ → Spelling
  Arrayed : Base → ℕ → ℕ → Spelling

-- how many stars a declarator has
abbrev pub stars_of : Option Pointer → ℕ
stars_of None = 0
stars_of (Some p) = p.stars.count

-- the stars of a function's declarator
abbrev pub result_stars : Option Stars → ℕ
result_stars None = 0
result_stars (Some s) = s.count

-- what is named where there is something
abbrev pub where_there : {A B : Type 0} → (A → List B) → Option A → List B
where_there f None = []
where_there f (Some x) = f x

-- ---- types, each with its pointees; with a pointer to it where a pointer may come to be without a declaration

-- an allocation of bytes is of `char *`
abbrev pub called_spellings : Name → List Spelling
called_spellings n = if bytes_eq n.word (codes "malloc") then Starred base.Char 1 ∷ [] else []

abbrev pub named_spellings : TypeName → List Spelling
named_spellings t = Starred t.base (t.stars + 1) ∷ []

abbrev mutual
  pub term_spellings : Term → List Spelling
  term_spellings (Text at bytes) = Starred base.Char 1 ∷ []
  term_spellings (Null at) = Starred base.Char 1 ∷ []
  term_spellings (Called n args) = called_spellings n ++ terms_spellings args
  term_spellings (Parenthesised at a) = term_spellings a
  term_spellings (SizeOf at t) = named_spellings t
  term_spellings (Element a i) = term_spellings a ++ term_spellings i
  term_spellings (Member a f) = term_spellings a
  term_spellings (Pointed a f) = term_spellings a
  term_spellings (Stepped a op) = term_spellings a
  term_spellings (Prefixed at op a) = term_spellings a
  term_spellings (Converted at t a) = named_spellings t ++ term_spellings a
  term_spellings (Operated op a b) = term_spellings a ++ term_spellings b
  term_spellings (Chosen c a b) = term_spellings c ++ (term_spellings a ++ term_spellings b)
  term_spellings (Assigned op a b) = term_spellings a ++ term_spellings b
  term_spellings _ = []

  pub terms_spellings : Terms → List Spelling
  terms_spellings Nothing = []
  terms_spellings (More a rest) = term_spellings a ++ terms_spellings rest

-- the types of declarators of one base, each with so many stars more
abbrev pub local_spellings : Base → Local → List Spelling
local_spellings b l = Starred b (stars_of l.pointer) ∷ where_there term_spellings l.initial

abbrev pub declaration_spellings : Declaration → List Spelling
declaration_spellings x = flat_map (local_spellings x.base) x.locals

abbrev pub start_spellings : Start → List Spelling
start_spellings NoStart = []
start_spellings (Declares x) = declaration_spellings x
start_spellings (Evaluates e) = term_spellings e

abbrev mutual
  pub statement_spellings : Statement → List Spelling
  statement_spellings (Declared x) = declaration_spellings x
  statement_spellings (Compound block) = statements_spellings block
  statement_spellings (Evaluated e) = term_spellings e
  statement_spellings (Returned at e) = where_there term_spellings e
  statement_spellings (Conditional c s) = term_spellings c ++ statement_spellings s
  statement_spellings (Alternative c s t) = term_spellings c ++ (statement_spellings s ++ statement_spellings t)
  statement_spellings (Looped c s) = term_spellings c ++ statement_spellings s
  statement_spellings (Repeated s c) = statement_spellings s ++ term_spellings c
  statement_spellings (Counted start test step s) =
      start_spellings start ++ (where_there term_spellings test ++ (where_there term_spellings step ++ statement_spellings s))
  statement_spellings _ = []

  pub statements_spellings : Statements → List Spelling
  statements_spellings NoStatements = []
  statements_spellings (Then s rest) = statement_spellings s ++ statements_spellings rest

-- a field's type, or that of its elements, with a pointer to it; and then the array
abbrev pub counted_spellings : Base → ℕ → Option Number → List Spelling
counted_spellings b stars None = Starred b (stars + 1) ∷ []
counted_spellings b stars (Some n) = Starred b (stars + 1) ∷ Arrayed b stars n.value ∷ []

abbrev pub field_spellings : Base → Declarator → List Spelling
field_spellings b d = counted_spellings b (stars_of d.pointer) d.count

abbrev pub fields_spellings : Fields → List Spelling
fields_spellings f = flat_map (field_spellings f.base) f.declarators

-- a global's type, or that of its elements, with a pointer to it
abbrev pub global_spellings : Base → GlobalDeclarator → List Spelling
global_spellings b g = Starred b (stars_of g.declarator.pointer + 1) ∷ []

abbrev pub parameter_spellings : Parameter → List Spelling
parameter_spellings p = Starred p.base (stars_of p.pointer) ∷ []

-- `void` is no type of the table
abbrev pub result_spellings : Option Base → ℕ → List Spelling
result_spellings None stars = []
result_spellings (Some b) stars = Starred b stars ∷ []

abbrev pub head_spellings : Routine → List Spelling
head_spellings f = result_spellings f.result (result_stars f.stars) ++ flat_map parameter_spellings f.parameters

abbrev pub body_spellings : Routine → List Spelling
body_spellings f = where_there (λ b. statements_spellings b.entries) f.body

abbrev pub external_spellings : External → List Spelling
external_spellings (StructMentioned n) = []
external_spellings (StructDefined n fs) = flat_map fields_spellings fs
external_spellings (GlobalsDeclared b gs) = flat_map (global_spellings b) gs
external_spellings (FunctionDeclared f) = head_spellings f ++ body_spellings f

-- all types that a file names, in its order
abbrev pub spellings_of : List External → List Spelling
spellings_of xs = flat_map external_spellings xs

-- ---- structs: first those that declarations name, then those of bodies

abbrev pub base_structs : Base → List (List ℕ)
base_structs (base.Struct n) = n.word ∷ []
base_structs _ = []

abbrev pub use_structs : Spelling → List (List ℕ)
use_structs (Starred b stars) = base_structs b
use_structs (Arrayed b stars n) = base_structs b

abbrev pub declared_structs : External → List (List ℕ)
declared_structs (StructMentioned n) = n.word ∷ []
declared_structs (StructDefined n fs) = n.word ∷ flat_map (λ f. base_structs f.base) fs
declared_structs (GlobalsDeclared b gs) = base_structs b
declared_structs (FunctionDeclared f) = flat_map use_structs (head_spellings f)

abbrev pub body_structs : External → List (List ℕ)
body_structs (FunctionDeclared f) = flat_map use_structs (body_spellings f)
body_structs _ = []

-- all structs that a file mentions, each as often as it does
abbrev pub structs_of : List External → List (List ℕ)
structs_of xs = flat_map declared_structs xs ++ flat_map body_structs xs
