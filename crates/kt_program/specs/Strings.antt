-- The strings of a file: its literals, and the names of its points.
use Rattle.std.specs.Prelude.{ℕ, ◌==◌, List, [], ◌∷◌, ◌++◌, flat_map, Option, Some}
use Rattle.kt_grammar.specs.Tree.{Term, Text, Called, Parenthesised, Transformed, Element, Member, Pointed, Stepped, Prefixed, Converted, Operated, Chosen, Assigned, Terms, Nothing, More}
use Rattle.kt_syntax.specs.declared.tree.Constant.{Constant}
use Rattle.kt_syntax.specs.declared.tree.Constant.TheVariants as written
use Rattle.kt_syntax.specs.Tree.{Declaration, Start, NoStart, Declares, Evaluates, Statement, Declared as DeclaredLocals, Compound, Evaluated, Returned, Conditional, Alternative, Looped, Repeated, Counted, Statements, Nothing as NoStatements, More as Then, External, GlobalsDeclared, FunctionDeclared}
use Rattle.kt_typing.specs.declared.builtin.Builtin.{Builtin}
use Rattle.kt_typing.specs.declared.builtin.Builtin.TheVariants as builtin
use Rattle.kt_typing.specs.Calls.{builtin_named}
use Rattle.kt_program.specs.Mentioned.{where_there}
use Rattle.kt_program.specs.Types.{place_by, with_names}

-- a string with the place of its token, and what it is: a literal, an update point, or a name that is asked about
pub data Written : Type 0 where
  Literal : ℕ → List ℕ → Written
  Updates : List ℕ → Written
  Asks : List ℕ → Written

abbrev pub literal : ℕ → List ℕ → List Written
literal at bytes = Literal at bytes ∷ []

-- the first string of a call, where it is no literal
abbrev pub first_written : Option Builtin → ℕ → List ℕ → List Written
first_written (Some builtin.Printf) at bytes = []
first_written (Some builtin.Update) at bytes = Updates bytes ∷ []
first_written (Some builtin.IsUpdatingFrom) at bytes = Asks bytes ∷ []
first_written _ at bytes = literal at bytes

abbrev mutual
  pub term_written : Term → List Written
  term_written (Text at bytes) = literal at bytes
  term_written (Called n (More (Text at bytes) rest)) = first_written (builtin_named n.word) at bytes ++ terms_written rest
  term_written (Called n args) = terms_written args
  term_written (Parenthesised at a) = term_written a
  term_written (Transformed at a) = term_written a
  term_written (Element a i) = term_written a ++ term_written i
  term_written (Member a f) = term_written a
  term_written (Pointed a f) = term_written a
  term_written (Stepped a op) = term_written a
  term_written (Prefixed at op a) = term_written a
  term_written (Converted at t a) = term_written a
  term_written (Operated op a b) = term_written a ++ term_written b
  term_written (Chosen c a b) = term_written c ++ (term_written a ++ term_written b)
  term_written (Assigned op a b) = term_written a ++ term_written b
  term_written _ = []

  pub terms_written : Terms → List Written
  terms_written Nothing = []
  terms_written (More a rest) = term_written a ++ terms_written rest

abbrev pub declaration_written : Declaration → List Written
declaration_written x = flat_map (λ l. where_there term_written l.initial) x.locals

abbrev pub start_written : Start → List Written
start_written NoStart = []
start_written (Declares x) = declaration_written x
start_written (Evaluates e) = term_written e

abbrev mutual
  pub statement_written : Statement → List Written
  statement_written (DeclaredLocals x) = declaration_written x
  statement_written (Compound block) = block_written block
  statement_written (Evaluated e) = term_written e
  statement_written (Returned at e) = where_there term_written e
  statement_written (Conditional c s) = term_written c ++ statement_written s
  statement_written (Alternative c s r) = term_written c ++ (statement_written s ++ statement_written r)
  statement_written (Looped c s) = term_written c ++ statement_written s
  statement_written (Repeated s c) = statement_written s ++ term_written c
  statement_written (Counted start test step s) =
      start_written start ++ (where_there term_written test ++ (where_there term_written step ++ statement_written s))
  statement_written _ = []

  pub block_written : Statements → List Written
  block_written NoStatements = []
  block_written (Then s rest) = statement_written s ++ block_written rest

abbrev pub constant_written : Constant → List Written
constant_written (written.Text at bytes) = literal at bytes
constant_written _ = []

abbrev pub external_written : External → List Written
external_written (GlobalsDeclared b gs) = flat_map (λ g. where_there constant_written g.initial) gs
external_written (FunctionDeclared f) = where_there (λ b. block_written b.entries) f.body
external_written _ = []

abbrev pub written_of : List External → List Written
written_of xs = flat_map external_written xs

abbrev pub literals_in : List Written → List (List ℕ)
literals_in [] = []
literals_in (Literal at bytes ∷ rest) = bytes ∷ literals_in rest
literals_in (_ ∷ rest) = literals_in rest

abbrev pub literal_places : List Written → List ℕ
literal_places [] = []
literal_places (Literal at bytes ∷ rest) = at ∷ literal_places rest
literal_places (_ ∷ rest) = literal_places rest

-- the number of the literal at a place in the file (which has one)
abbrev pub literal_number : List ℕ → ℕ → ℕ
literal_number places at = place_by (λ p. p == at) places

abbrev pub updates_in : List Written → List (List ℕ)
updates_in [] = []
updates_in (Updates bytes ∷ rest) = bytes ∷ updates_in rest
updates_in (_ ∷ rest) = updates_in rest

abbrev pub asks_in : List Written → List (List ℕ)
asks_in [] = []
asks_in (Asks bytes ∷ rest) = bytes ∷ asks_in rest
asks_in (_ ∷ rest) = asks_in rest

-- the names of points: the update points, and then the names that are asked about alone
abbrev pub update_names : List External → List (List ℕ)
update_names xs = with_names [] (updates_in (written_of xs))

abbrev pub point_names : List External → List (List ℕ)
point_names xs = with_names (update_names xs) (asks_in (written_of xs))
