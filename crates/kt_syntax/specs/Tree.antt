-- The syntax tree of a C file as plain data, and what the code's tree is of it.
use Rattle.std.specs.Prelude.{ℕ, Bool, List, [], ◌∷◌, map, Option, Some, None}
use Rattle.std.specs.Option.{option_map}
use Rattle.kt_grammar.specs.declared.tree.Base.{Base}
use Rattle.kt_grammar.specs.declared.tree.Name.{Name}
use Rattle.kt_grammar.specs.Tree.{Term, term_of}
use Rattle.kt_syntax.specs.declared.tree.Pointer.{Pointer}
use Rattle.kt_syntax.specs.declared.tree.Stars.{Stars}
use Rattle.kt_syntax.specs.declared.tree.Parameter.{Parameter}
use Rattle.kt_syntax.specs.declared.tree.Fields.{Fields}
use Rattle.kt_syntax.specs.declared.tree.GlobalDeclarator.{GlobalDeclarator}
use Rattle.kt_syntax.specs.declared.tree.LocalDeclarator.{LocalDeclarator}
use Rattle.kt_syntax.specs.declared.tree.Locals.{Locals}
use Rattle.kt_syntax.specs.declared.tree.ForStart.{ForStart}
use Rattle.kt_syntax.specs.declared.tree.ForStart.TheVariants as start
use Rattle.kt_syntax.specs.declared.tree.Stmt.{Stmt, Block', If', IfElse', While', Do', For', Row_of-Stmt, end_of-Stmt, more_of-Stmt}
use Rattle.kt_syntax.specs.declared.tree.Stmt.TheVariants as stmt
use Rattle.kt_syntax.specs.declared.tree.Body.{Body}
use Rattle.kt_syntax.specs.declared.tree.Function.{Function}
use Rattle.kt_syntax.specs.declared.tree.Item.{Item}
use Rattle.kt_syntax.specs.declared.tree.Item.TheVariants as item
use Rattle.kt_syntax.specs.declared.tree.File.{File}

-- a declarator of a local
pub record Local : Type 0 where
  pub pointer : Option Pointer
  pub name : Name
  pub initial : Option Term

-- locals of one base
pub record Declaration : Type 0 where
  pub base : Base
  pub locals : List Local

-- what stands first between the parentheses of `for`
pub data Start : Type 0 where
  NoStart : Start
  Declares : Declaration → Start
  Evaluates : Term → Start

-- a statement, or an entry of a block (ISO/IEC 9899:2011, 6.8)
mutual
  pub data Statement : Type 0 where
    -- of locals; an entry of a block alone
    Declared : Declaration → Statement
    Compound : Statements → Statement
    Empty : Statement
    Evaluated : Term → Statement
    Returned : ℕ → Option Term → Statement
    Broken : ℕ → Statement
    Continued : ℕ → Statement
    Conditional : Term → Statement → Statement
    Alternative : Term → Statement → Statement → Statement
    Looped : Term → Statement → Statement
    Repeated : Statement → Term → Statement
    Counted : Start → Option Term → Option Term → Statement → Statement

  pub data Statements : Type 0 where
    Nothing : Statements
    More : Statement → Statements → Statements

-- the body of a function, and whether `E_NOTELOCALS` stands before it
pub record Definition : Type 0 where
  pub noted : Bool
  pub entries : Statements

-- a function; none as result is `void`
pub record Routine : Type 0 where
  pub result : Option Base
  pub stars : Option Stars
  pub name : Name
  pub parameters : List Parameter
  pub body : Option Definition

-- an external declaration (6.9)
pub data External : Type 0 where
  StructMentioned : Name → External
  StructDefined : Name → List Fields → External
  GlobalsDeclared : Base → List GlobalDeclarator → External
  FunctionDeclared : Routine → External

-- a file, and how many bytes it has
pub record Tree : Type 0 where
  pub externals : List External
  pub length : ℕ

-- ---- the code's tree as plain data

abbrev pub local_of : LocalDeclarator → Local
local_of l = record { pointer = l.pointer; name = l.name; initial = option_map term_of l.initial }

abbrev pub declaration_of : Locals → Declaration
declaration_of l = record { base = l.base; locals = map local_of l.declarators }

abbrev pub start_of : ForStart → Start
start_of start.Nothing = NoStart
start_of (start.Locals l) = Declares (declaration_of l)
start_of (start.Expr e) = Evaluates (term_of e)

abbrev mutual
  pub statement_of : Stmt → Statement
  statement_of (stmt.Locals l) = Declared (declaration_of l)
  statement_of (Block' p row) = Compound (statements_of_row row)
  statement_of stmt.Empty = Empty
  statement_of (stmt.Expr e) = Evaluated (term_of e)
  statement_of (stmt.Return at e) = Returned at (option_map term_of e)
  statement_of (stmt.Break at) = Broken at
  statement_of (stmt.Continue at) = Continued at
  statement_of (If' c p (more_of-Stmt s end_of-Stmt)) = Conditional (term_of c) (statement_of s)
  statement_of (IfElse' c p (more_of-Stmt s end_of-Stmt) q (more_of-Stmt t end_of-Stmt)) =
      Alternative (term_of c) (statement_of s) (statement_of t)
  statement_of (While' c p (more_of-Stmt s end_of-Stmt)) = Looped (term_of c) (statement_of s)
  statement_of (Do' p (more_of-Stmt s end_of-Stmt) c) = Repeated (statement_of s) (term_of c)
  statement_of (For' start test step p (more_of-Stmt s end_of-Stmt)) =
      Counted (start_of start) (option_map term_of test) (option_map term_of step) (statement_of s)

  pub statements_of_row : {m : _} → Row_of-Stmt m → Statements
  statements_of_row end_of-Stmt = Nothing
  statements_of_row (more_of-Stmt s rest) = More (statement_of s) (statements_of_row rest)

-- a list of statements as plain data
abbrev pub statements_of : List Statement → Statements
statements_of [] = Nothing
statements_of (s ∷ rest) = More s (statements_of rest)

abbrev pub definition_of : Body → Definition
definition_of b = record { noted = b.noted; entries = statements_of (map statement_of b.entries) }

abbrev pub routine_of : Function → Routine
routine_of f = record { result = f.result; stars = f.stars; name = f.name; parameters = f.parameters; body = option_map definition_of f.body }

abbrev pub external_of : Item → External
external_of (item.Struct n fields) = elim fields as (λ _. External) [ None ↦ StructMentioned n | (Some fs) ↦ StructDefined n fs ]
external_of (item.Globals b ds) = GlobalsDeclared b ds
external_of (item.Function f) = FunctionDeclared (routine_of f)

abbrev pub tree_of : File → Tree
tree_of f = record { externals = map external_of f.items; length = f.length }
