-- What is judged of a file: its external declarations, each behind those before it, and that there is `main` (ISO/IEC 9899:2011, 6.9).
use Rattle.std.specs.Prelude.{ℕ, ◌+◌, ◌==◌, Bool, false, ◌&&◌, List, [], ◌∷◌, ◌++◌, map, codes, length, Some}
use Rattle.std.specs.List.{list_any}
use Rattle.std.specs.Str.{bytes_eq}
use Rattle.kt_grammar.specs.declared.tree.Base.{Base}
use Rattle.kt_syntax.specs.declared.tree.GlobalDeclarator.{GlobalDeclarator}
use Rattle.kt_syntax.specs.Tree.{Tree, Routine, External, StructMentioned, StructDefined, GlobalsDeclared, FunctionDeclared}
use Rattle.kt_types.specs.Table.{Table}
use Rattle.kt_typing.specs.Environment.{Environment}
use Rattle.kt_typing.specs.Faults.{fault_at}
use Rattle.kt_typing.specs.declared.fault.Kind.TheVariants as kind
use Rattle.kt_program.specs.Gathered.{result_type, same_result}
use Rattle.kt_program.specs.Types.{int}
use Rattle.kt_program.specs.Declarators.{where_not}
use Rattle.kt_program.specs.FileTable.{start, with_external}
use Rattle.kt_program.specs.Functions.{function}
use Rattle.kt_program.specs.Globals.{globals, global_cells}
use Rattle.kt_program.specs.Judgments.{Judgment, Held, Judgments, NoMore, And}
use Rattle.kt_program.specs.Made.{joined}
use Rattle.kt_program.specs.Outside.{Whole, whole, environment}
use Rattle.kt_program.specs.Statements.{absent}
use Rattle.kt_program.specs.Structs.{struct}

-- what stands before a place of a file: the table of types so far, the names of the structs with a definition, globals and their cells,
-- functions
pub record Before : Type 0 where
  pub table : Table
  pub defined : List (List ℕ)
  pub globals : List (List ℕ)
  pub cells : ℕ
  pub functions : List Routine

abbrev pub nothing : List External → Before
nothing xs = record { table = start xs; defined = []; globals = []; cells = 0; functions = [] }

abbrev pub outside : Whole → Before → Environment
outside w b = environment w b.table.defined [] false

abbrev pub with_globals : Environment → Base → Before → List GlobalDeclarator → Before
with_globals env base b [] = b
with_globals env base b (g ∷ rest) =
    with_globals env base (record b { globals = g.declarator.name.word ∷ b.globals; cells = b.cells + global_cells env base g }) rest

-- with the names that an external declaration declares
abbrev pub with_names : Whole → Before → External → Before
with_names w b (StructMentioned n) = b
with_names w b (StructDefined n fs) = record b { defined = n.word ∷ b.defined }
with_names w b (GlobalsDeclared base gs) = with_globals (outside w b) base b gs
with_names w b (FunctionDeclared r) = record b { functions = r ∷ b.functions }

-- behind it
abbrev pub after : Whole → Before → External → Before
after w b x = record (with_names w b x) { table = with_external w.globals b.table x }

abbrev pub external : Whole → Before → External → Judgment
external w b (StructMentioned n) = absent
external w b (StructDefined n fs) = struct (outside w b) b.defined n fs
external w b (GlobalsDeclared base gs) = globals (outside w b) (b.globals ++ map (λ r. r.name.word) b.functions) b.cells base gs
external w b (FunctionDeclared r) = function w b.table.defined b.globals b.functions r

abbrev pub externals : Whole → Before → List External → Judgments
externals w b [] = NoMore
externals w b (x ∷ rest) = And (external w b x) (externals w (after w b x) rest)

-- `main` is defined, gives `int` and has no parameter
abbrev pub is_main : Whole → Routine → Bool
is_main w r = bytes_eq r.name.word (codes "main") && same_result (result_type w.structs r) (Some int) && (length r.parameters == 0)

-- what is judged of a file gives the bodies of its functions, in their order
abbrev pub file : Tree → Judgment
file t =
    let w = whole t.externals in
    Held (where_not (list_any (is_main w) w.defined) (fault_at kind.NoMain t.length)) (externals w (nothing t.externals) t.externals) joined
