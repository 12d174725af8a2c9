-- The typed program of a file, and what makes a program the typed one of a syntax tree.
use Rattle.std.specs.Prelude.{◌≡◌, ℕ, zero, suc, pos, negsuc, List, [], ◌∷◌, map, length, Option, Some, None}
use Rattle.std.specs.Option.{option_map}
use Rattle.kt_lex.specs.declared.number.Number.{Number}
use Rattle.kt_syntax.specs.declared.tree.Constant.{Constant}
use Rattle.kt_syntax.specs.declared.tree.Constant.TheVariants as written
use Rattle.kt_syntax.specs.Tree.{Tree, Routine, External}
use Rattle.kt_types.specs.declared.kinds.FieldDecl.{FieldDecl}
use Rattle.kt_tree.specs.declared.global.GlobalDecl.{GlobalDecl}
use Rattle.kt_tree.specs.declared.global.Init.{Init}
use Rattle.kt_tree.specs.declared.global.Init.TheVariants as init
use Rattle.kt_tree.specs.Tree.{Statement, Function}
use Rattle.kt_tree.specs.Version.{Program}
use Rattle.kt_typing.specs.declared.fault.Fault.{Fault}
use Rattle.kt_program.specs.Files.{file}
use Rattle.kt_program.specs.FileTable.{table_of}
use Rattle.kt_program.specs.Gathered.{OuterGlobal, DeclaredLocal, global_name, global_type, is_array, locals_of, result_type, is_noted}
use Rattle.kt_program.specs.Globals.{negative}
use Rattle.kt_program.specs.Judgments.{made, IsWrong}
use Rattle.kt_program.specs.Made.{Made, lines_of}
use Rattle.kt_program.specs.Mentioned.{stars_of}
use Rattle.kt_program.specs.Outside.{Whole, whole}
use Rattle.kt_program.specs.Strings.{literal_number, literals_in, written_of}
use Rattle.kt_program.specs.Structs.{count_of}
use Rattle.kt_program.specs.Types.{place_in}
use Rattle.kt_program.specs.Views.{view_of}

-- ---- globals

-- what a constant is as a number, or where so many stars stand before the name, as a pointer
abbrev pub number_init : ℕ → Number → Init
number_init zero n = init.Number (pos n.value)
number_init (suc stars) n = init.Null

-- a global without a written initial value is zero, null or free
abbrev pub initial_value : List ℕ → ℕ → Option Constant → Init
initial_value literals stars None = init.Zero
initial_value literals stars (Some (written.Number n)) = number_init stars n
initial_value literals stars (Some (written.Negative n)) = init.Number (negative n.value)
initial_value literals stars (Some (written.Character b)) = init.Number (pos b)
initial_value literals stars (Some (written.Text at bytes)) = init.Literal (literal_number literals at)
initial_value literals stars (Some written.Null) = init.Null
initial_value literals stars (Some written.Eof) = init.Number (negsuc 0)
initial_value literals stars (Some written.MutexInitializer) = init.Free

abbrev pub global_of : Whole → OuterGlobal → GlobalDecl
global_of w g = record {
  name = global_name g;
  ty = place_in w.types (global_type w.structs g);
  count = count_of g.declarator.declarator.count;
  array = is_array g;
  view = view_of w.globals g.base g.declarator.declarator.pointer;
  init = initial_value w.literals (stars_of g.declarator.declarator.pointer) g.declarator.initial;
}

-- ---- functions

abbrev pub local_of : Whole → DeclaredLocal → FieldDecl
local_of w l = record { name = l.name; ty = place_in w.types l.ty; view = view_of w.globals l.base l.pointer }

-- a defined function with what comes of its body
abbrev pub function_of : Whole → Routine → Statement → Function
function_of w r body = record {
  name = r.name.word;
  result = option_map (place_in w.types) (result_type w.structs r);
  params = length r.parameters;
  noted = is_noted r.body;
  locals = map (local_of w) (locals_of w.structs r);
  body = body;
}

abbrev pub functions_of : Whole → List Routine → List Statement → List Function
functions_of w (r ∷ rest) (s ∷ bodies) = function_of w r s ∷ functions_of w rest bodies
functions_of w _ _ = []

-- ---- files

-- the program of these external declarations, with what comes of the bodies of their functions
abbrev pub program_of : List External → Made → Program
program_of xs bodies =
    let w = whole xs in
    record {
      types = table_of xs;
      globals = map (global_of w) w.globals;
      literals = literals_in (written_of xs);
      functions = functions_of w w.defined (lines_of bodies);
      points = record { names = w.points; updates = w.updates };
    }

abbrev pub program_made : List External → Option Made → Option Program
program_made xs m = option_map (program_of xs) m

-- the program is the typed one of the tree
abbrev pub IsTyped : Tree → Program → Type 0
IsTyped t p = program_made t.externals (made (file t)) ≡ Some p

-- the fault is one of the file
abbrev pub IsFaultOf : Tree → Fault → Type 0
IsFaultOf t f = IsWrong (file t) f
