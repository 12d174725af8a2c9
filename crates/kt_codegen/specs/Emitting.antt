-- What is put behind other instructions, the last instruction first.
use Rattle.std.specs.Prelude.{◌≡◌, ℕ, ◌+◌, Bool, true, false, List, [], ◌∷◌, ◌++◌, length, reverse, Option, None, Some}
use Rattle.kt_tree.specs.Tree.{Expression, Statement, Statements, Function}
use Rattle.kt_tree.specs.Version.{Program}
use Rattle.kt_code.specs.declared.instr.Instr.{Instr}
use Rattle.kt_code.specs.declared.instr.Instr.TheVariants as instr
use Rattle.kt_genexpr.specs.Emitting.{code_in}
use Rattle.kt_codegen.specs.StatementCode.{dropped_code, step_code, return_code, statement_code, statements_code}
use Rattle.kt_codegen.specs.VersionCode.{function_code, functions_code, entries_from}

-- ---- the instructions of parts of a program

abbrev pub dropped_in : Program → Expression → List Instr
dropped_in p e = dropped_code p.types p.functions e

abbrev pub step_in : Program → Option Expression → List Instr
step_in p step = step_code p.types p.functions step

abbrev pub return_in : Program → Option Expression → List Instr
return_in p value = return_code p.types p.functions value

abbrev pub statement_in : Program → ℕ → ℕ → Statement → List Instr
statement_in p next out a = statement_code p.types p.functions next out a

abbrev pub statements_in : Program → ℕ → ℕ → Statements → List Instr
statements_in p next out block = statements_code p.types p.functions next out block

abbrev pub function_in : Program → Function → List Instr
function_in p f = function_code p.types p.functions f

abbrev pub functions_in : Program → List Function → List Instr
functions_in p fs = functions_code p.types p.functions fs

abbrev pub entries_in : Program → List Function → List ℕ
entries_in p fs = entries_from p.types p.functions 0 fs

-- ---- loops

-- the jump back to a loop's tick: with a test, where the test is not zero
abbrev pub back : Bool → ℕ → Instr
back true n = instr.BackIfNotZero n
back false n = instr.Back n

-- a loop's test, and the jump back behind it
abbrev pub test_in : Program → Option Expression → ℕ → List Instr
test_in p None n = back false n ∷ []
test_in p (Some e) n = code_in p e ++ back true n ∷ []

-- a loop that has a test begins there
abbrev pub entry_code : Option Expression → ℕ → List Instr
entry_code None n = []
entry_code (Some e) n = instr.Skip n ∷ []

-- ---- statements

-- a statement was put behind these; `continue` goes to where so many of them had been put, and `break` to where so many
abbrev pub Puts : Program → Statement → ℕ → ℕ → List Instr → List Instr → Type 0
Puts p a next out old new =
    (n o : ℕ) → next + n ≡ length old → out + o ≡ length old → new ≡ old ++ reverse (statement_in p n o a)

-- the same, of statements
abbrev pub PutsAll : Program → Statements → ℕ → ℕ → List Instr → List Instr → Type 0
PutsAll p block next out old new =
    (n o : ℕ) → next + n ≡ length old → out + o ≡ length old → new ≡ old ++ reverse (statements_in p n o block)
