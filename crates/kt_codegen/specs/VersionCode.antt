-- The instructions of a function, and the code of a version: the functions' one after another.
use Rattle.std.specs.Prelude.{ℕ, pos, ◌+◌, Bool, true, false, List, [], ◌∷◌, ◌++◌, length, Option, None, Some}
use Rattle.kt_types.specs.Table.{Table}
use Rattle.kt_tree.specs.Tree.{Function}
use Rattle.kt_tree.specs.Version.{Program}
use Rattle.kt_meaning.specs.TreeSteps.{is_main}
use Rattle.kt_code.specs.Code.{Code}
use Rattle.kt_code.specs.declared.instr.Instr.{Instr}
use Rattle.kt_code.specs.declared.instr.Instr.TheVariants as instr
use Rattle.kt_codegen.specs.StatementCode.{statement_code}

-- behind the body: `main` returns 0, a `void` function leaves, any other one has no value (ISO/IEC 9899:2011, 5.1.2.2.3, 6.9.1)
abbrev pub end_code : Bool → Option ℕ → List Instr
end_code true result = instr.Number (pos 0) ∷ instr.Return ∷ []
end_code false None = instr.Leave ∷ []
end_code false (Some t) = instr.NoValue ∷ []

abbrev pub function_code : Table → List Function → Function → List Instr
function_code types functions f = statement_code types functions 0 0 f.body ++ end_code (is_main f) f.result

-- the second list has the functions whose instructions stand there; the first has all, which calls look into
abbrev pub functions_code : Table → List Function → List Function → List Instr
functions_code types functions [] = []
functions_code types functions (f ∷ rest) = function_code types functions f ++ functions_code types functions rest

-- where each function begins, the first one at this place
abbrev pub entries_from : Table → List Function → ℕ → List Function → List ℕ
entries_from types functions p [] = []
entries_from types functions p (f ∷ rest) = p ∷ entries_from types functions (p + length (function_code types functions f)) rest

abbrev pub version_code : Program → Code
version_code p = record {
  instrs = functions_code p.types p.functions p.functions;
  entries = entries_from p.types p.functions 0 p.functions;
  points = p.points;
}
