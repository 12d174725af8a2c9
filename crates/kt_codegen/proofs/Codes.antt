-- The code of an expression, of a step, of a statement and of a block of a version.
use Rattle.std.proofs.Common.{ℕ, List, Option}
use Rattle.kt_tree.specs.Tree.{Expression, Statement, Statements}
use Rattle.kt_meaning.specs.TreeSteps.{Version}
use Rattle.kt_code.specs.declared.instr.Instr.{Instr}
use Rattle.kt_genexpr.specs.ExpressionCode.{expression_code}
use Rattle.kt_codegen.specs.StatementCode.{step_code, statement_code, statements_code}

abbrev pub code_of : Version → Expression → List Instr
code_of s e = expression_code s.program.types s.program.functions e

abbrev pub step_of : Version → Option Expression → List Instr
step_of s e = step_code s.program.types s.program.functions e

abbrev pub statement_of : Version → ℕ → ℕ → Statement → List Instr
statement_of s next out a = statement_code s.program.types s.program.functions next out a

abbrev pub block_of : Version → ℕ → ℕ → Statements → List Instr
block_of s next out block = statements_code s.program.types s.program.functions next out block
