-- The instructions of an expression of a program, and where its types are right.
use Rattle.std.specs.Prelude.{◌≡◌, ℕ, List, slice_get, Some}
use Rattle.kt_tree.specs.Tree.{Expression, Expressions, Function}
use Rattle.kt_tree.specs.Typed.{Kind, kind}
use Rattle.kt_tree.specs.Version.{Program, scope_of}
use Rattle.kt_code.specs.declared.instr.Instr.{Instr}
use Rattle.kt_genexpr.specs.ExpressionCode.{expression_code, expressions_code}

abbrev pub code_in : Program → Expression → List Instr
code_in p e = expression_code p.types p.functions e

abbrev pub codes_in : Program → Expressions → List Instr
codes_in p es = expressions_code p.types p.functions es

-- the expression and all its parts have their types, in the function of this number
pub record HasKind (p : Program) (number : ℕ) (e : Expression) : Type 0 where
  pub function : Function
  pub kind_is : Kind
  pub stands : slice_get p.functions number ≡ Some function
  pub typed : kind (scope_of p function) e ≡ Some kind_is
