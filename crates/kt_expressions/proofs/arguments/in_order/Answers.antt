use Rattle.std.proofs.Common.{List, map, Some, sym, ap, ◌∙◌, subst}
use Rattle.kt_operands.specs.declared.operand.Operand.{Operand as OperandCode}
use Rattle.kt_operands.specs.Views.{operand_of}
use Rattle.kt_operators.specs.Judged.{JudgesParts}
use Rattle.kt_expressions.specs.Arguments.{turned_operands}
use Rattle.kt_expressions.proofs.Lists.{turned-stops}
use Rattle.kt_expressions.proofs.arguments.in_order.Goals as goal

pub returns-in-Ok : goal.returns-in-Ok
returns-in-Ok c ps h = subst (JudgesParts turned_operands ps) c.in-Ok.is h ∙ ap (λ (xs : List OperandCode). Some (map operand_of xs)) (sym c.reverse.ensures.items)

pub returns-in-Err : goal.returns-in-Err
returns-in-Err c ps h = turned-stops ps c.in-Err.e (subst (JudgesParts turned_operands ps) c.in-Err.is h)
