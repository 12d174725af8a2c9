use Rattle.std.proofs.Common.{◌≡◌, drop}
use Rattle.kt_tree.specs.Tree.{expressions_of}
use Rattle.xf_plan.specs.RuleCode.{evaluate_all}
use Rattle.xf_eval.specs.declared.operands.Operands.TheVariants.{Empty}
use Rattle.xf_eval.specs.Operands.{gathered}
use Rattle.xf_eval.specs.Readings.{reading}
use Rattle.xf_eval.proofs.code.+evaluate.Given as goal

abbrev pub invariant-operands_of-loop-operand : goal.invariant-operands_of-loop-operand
invariant-operands_of-loop-operand l =
    gathered l.values (evaluate_all (reading l.types l.heap l.locals) (expressions_of (drop l.operand-index l.operand-items)))
    ≡ gathered Empty (evaluate_all (reading l.types l.heap l.locals) (expressions_of l.operand-items))
