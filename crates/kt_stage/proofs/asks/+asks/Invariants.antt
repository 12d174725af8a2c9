use Rattle.std.proofs.Common.{◌≡◌, drop}
use Rattle.kt_tree.specs.Tree.{expressions_of}
use Rattle.kt_stage.specs.Stage.{is_threaded, expressions_ask}
use Rattle.kt_stage.proofs.asks.+asks.Given as goal

-- those that are left ask for one where all do
abbrev pub invariant-operands_ask-loop-operand : goal.invariant-operands_ask-loop-operand
invariant-operands_ask-loop-operand l =
    expressions_ask is_threaded (expressions_of (drop l.operand-index l.operands)) ≡ expressions_ask is_threaded (expressions_of l.operands)
