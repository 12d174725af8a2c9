use Rattle.std.proofs.Common.{◌≡◌, drop}
use Rattle.kt_tree.specs.Tree.{statements_of}
use Rattle.kt_stage.specs.Stage.{is_threaded, statements_ask}
use Rattle.kt_stage.proofs.asks.+statements.Given as goal

-- those that are left ask for one where all do
abbrev pub invariant-block_asks-loop-stmt : goal.invariant-block_asks-loop-stmt
invariant-block_asks-loop-stmt l =
    statements_ask is_threaded (statements_of (drop l.stmt-index l.block)) ≡ statements_ask is_threaded (statements_of l.block)
