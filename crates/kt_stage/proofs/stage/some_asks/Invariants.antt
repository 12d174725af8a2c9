use Rattle.std.proofs.Common.{◌≡◌, false, take}
use Rattle.std.specs.List.{list_any}
use Rattle.kt_tree.specs.Tree.{function_of}
use Rattle.kt_stage.specs.Stage.{is_threaded, function_asks}
use Rattle.kt_stage.proofs.stage.some_asks.Given as goal

abbrev pub invariant-loop-function : goal.invariant-loop-function
invariant-loop-function l = list_any (λ f. function_asks is_threaded (function_of f)) (take l.function-index l.functions) ≡ false
