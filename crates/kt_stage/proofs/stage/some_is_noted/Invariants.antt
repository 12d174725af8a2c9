use Rattle.std.proofs.Common.{◌≡◌, false, take}
use Rattle.std.specs.List.{list_any}
use Rattle.kt_stage.proofs.stage.some_is_noted.Given as goal

abbrev pub invariant-loop-function : goal.invariant-loop-function
invariant-loop-function l = list_any (λ f. f.noted) (take l.function-index l.functions) ≡ false
