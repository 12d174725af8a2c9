use Rattle.std.proofs.Common.{◌≡◌, true, take}
use Rattle.std.specs.List.{list_all}
use Rattle.kt_lone.specs.Update.{is_int}
use Rattle.kt_stage.proofs.stage.are_ints.Given as goal

abbrev pub invariant-loop-global : goal.invariant-loop-global
invariant-loop-global l = list_all is_int (take l.global-index l.globals) ≡ true
