use Rattle.std.proofs.Common.{◌≡◌, drop}
use Rattle.std.specs.List.{list_all}
use Rattle.kt_check.specs.Named.{is_named_global}
use Rattle.kt_check.proofs.named.globals.Given as goal

abbrev pub invariant-loop-global : goal.invariant-loop-global
invariant-loop-global l = list_all is_named_global (drop l.global-index l.globals) ≡ list_all is_named_global l.globals
