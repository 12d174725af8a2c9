use Rattle.std.proofs.Common.{◌≡◌, map, drop}
use Rattle.std.specs.List.{list_all}
use Rattle.kt_syntax.specs.Tree.{external_of}
use Rattle.kt_check.specs.Named.{is_named}
use Rattle.kt_check.proofs.named.names.Given as goal

abbrev pub invariant-loop-one : goal.invariant-loop-one
invariant-loop-one l = list_all is_named (map external_of (drop l.one-index l.items)) ≡ list_all is_named (map external_of l.items)
