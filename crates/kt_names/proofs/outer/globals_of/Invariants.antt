use Rattle.std.proofs.Common.{◌≡◌, ◌++◌, map, flat_map, drop}
use Rattle.kt_names.specs.Outers.{global_of}
use Rattle.kt_syntax.specs.Tree.{external_of}
use Rattle.kt_names.specs.Tables.{globals_in}
use Rattle.kt_names.proofs.outer.globals_of.Given as goal

abbrev pub invariant-loop-item : goal.invariant-loop-item
invariant-loop-item l = map global_of l.globals.items ++ flat_map globals_in (map external_of (drop l.item-index l.items)) ≡ flat_map globals_in (map external_of l.items)
