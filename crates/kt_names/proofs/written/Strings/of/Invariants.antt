use Rattle.std.proofs.Common.{◌≡◌, ◌++◌, map, flat_map, drop}
use Rattle.kt_syntax.specs.Tree.{external_of}
use Rattle.kt_names.specs.Tables.{external_written}
use Rattle.kt_names.proofs.written.Strings.of.Given as goal

abbrev pub invariant-loop-item : goal.invariant-loop-item
invariant-loop-item l = l.strings ++ flat_map external_written (map external_of (drop l.item-index l.items)) ≡ flat_map external_written (map external_of l.items)
