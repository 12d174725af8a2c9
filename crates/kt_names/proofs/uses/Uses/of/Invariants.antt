use Rattle.std.proofs.Common.{◌≡◌, ◌++◌, map, flat_map, drop}
use Rattle.kt_syntax.specs.Tree.{external_of}
use Rattle.kt_names.specs.Uses.{external_uses}
use Rattle.kt_names.proofs.uses.Uses.of.Given as goal

abbrev pub invariant-loop-item : goal.invariant-loop-item
invariant-loop-item l = l.uses ++ flat_map external_uses (map external_of (drop l.item-index l.items)) ≡ flat_map external_uses (map external_of l.items)
