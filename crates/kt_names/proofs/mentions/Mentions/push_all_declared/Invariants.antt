use Rattle.std.proofs.Common.{◌≡◌, ◌++◌, map, flat_map, drop}
use Rattle.kt_syntax.specs.Tree.{external_of}
use Rattle.kt_names.specs.Uses.{declared_structs}
use Rattle.kt_names.proofs.mentions.Mentions.push_all_declared.Given as goal

abbrev pub invariant-loop-item : goal.invariant-loop-item
invariant-loop-item l = l.self ++ flat_map declared_structs (map external_of (drop l.item-index l.items)) ≡ l.fn.self ++ flat_map declared_structs (map external_of l.items)
