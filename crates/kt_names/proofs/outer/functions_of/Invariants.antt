use Rattle.std.proofs.Common.{◌≡◌, ◌++◌, map, flat_map, drop}
use Rattle.kt_syntax.specs.Tree.{external_of, routine_of}
use Rattle.kt_names.specs.Tables.{functions_in}
use Rattle.kt_names.proofs.outer.functions_of.Given as goal

abbrev pub invariant-loop-item : goal.invariant-loop-item
invariant-loop-item l = map (λ f. routine_of f.now) l.functions.items ++ flat_map functions_in (map external_of (drop l.item-index l.items)) ≡ flat_map functions_in (map external_of l.items)
