use Rattle.std.proofs.Common.{◌≡◌, map, take}
use Rattle.kt_check.specs.Built.{with_structs}
use Rattle.kt_check.proofs.table.declare.Given as goal

abbrev pub invariant-loop-name : goal.invariant-loop-name
invariant-loop-name l = l.table ≡ with_structs (take l.name-index (map (λ n. n.items) l.names))
