use Rattle.std.proofs.Common.{◌≡◌, ◌++◌, map, drop}
use Rattle.kt_names.specs.Gathered.{written_in}
use Rattle.kt_names.specs.Tables.{asks_in}
use Rattle.kt_names.proofs.points.asked.Given as goal

abbrev pub invariant-loop-written : goal.invariant-loop-written
invariant-loop-written l = map (λ n. n.now) l.names.items ++ asks_in (written_in (drop l.written-index l.strings)) ≡ asks_in (written_in l.strings)
