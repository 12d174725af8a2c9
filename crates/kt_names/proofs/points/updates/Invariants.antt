use Rattle.std.proofs.Common.{◌≡◌, ◌++◌, map, drop}
use Rattle.kt_names.specs.Gathered.{written_in}
use Rattle.kt_names.specs.Tables.{updates_in}
use Rattle.kt_names.proofs.points.updates.Given as goal

abbrev pub invariant-loop-written : goal.invariant-loop-written
invariant-loop-written l = map (λ n. n.now) l.names.items ++ updates_in (written_in (drop l.written-index l.strings)) ≡ updates_in (written_in l.strings)
