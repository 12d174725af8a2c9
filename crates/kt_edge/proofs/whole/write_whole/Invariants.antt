use Rattle.std.proofs.Common.{◌≡◌, ◌++◌, List, ℕ, Result, length}
use Rattle.std.specs.Io.KnownBytes.{Appends}
use Rattle.kt_edge.specs.Calls.{WritesByCalls}
use Rattle.kt_edge.specs.declared.ends.Failed.{Failed}
use Rattle.kt_edge.proofs.whole.write_whole.Given as goal

-- what was taken is a front of the bytes, what is left follows it, and no write failed
abbrev pub invariant-loop-rest : goal.invariant-loop-rest
invariant-loop-rest g l =
    ((front : List ℕ) × (front ++ l.rest ≡ l.bytes) × Appends (g.K.Sink.taken l.initial.sink) (g.K.Sink.taken l.sink) front)
    × (g.K.Sink.faults l.sink ≡ g.K.Sink.faults l.initial.sink)
    × ((result : Result (Unit {0}) Failed) (last : _) → WritesByCalls g.K.Sink.write_gives l.sink l.rest result last → WritesByCalls g.K.Sink.write_gives l.initial.sink l.bytes result last)

abbrev pub decreases-loop-rest : goal.decreases-loop-rest
decreases-loop-rest g l = length l.rest
