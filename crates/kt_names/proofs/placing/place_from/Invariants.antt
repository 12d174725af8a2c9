use Rattle.std.proofs.Common.{◌≡◌}
use Rattle.kt_names.specs.Types.{starred_place}
use Rattle.kt_names.proofs.placing.place_from.Given as goal

abbrev pub invariant-loop : goal.invariant-loop
invariant-loop l = l.place ≡ starred_place l.types.keys l.fn.t.root l.counter
