use Rattle.std.proofs.Common.{◌≡◌, ◌++◌, map, drop}
use Rattle.kt_names.proofs.points.points.Given as goal

abbrev pub invariant-loop-name : goal.invariant-loop-name
invariant-loop-name l = l.texts.items ++ map (λ n. n.items) (drop l.name-index l.names.keys) ≡ map (λ n. n.items) l.names.keys
