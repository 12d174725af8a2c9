use Rattle.std.proofs.Common.{◌≡◌, map, drop}
use Rattle.kt_names.specs.Types.{with_names}
use Rattle.kt_names.proofs.mentions.add_names.Given as goal

abbrev pub invariant-loop-name : goal.invariant-loop-name
invariant-loop-name l = with_names (map (λ n. n.items) l.names.keys) (map (λ n. n.now) (drop l.name-index l.more)) ≡ with_names (map (λ n. n.items) l.fn.names.keys) (map (λ n. n.now) l.more)
