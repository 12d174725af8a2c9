use Rattle.std.proofs.Common.{◌≡◌, ◌++◌, flat_map, drop}
use Rattle.kt_names.specs.Gathered.{uses_in}
use Rattle.kt_names.specs.Uses.{use_structs}
use Rattle.kt_names.proofs.mentions.Mentions.push_uses.Given as goal

abbrev pub invariant-loop-named : goal.invariant-loop-named
invariant-loop-named l = l.self ++ flat_map use_structs (uses_in (drop l.named-index l.uses)) ≡ l.fn.self ++ flat_map use_structs (uses_in l.uses)
