use Rattle.std.proofs.Common.{◌≡◌, ◌++◌, flat_map, drop}
use Rattle.kt_names.specs.Uses.{global_uses}
use Rattle.kt_names.proofs.uses.Uses.push_globals.Given as goal

abbrev pub invariant-loop-global : goal.invariant-loop-global
invariant-loop-global l = l.self ++ flat_map (global_uses l.base) (drop l.global-index l.globals) ≡ l.fn.self ++ flat_map (global_uses l.base) l.globals
