use Rattle.std.proofs.Common.{◌≡◌, map, take}
use Rattle.kt_tree.proofs.names.names_of_globals.Given as goal

abbrev pub invariant-loop-global : goal.invariant-loop-global
invariant-loop-global l = l.names ≡ map (λ g. g.name) (take l.global-index l.globals)
