use Rattle.std.proofs.Common.{◌≡◌, ◌++◌, map, drop}
use Rattle.kt_names.specs.Outers.{global_of}
use Rattle.kt_names.proofs.outer.push_globals.Given as goal

abbrev pub invariant-loop-declarator : goal.invariant-loop-declarator
invariant-loop-declarator l = map global_of l.globals.items ++ map (λ g. record { base = l.base; declarator = g }) (drop l.declarator-index l.more) ≡ map global_of l.fn.globals.items ++ map (λ g. record { base = l.base; declarator = g }) l.more
