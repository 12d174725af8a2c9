use Rattle.std.proofs.Common.{◌≡◌, ◌++◌, flat_map, drop}
use Rattle.kt_names.specs.Uses.{where_there}
use Rattle.kt_names.specs.Tables.{constant_written}
use Rattle.kt_names.proofs.written.Strings.push_globals.Given as goal

abbrev pub invariant-loop-global : goal.invariant-loop-global
invariant-loop-global l = l.self ++ flat_map (λ g. where_there constant_written g.initial) (drop l.global-index l.globals) ≡ l.fn.self ++ flat_map (λ g. where_there constant_written g.initial) l.globals
