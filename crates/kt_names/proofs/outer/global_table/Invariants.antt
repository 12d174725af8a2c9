use Rattle.std.proofs.Common.{◌≡◌, ℕ, List, map, drop}
use Rattle.std.specs.Option.{option_or}
use Rattle.kt_names.specs.Outers.{global_of, outer_in}
use Rattle.kt_names.specs.Tables.{global_from}
use Rattle.kt_names.proofs.outer.global_table.Given as goal

abbrev pub invariant-loop-global : goal.invariant-loop-global
invariant-loop-global l = (q : List ℕ) → option_or (outer_in l.outer.entries q) (global_from (map (λ n. n.items) l.structs.keys) l.count (map global_of (drop l.global-index l.globals)) q) ≡ global_from (map (λ n. n.items) l.structs.keys) 0 (map global_of l.globals) q
