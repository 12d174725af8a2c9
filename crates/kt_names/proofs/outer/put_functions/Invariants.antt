use Rattle.std.proofs.Common.{◌≡◌, ℕ, List, map, drop}
use Rattle.std.specs.Option.{option_or}
use Rattle.std.specs.Map.{lookup}
use Rattle.std.specs.Str.{bytes_eq}
use Rattle.kt_syntax.specs.Tree.{routine_of}
use Rattle.kt_names.specs.Outers.{outer_in, first_function}
use Rattle.kt_names.proofs.outer.put_functions.Given as goal

abbrev pub invariant-loop-function : goal.invariant-loop-function
invariant-loop-function l =
    (q : List ℕ)
    → option_or (outer_in l.outer.entries q) (first_function (map (λ n. n.items) l.structs.keys) (lookup (λ k. bytes_eq q k.items) l.numbers.entries) (map (λ f. routine_of f.now) (drop l.function-index l.functions)) q)
    ≡ option_or (outer_in l.fn.outer.entries q) (first_function (map (λ n. n.items) l.structs.keys) (lookup (λ k. bytes_eq q k.items) l.numbers.entries) (map (λ f. routine_of f.now) l.functions) q)
