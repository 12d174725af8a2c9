use Rattle.std.proofs.Common.{◌≡◌, ℕ, List, map, drop}
use Rattle.kt_syntax.specs.Tree.{routine_of}
use Rattle.std.specs.Option.{option_or}
use Rattle.std.specs.List.{position_from}
use Rattle.std.specs.Map.{lookup}
use Rattle.std.specs.Str.{bytes_eq}
use Rattle.kt_names.specs.Tables.{defined_in}
use Rattle.kt_names.proofs.outer.defined_numbers.Given as goal

abbrev pub invariant-loop-function : goal.invariant-loop-function
invariant-loop-function l = (q : List ℕ) → option_or (lookup (λ k. bytes_eq q k.items) l.numbers.entries) (position_from (λ f. bytes_eq f.name.word q) l.count (defined_in (map (λ f. routine_of f.now) (drop l.function-index l.functions)))) ≡ position_from (λ f. bytes_eq f.name.word q) 0 (defined_in (map (λ f. routine_of f.now) l.functions))
