use Rattle.std.proofs.Common.{◌≡◌, ◌==◌, ℕ, drop}
use Rattle.kt_names.specs.Gathered.{written_in}
use Rattle.std.specs.Option.{option_or}
use Rattle.std.specs.List.{position_from}
use Rattle.std.specs.Map.{lookup}
use Rattle.kt_names.specs.Tables.{literal_places}
use Rattle.kt_names.proofs.literals.literal_numbers.Given as goal

abbrev pub invariant-loop-written : goal.invariant-loop-written
invariant-loop-written l = (q : ℕ) → option_or (lookup (λ k. q == k) l.numbers.entries) (position_from (λ p. p == q) l.count (literal_places (written_in (drop l.written-index l.strings)))) ≡ position_from (λ p. p == q) 0 (literal_places (written_in l.strings))
