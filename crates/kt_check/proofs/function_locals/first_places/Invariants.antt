use Rattle.std.proofs.Common.{◌≡◌, ℕ, List, drop}
use Rattle.std.specs.Map.{lookup}
use Rattle.std.specs.Option.{option_or}
use Rattle.std.specs.Str.{bytes_eq}
use Rattle.kt_names.specs.Firsts.{first_place}
use Rattle.kt_names.proofs.Firsts.{place_from}
use Rattle.kt_check.proofs.function_locals.first_places.Given as goal

abbrev pub invariant-loop-place : goal.invariant-loop-place
invariant-loop-place l = (q : List ℕ) → option_or (lookup (λ k. bytes_eq q k.items) l.first.entries) (place_from q l.place (drop l.place l.locals)) ≡ first_place l.locals q
