use Rattle.std.proofs.Common.{◌≡◌, ◌&&◌, ℕ, List, map, drop}
use Rattle.std.specs.Option.{option_or}
use Rattle.std.specs.List.{position_from}
use Rattle.std.specs.Map.{lookup}
use Rattle.std.specs.Str.{bytes_eq}
use Rattle.kt_check.specs.Files.{is_count_field}
use Rattle.kt_check.specs.Shapes.{one_field}
use Rattle.kt_check.proofs.fields.counts_of.Given as goal

abbrev pub invariant-loop-field : goal.invariant-loop-field
invariant-loop-field l =
    (q : List ℕ)
    → option_or (lookup (λ k. bytes_eq q k.items) l.counts.entries) (position_from (λ x. is_count_field x && bytes_eq x.declarator.name.word q) l.number (map one_field (drop l.field-index l.fields)))
    ≡ position_from (λ x. is_count_field x && bytes_eq x.declarator.name.word q) 0 (map one_field l.fields)
