use Rattle.std.proofs.Common.{◌≡◌, ◌++◌, flat_map, drop}
use Rattle.kt_names.specs.Uses.{base_structs}
use Rattle.kt_names.proofs.mentions.Mentions.push_fields.Given as goal

abbrev pub invariant-loop-fields : goal.invariant-loop-fields
invariant-loop-fields l = l.self ++ flat_map (λ f. base_structs f.base) (drop l.fields-index l.fn.fields) ≡ l.fn.self ++ flat_map (λ f. base_structs f.base) l.fn.fields
