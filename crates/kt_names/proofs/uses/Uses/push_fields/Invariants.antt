use Rattle.std.proofs.Common.{◌≡◌, ◌++◌, flat_map, drop}
use Rattle.kt_names.specs.Uses.{field_uses}
use Rattle.kt_names.proofs.uses.Uses.push_fields.Given as goal

abbrev pub invariant-loop-field : goal.invariant-loop-field
invariant-loop-field l = l.self ++ flat_map (field_uses l.fields.base) (drop l.field-index l.fields.declarators) ≡ l.fn.self ++ flat_map (field_uses l.fields.base) l.fields.declarators
