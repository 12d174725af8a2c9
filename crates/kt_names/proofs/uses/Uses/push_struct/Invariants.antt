use Rattle.std.proofs.Common.{◌≡◌, ◌++◌, flat_map, drop}
use Rattle.kt_names.specs.Uses.{fields_uses}
use Rattle.kt_names.proofs.uses.Uses.push_struct.Given as goal

abbrev pub invariant-loop-fields : goal.invariant-loop-fields
invariant-loop-fields l = l.self ++ flat_map fields_uses (drop l.fields-index l.fn.fields) ≡ l.fn.self ++ flat_map fields_uses l.fn.fields
