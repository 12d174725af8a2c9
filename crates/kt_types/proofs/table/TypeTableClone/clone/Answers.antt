use Rattle.kt_types.proofs.table.TypeTableClone.clone.Goals as goal
use Rattle.std.proofs.lemmas.Map.Entries.{entries_from_clone}
use Rattle.std.proofs.lemmas.List.Elements.{same_from_all_zip}
use Rattle.kt_types.proofs.Copies.{same_map, same_maps, copy-keeps, table-copied}
use Rattle.kt_types.specs.declared.table.TypeTable.TheInside.{Inside}
use Rattle.std.proofs.Common.{◌≡◌, map, ◌∙◌, rules}
use Rattle.indexmap.specs.IndexMap.{keys, values}

types : (c : goal.In_ok-clone-3) → c.in_ok-clone.field-0.entries ≡ c.self.inside.types.entries
types c = entries_from_clone _ _ (λ x y h. h) (λ x y h. h) _ _ c.in_ok-clone.ensures.cases

structs : (c : goal.In_ok-clone-3) → map (λ name. name.items) (keys c.in_ok-clone-2.field-0) ≡ map (λ name. name.items) (keys c.self.inside.structs)
structs c = same_maps (λ e. e.0) (λ name. name.items) _ (λ x y h. same_from_all_zip _ _ _ h.0.0 (λ a b is. is)) _ _ c.in_ok-clone-2.ensures.cases

places : (c : goal.In_ok-clone-3) → values c.in_ok-clone-2.field-0 ≡ values c.self.inside.structs
places c = same_map (λ e. e.1) _ (λ x y h. let k = h.1 in search rules) _ _ c.in_ok-clone-2.ensures.cases

abbrev inside : goal.In_ok-clone-3 → Inside
inside c = record { types = c.in_ok-clone.field-0; structs = c.in_ok-clone-2.field-0; defined = c.in_ok-clone-3.field-0 }

pub invariant_of-result : goal.invariant_of-result
invariant_of-result c = copy-keeps c.self.inside (inside c) (types c) (structs c) (places c) c.in_ok-clone-3.ensures.cases.0 c.self.invariant

pub returns : goal.returns
returns c = record { cases = table-copied c.self.inside (inside c) (types c) (structs c) c.in_ok-clone-3.ensures.cases.0 ∙ c.self.view_is }
