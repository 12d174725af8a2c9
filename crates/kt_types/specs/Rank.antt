-- How many definitions a complete type stands on at most, by which a walk into a type ends.
use Rattle.std.specs.Prelude.{ℕ, suc, List, [], ◌∷◌, length, Option, is_some, if◌then◌else◌}
use Rattle.kt_types.specs.Layout.{place_cells, struct_cells}
use Rattle.kt_types.specs.Table.{Definition}
use Rattle.kt_types.specs.declared.kinds.Ty.{Ty}

-- the layouts by these definitions
abbrev pub layout_by : List Ty → List Definition → ℕ → Option (List Ty)
layout_by types defs = place_cells (struct_cells types defs) types (length types)

-- how many definitions, from the first on, make the type at a place complete
abbrev pub rank : List Ty → List Definition → ℕ → ℕ
rank types [] p = 0
rank types (d ∷ earlier) p = if is_some (layout_by types earlier p) then rank types earlier p else suc (length earlier)
