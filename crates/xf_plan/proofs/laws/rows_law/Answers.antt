use Rattle.xf_plan.specs.Rows.{conversion_row, ring_row, interior_row, extent_row, field_extent_row, rule_row, global_row, dead_row, fresh_row}
use Rattle.xf_plan.proofs.laws.rows_law.Goals as goal

pub returns : goal.returns
returns c =
    record { conversion = conversion_row; ring = ring_row; interior = interior_row; extent = extent_row; field_extent = field_extent_row; rule = rule_row; global = global_row; dead = dead_row; fresh = fresh_row }
