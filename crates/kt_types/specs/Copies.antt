-- Copies of layouts.
use Rattle.std.specs.Prelude.{◌≡◌, map}
use Rattle.kt_types.specs.declared.table.StructLayout.{StructLayout}

-- the second layout has what the first has
pub record IsCopy (a b : StructLayout) : Type 0 where
  pub number : b.number ≡ a.number
  pub fields : b.fields.items ≡ a.fields.items
  pub names : map (λ name. name.items) b.names.keys ≡ map (λ name. name.items) a.names.keys
  pub starts : b.starts.items ≡ a.starts.items
  pub cells : b.cells ≡ a.cells
