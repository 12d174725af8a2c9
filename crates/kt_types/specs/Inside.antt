-- The table that the fields of a `TypeTable` stand for.
use Rattle.std.specs.Prelude.{map, reverse}
use Rattle.indexmap.specs.IndexMap.{keys, values}
use Rattle.kt_types.specs.Kept.{definition_of, IsKept}
use Rattle.kt_types.specs.Table.{Table}
use Rattle.kt_types.specs.declared.table.TypeTable.TheInside.{Inside}

-- the table of the fields
abbrev pub table_of : Inside → Table
table_of a = record {
  types = keys a.types;
  structs = map (λ name. name.items) (keys a.structs);
  defined = reverse (map definition_of a.defined.items);
}

-- the fields keep what belongs to their table
abbrev pub KeepsTable : Inside → Type 0
KeepsTable a = IsKept (table_of a) a.types.entries (values a.structs) a.defined.items
