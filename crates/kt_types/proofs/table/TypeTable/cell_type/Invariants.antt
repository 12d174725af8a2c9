-- Each part has the cell, and its type stands on fewer definitions, or on no more and at an earlier place.
use Rattle.std.proofs.Common.{◌≡◌, ◌<◌, ◌+◌, ◌*◌, ◌^◌, length, slice_get}
use Rattle.kt_types.specs.Layout.{IsComplete, cells}
use Rattle.kt_types.specs.Rank.{rank}
use Rattle.kt_types.proofs.table.TypeTable.cell_type.Given as goal

abbrev pub invariant-parts : goal.invariant-parts
invariant-parts l = record {
  complete : IsComplete l.self l.place;
  within : l.cell < length (cells l.self l.place);
  same : slice_get (cells l.self l.place) l.cell ≡ slice_get (cells l.self l.fn.ty) l.fn.i;
}

abbrev pub decreases-parts : goal.decreases-parts
decreases-parts l = rank l.self.types l.self.defined l.place * 2 ^ 32 + l.place
