use Rattle.std.proofs.Common.{◌*◌, length, sym, subst}
use Rattle.kt_types.specs.declared.kinds.Ty.{Ty}
use Rattle.kt_types.specs.declared.kinds.Ty.TheVariants.{Array}
use Rattle.kt_types.specs.Kept.{IsCounted}
use Rattle.kt_types.specs.Layout.{IsFitting, NamesPlaces}
use Rattle.kt_types.specs.Table.{with_type}
use Rattle.kt_types.proofs.Counts.{counted-array}
use Rattle.kt_types.proofs.table.TypeTable.count_of.Goals as goal

pub returns-in-Array : goal.returns-in-Array
returns-in-Array c =
    let its : NamesPlaces c.args.self.now (Array c.in-Array.element c.in-Array.count) = subst (NamesPlaces c.args.self.now) c.in-Array.is c.requires.places in
    let fits : IsFitting c.args.self.now (Array c.in-Array.element c.in-Array.count) = subst (IsFitting c.args.self.now) c.in-Array.is c.requires.fits in
    subst (λ (ty : Ty). IsCounted (with_type c.args.self.now ty) (length c.args.self.now.types) ty (c.in-Array.count * c.cells_of.result)) (sym c.in-Array.is)
    (counted-array c.args.self.now c.in-Array.element c.in-Array.count c.cells_of.result its fits c.cells_of.ensures.count c.cells_of.ensures.some_cells)
