use Rattle.std.proofs.Common.{sym, subst}
use Rattle.kt_names.specs.Placed.{AreStarred}
use Rattle.kt_names.proofs.PlacedTypes.{found-starred}
use Rattle.kt_names.proofs.placing.nearest.Goals as goal

pub nearest_among-requires-clause-placed : goal.nearest_among-requires-clause-placed
nearest_among-requires-clause-placed c =
    subst (AreStarred c.args.types.now.keys c.args.t.root) (sym c.as_slice.ensures.value)
    (found-starred c.args.starred.now.entries c.args.types.now.keys c.args.t.root c.in-Some.places.now c.requires.placed c.in-Some.ensures.value)
