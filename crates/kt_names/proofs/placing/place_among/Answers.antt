use Rattle.kt_names.proofs.Lookups.{type-found, type-missing}
use Rattle.kt_names.proofs.placing.place_among.Goals as goal

pub returns-in-Some : goal.returns-in-Some
returns-in-Some c = type-found c.args.types.now.keys c.args.ty c.in-Some.place c.in-Some.ensures.index

pub returns-in-None : goal.returns-in-None
returns-in-None c = type-missing c.args.types.now.keys c.args.ty c.in-None.ensures.index
