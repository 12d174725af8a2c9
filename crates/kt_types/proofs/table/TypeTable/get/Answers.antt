use Rattle.std.proofs.lemmas.Option.{slice_get_within}
use Rattle.kt_types.proofs.Counts.{counted-places, counted-fits}
use Rattle.kt_types.proofs.Views.{type-at}
use Rattle.kt_types.proofs.table.TypeTable.get.Goals as goal

pub returns-in-Some-clause-places : goal.returns-in-Some-clause-places
returns-in-Some-clause-places c =
    let found = type-at c.self.inside c.args.self.now c.self.view_is c.self.invariant c.args.ty c.in-Some.kind.now c.in-Some.field-0-1.now c.in-Some.ensures.entry in
    counted-places c.args.self.now c.args.ty c.in-Some.kind.now c.in-Some.field-0-1.now (slice_get_within c.args.self.now.types c.args.ty c.in-Some.kind.now found.0) found.1

pub returns-in-Some-clause-fits : goal.returns-in-Some-clause-fits
returns-in-Some-clause-fits c =
    let found = type-at c.self.inside c.args.self.now c.self.view_is c.self.invariant c.args.ty c.in-Some.kind.now c.in-Some.field-0-1.now c.in-Some.ensures.entry in
    counted-fits c.args.self.now c.args.ty c.in-Some.kind.now c.in-Some.field-0-1.now found.1
