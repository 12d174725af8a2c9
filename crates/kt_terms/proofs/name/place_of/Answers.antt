use Rattle.std.proofs.Common.{None, Some, ◌∙◌}
use Rattle.kt_names.proofs.Lookups.{name-place}
use Rattle.kt_terms.proofs.name.place_of.Goals as goal

pub returns-in-None-clause-ok : goal.returns-in-None-clause-ok
returns-in-None-clause-ok c = name-place c.args.name.now c.args.names.now.keys None c.in-None.ensures.index

pub returns-in-Ok-clause-ok : goal.returns-in-Ok-clause-ok
returns-in-Ok-clause-ok c = c.in-Ok.ensures.1 ∙ name-place c.args.name.now c.args.names.now.keys (Some c.in-Some.place) c.in-Some.ensures.index
