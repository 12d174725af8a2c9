use Rattle.kt_names.proofs.Latest.{kept-added, added-there}
use Rattle.kt_names.proofs.in_scope.add.Goals as goal

pub returns-clause-same : goal.returns-clause-same
returns-clause-same c = kept-added c.args.places.now.entries c.insert.new.self.entries c.in_ok-name.name c.args.name.now c.in_ok-name.ensures.items c.in_ok-insert.ensures.entries c.requires

pub returns-clause-there : goal.returns-clause-there
returns-clause-there c = added-there c.args.places.now.entries c.insert.new.self.entries c.in_ok-name.name c.args.name.now c.in_ok-name.ensures.items c.in_ok-insert.ensures.entries
