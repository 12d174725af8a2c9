use Rattle.kt_statements.proofs.Meanings.{added-is}
use Rattle.kt_statements.proofs.names.add.Goals as goal

pub returns-clause-ok : goal.returns-clause-ok
returns-clause-ok c = added-is c.args.name.now c.in_ok-name.name c.args.meaning c.args.names.now.entries c.insert.new.self.entries c.in_ok-name.ensures.items c.in_ok-insert.ensures.entries
