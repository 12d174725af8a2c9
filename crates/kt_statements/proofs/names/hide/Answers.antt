use Rattle.kt_statements.proofs.Meanings.{written-is}
use Rattle.kt_statements.proofs.names.hide.Goals as goal

pub returns-in-Some-clause-ok : goal.returns-in-Some-clause-ok
returns-in-Some-clause-ok c = written-is c.args.names.now.entries c.write.new.names.entries c.args.name.now c.in-Some.index c.args.meaning c.in-Some.ensures.index c.write.ensures.entries
