use Rattle.kt_statements.proofs.Meanings.{written-is}
use Rattle.kt_statements.proofs.names.put.Goals as goal

pub returns : goal.returns
returns c = written-is c.args.names.now.entries c.write-before.new.names.entries c.args.name.now c.in-Some.index c.args.meaning c.in-Some.ensures.index c.write-before.ensures.entries
