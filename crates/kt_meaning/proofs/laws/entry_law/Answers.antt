use Rattle.kt_meaning.proofs.WorkTypes.{entry-IsThread}
use Rattle.kt_meaning.proofs.laws.entry_law.Goals as goal

pub returns : goal.returns
returns c = entry-IsThread c.args.version.now c.version_law.ensures.program
