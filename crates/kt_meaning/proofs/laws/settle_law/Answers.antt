use Rattle.kt_meaning.specs.Laws.{numbered}
use Rattle.kt_meaning.proofs.ThreadLaws.{settled-IsTyped}
use Rattle.kt_meaning.proofs.TreeSettling.{settle-settles}
use Rattle.kt_meaning.specs.View.{thread_of}
use Rattle.kt_meaning.proofs.laws.settle_law.Goals as goal

pub returns-clause-settles : goal.returns-clause-settles
returns-clause-settles c = λ n. settle-settles (numbered c.args.version.now n) (thread_of c.args.thread.now)

pub returns-clause-typed : goal.returns-clause-typed
returns-clause-typed c = λ n. settled-IsTyped (numbered c.args.version.now n) c.version_law.ensures.program (thread_of c.args.thread.now) c.requires.thread
