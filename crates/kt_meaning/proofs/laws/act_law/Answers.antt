use Rattle.kt_meaning.specs.Laws.{numbered}
use Rattle.kt_meaning.proofs.ThreadLaws.{reply-IsThread}
use Rattle.kt_meaning.specs.View.{thread_of}
use Rattle.kt_meaning.proofs.laws.act_law.Goals as goal

pub returns : goal.returns
returns c = λ n k. reply-IsThread (numbered c.args.version.now n) c.version_law.ensures.program (thread_of c.args.thread.now) c.args.reply.now c.requires.thread k
