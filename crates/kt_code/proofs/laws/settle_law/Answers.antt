use Rattle.kt_code.proofs.CodeSettling.{settle-settles}
use Rattle.kt_code.proofs.laws.settle_law.Goals as goal

pub returns : goal.returns
returns c = settle-settles c.args.code.now c.instrs.ensures.jumps c.args.private.now
