use Rattle.kt_mem.proofs.HeldLaws.{held_is_decided}
use Rattle.kt_mem.proofs.laws.held_law.Goals as goal

pub returns : goal.returns
returns c = held_is_decided
