use Rattle.kt_mem.proofs.MemoryLaws.{release_ends, release_keeps_others}
use Rattle.kt_mem.proofs.laws.release_law.Goals as goal

pub returns : goal.returns
returns c = record { ends = release_ends; others = release_keeps_others }
