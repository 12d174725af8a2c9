use Rattle.kt_mem.proofs.MemoryLaws.{starts_counted, stays_counted, stays_small}
use Rattle.kt_mem.proofs.laws.live_cells_law.Goals as goal

pub returns : goal.returns
returns c = record { start = starts_counted; sum = stays_counted; limit = stays_small }
