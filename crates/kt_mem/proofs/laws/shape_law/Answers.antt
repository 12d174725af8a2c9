use Rattle.kt_mem.proofs.MemoryLaws.{shapes_stay}
use Rattle.kt_mem.proofs.ShapeLaws.{stays_shaped}
use Rattle.kt_mem.proofs.laws.shape_law.Goals as goal

pub returns : goal.returns
returns c = record { stays = shapes_stay; shaped = stays_shaped }
