use Rattle.kt_mem.proofs.Division.{divides_exactly}
use Rattle.kt_mem.proofs.laws.division_law.Goals as goal

pub returns : goal.returns
returns c = divides_exactly
