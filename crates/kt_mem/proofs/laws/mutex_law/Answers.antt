use Rattle.kt_mem.proofs.CauseLaws.{lock_holds, unlock_frees, init_frees}
use Rattle.kt_mem.proofs.laws.mutex_law.Goals as goal

pub returns : goal.returns
returns c = record { lock = lock_holds; unlock = unlock_frees; init = init_frees }
