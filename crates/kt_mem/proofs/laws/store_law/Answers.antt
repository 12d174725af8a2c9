use Rattle.kt_mem.proofs.MemoryLaws.{loads_what_was_stored, store_keeps_others}
use Rattle.kt_mem.proofs.laws.store_law.Goals as goal

pub returns : goal.returns
returns c = record { same = loads_what_was_stored; elsewhere = store_keeps_others }
