use Rattle.kt_heap.proofs.NumberLaws.{starts_by_number, loads_by_number, stores_by_number, releases_by_number, locks_by_number, unlocks_by_number, inits_by_number, waits_by_number, allocs_by_number, grows_by_number, looks_by_number, carries_number}
use Rattle.kt_heap.proofs.laws.by_number_law.Goals as goal

pub returns : goal.returns
returns c = record { starts = starts_by_number; load = loads_by_number; store = stores_by_number; release = releases_by_number; lock = locks_by_number; unlock = unlocks_by_number; init = inits_by_number; waits = waits_by_number; alloc = allocs_by_number; grows = grows_by_number; looks = looks_by_number; own = carries_number }
