use Rattle.kt_heap.proofs.GivenLaws.{loads_given, stores_given, releases_given, locks_given, unlocks_given, inits_given, allocs_given, grows_given}
use Rattle.kt_heap.proofs.laws.given_law.Goals as goal

pub returns : goal.returns
returns c = record { load = loads_given; store = stores_given; release = releases_given; lock = locks_given; unlock = unlocks_given; init = inits_given; alloc = allocs_given; grows = grows_given }
