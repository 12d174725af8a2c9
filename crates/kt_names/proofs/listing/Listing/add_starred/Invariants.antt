use Rattle.std.proofs.Common.{◌≡◌}
use Rattle.kt_names.specs.Types.{starred_place, with_starred}
use Rattle.kt_names.proofs.listing.Listing.add_starred.Given as goal

abbrev pub invariant-loop : goal.invariant-loop
invariant-loop l = (l.place ≡ starred_place l.self.types.keys l.fn.root l.counter) × (l.self.types.keys ≡ with_starred l.fn.self.types.keys l.fn.root l.counter)
