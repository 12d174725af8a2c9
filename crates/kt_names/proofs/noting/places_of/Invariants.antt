use Rattle.kt_names.specs.Placed.{AreAllStarred}
use Rattle.kt_names.proofs.noting.places_of.Given as goal

abbrev pub invariant-loop-named : goal.invariant-loop-named
invariant-loop-named l = AreAllStarred l.types.keys l.starred.entries
