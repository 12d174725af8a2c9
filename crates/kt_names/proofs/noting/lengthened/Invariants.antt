use Rattle.kt_names.specs.Placed.{AreStarred}
use Rattle.kt_names.proofs.noting.lengthened.Given as goal

abbrev pub invariant-loop : goal.invariant-loop
invariant-loop l = AreStarred l.types.keys l.root l.longer.items
