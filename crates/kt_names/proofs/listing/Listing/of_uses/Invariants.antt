use Rattle.std.proofs.Common.{◌≡◌, map, drop}
use Rattle.kt_names.specs.Gathered.{uses_in}
use Rattle.kt_names.specs.Types.{scalars, with_uses}
use Rattle.kt_names.proofs.listing.Listing.of_uses.Given as goal

abbrev pub invariant-loop-named : goal.invariant-loop-named
invariant-loop-named l =
    with_uses (map (λ n. n.items) l.structs.keys) l.listing.types.keys (uses_in (drop l.named-index l.uses)) ≡ with_uses (map (λ n. n.items) l.structs.keys) scalars (uses_in l.uses)
