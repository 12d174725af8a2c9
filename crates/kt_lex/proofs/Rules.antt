-- Sets of lemmas that attributes name.
use Rattle.std.proofs.lemmas.List.Folds.{length-prefix_len}
use Rattle.std.proofs.lemmas.List.Sums.{prefix_len-le-length}

pub ruleset prefixes = (length-prefix_len, prefix_len-le-length)
