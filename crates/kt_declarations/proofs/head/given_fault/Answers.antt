use Rattle.std.proofs.Common.{◌==◌, [], ◌∷◌}
use Rattle.kt_declarations.proofs.Behind.{or_false}
use Rattle.kt_declarations.proofs.head.given_fault.Goals as goal

pub returns : goal.returns
returns c = c.base_fault.ensures (c.args.stars ∷ []) (or_false (c.args.stars == 0))
