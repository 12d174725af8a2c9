use Rattle.std.proofs.Common.{◌++◌}
use Rattle.std.proofs.KnownBytes.{Consumes-trans}
use Rattle.kt_edge.proofs.Fronts.{front_of_read}
use Rattle.kt_edge.proofs.whole.read_start.Goals as goal

pub returns-in_err-map_err-clause-front : goal.returns-in_err-map_err-clause-front
returns-in_err-map_err-clause-front g c =
    let last = front_of_read _ _ _ _ c.read.ensures.bytes in
    (c.loop-buffer.bytes.items ++ last.0, Consumes-trans _ _ _ _ _ c.loop-buffer.invariant.0 last.1)
