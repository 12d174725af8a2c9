use Rattle.std.proofs.Common.{◌<◌, arith}
use Rattle.kt_journal.proofs.Writing.{one_stretch}
use Rattle.kt_journal.proofs.writer.push_stretch.Goals as goal

pub returns : goal.returns
returns c =
    let some : 0 < c.args.count = omega arith in
    rw (one_stretch c.args.count c.args.thread some) c.push_row.ensures
