use Rattle.std.proofs.Common.{rules, arith, ◌<◌}
use Rattle.kt_play.proofs.JournalLemmas.{stretches_of-replicate}
use Rattle.kt_play.proofs.journal.push_turns.Goals as goal

pub returns : goal.returns
returns c =
    let some : 0 < c.args.count = omega arith in
    rw (stretches_of-replicate c.args.count some) (search rules)
