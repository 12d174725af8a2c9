use Rattle.kt_names.specs.Gathered.{written_in}
use Rattle.kt_names.specs.Tables.{updates_in, asks_in}
use Rattle.kt_names.proofs.Outers.{points-within}
use Rattle.kt_names.proofs.tables.Texts.of.Goals as goal

pub returns-clause-within : goal.returns-clause-within
returns-clause-within c =
    let strings = written_in c.as_slice-3.result.now in
    points-within c.in_ok-points.points.keys (updates_in strings) (asks_in strings) c.in_ok-points.updates c.in_ok-points.ensures.updates c.in_ok-points.ensures.names
