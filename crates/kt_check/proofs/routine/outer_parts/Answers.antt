use Rattle.kt_check.specs.Stages.{right, new_seen}
use Rattle.kt_names.proofs.Parts.{judges-pair}
use Rattle.kt_check.proofs.routine.outer_parts.Goals as goal

pub returns : goal.returns
returns c = judges-pair right new_seen c.outer_name.result c.new_parts.result c.both.result _ _ c.both.ensures c.outer_name.ensures c.new_parts.ensures
