use Rattle.kt_check.specs.Stages.{right, outer_seen}
use Rattle.kt_names.proofs.Parts.{judges-pair}
use Rattle.kt_check.proofs.routine.function_parts.Goals as goal

pub returns : goal.returns
returns c = judges-pair right outer_seen c.result_fault.result c.outer_parts.result c.both.result _ _ c.both.ensures c.result_fault.ensures c.outer_parts.ensures
