use Rattle.kt_check.specs.Stages.{right, once_seen}
use Rattle.kt_names.proofs.Parts.{judges-pair}
use Rattle.kt_check.proofs.global.named_parts.Goals as goal

pub returns : goal.returns
returns c = judges-pair right once_seen c.outer_name.result c.once_parts.result c.both.result _ _ c.both.ensures c.outer_name.ensures c.once_parts.ensures
