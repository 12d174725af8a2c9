use Rattle.std.proofs.Common.{subst}
use Rattle.kt_names.specs.Judges.{Judges}
use Rattle.kt_check.specs.Files.{pointer_inside}
use Rattle.kt_check.specs.Shapes.{one_field, shape_fields}
use Rattle.kt_check.specs.Stages.{right, behind_right}
use Rattle.kt_names.proofs.Parts.{judges-pair}
use Rattle.kt_check.proofs.within.field_parts.Goals as goal

pub returns : goal.returns
returns c =
    judges-pair right (behind_right right) c.pointer_inside-inside.result c.size_parts.result c.both.result _ _ c.both.ensures
    (subst (λ e. Judges right c.pointer_inside-inside.result (pointer_inside e (shape_fields c.args.shape) (one_field c.args.x).declarator.pointer)) c.outside-env.ensures c.pointer_inside-inside.ensures)
    c.size_parts.ensures
