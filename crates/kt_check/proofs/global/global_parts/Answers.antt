use Rattle.std.proofs.Common.{subst}
use Rattle.kt_names.specs.Judges.{Judges}
use Rattle.kt_names.specs.Statements.{pointer_outside}
use Rattle.kt_check.specs.Stages.{right, named_seen}
use Rattle.kt_names.proofs.Parts.{judges-pair}
use Rattle.kt_check.proofs.global.global_parts.Goals as goal

pub returns : goal.returns
returns c =
    judges-pair right named_seen c.pointer_outside-outside.result c.named_parts.result c.both.result _ _ c.both.ensures
    (subst (λ e. Judges right c.pointer_outside-outside.result (pointer_outside e c.args.g.now.declarator.pointer)) c.outside-env.ensures c.pointer_outside-outside.ensures) c.named_parts.ensures
