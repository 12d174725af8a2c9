use Rattle.std.proofs.Common.{◌∙◌, subst}
use Rattle.kt_edge.specs.Writes.{TakesOrFails}
use Rattle.kt_play.proofs.refuse.tell_unread_file.Goals as goal

pub returns-clause-told : goal.returns-clause-told
returns-clause-told g c = subst (TakesOrFails _) (c.as_bytes.ensures.value ∙ c.in_ok-line.ensures.ok) c.write_line.ensures
