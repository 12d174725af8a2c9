use Rattle.std.proofs.Common.{is_some, ap, ◌∙◌}
use Rattle.kt_check.proofs.FieldLists.{has-key}
use Rattle.kt_check.proofs.shape.Within.has_field.Goals as goal

pub returns : goal.returns
returns c = c.is_some.ensures ∙ ap is_some c.field_named.ensures ∙ has-key c.args.name.now c.args.self.now.infos.entries
