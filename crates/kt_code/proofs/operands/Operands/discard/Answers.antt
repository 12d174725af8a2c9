use Rattle.std.proofs.Common.{sym, ◌∙◌}
use Rattle.kt_code.proofs.Turned.{drop-reverse}
use Rattle.kt_code.proofs.operands.Operands.discard.Goals as goal

pub returns : goal.returns
returns c = rw (c.truncate.ensures.items, c.saturating_sub.ensures, c.len.ensures ∙ c.self.inside.items.ok.0, ← c.self.view_is) (sym (drop-reverse c.args.count c.self.inside.items.items))
