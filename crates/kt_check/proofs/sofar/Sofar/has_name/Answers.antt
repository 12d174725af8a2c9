use Rattle.std.proofs.Common.{◌||◌, sym, ◌∙◌, ap, is_some}
use Rattle.kt_check.proofs.sofar.Sofar.has_name.Goals as goal

pub returns : goal.returns
returns c names keeps = c.either.ensures ∙ (λ i. c.has_global.ensures names keeps i || (c.is_some.ensures ∙ ap is_some c.head.ensures ∙ sym (keeps.declared c.args.name.now)) i)
