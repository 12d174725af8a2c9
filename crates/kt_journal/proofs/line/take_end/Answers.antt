use Rattle.std.proofs.Common.{sym, ◌∙◌}
use Rattle.kt_journal.proofs.Entries.{takes-end, no-end, no-end-cut}
use Rattle.kt_journal.proofs.line.take_end.Goals as goal

pub returns-in-None : goal.returns-in-None
returns-in-None c = no-end-cut c.args.text.now c.in-None.ensures

pub returns-then-is_end : goal.returns-then-is_end
returns-then-is_end c = takes-end c.args.text.now c.in-Some.line.now c.in-Some.behind.now c.in-Some.ensures.0 (sym c.is_end.ensures ∙ c.if-is_end.true)

pub returns-else-is_end : goal.returns-else-is_end
returns-else-is_end c =
    no-end c.args.text.now c.in-Some.line.now c.in-Some.behind.now c.in-Some.ensures.1 c.in-Some.ensures.0 (sym c.is_end.ensures ∙ c.if-is_end.false)
