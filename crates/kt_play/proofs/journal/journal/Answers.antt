use Rattle.std.proofs.Common.{◌++◌, ◌+◌, ◌-◌, replicate, drop, get_or, min, ap, ◌∙◌}
use Rattle.kt_lone.specs.declared.mark.Mark.TheVariants.{Ask}
use Rattle.kt_play.specs.Journal.{turn_lines, mark_line, lines_from}
use Rattle.kt_play.proofs.JournalLemmas.{next_mark}
use Rattle.kt_play.proofs.journal.journal.Goals as goal

pub loop-mark-preserved : goal.loop-mark-preserved
loop-mark-preserved c =
    let turn = c.turn_of-turn.ensures in
    let count = c.min-count.ensures ∙ ap (λ n. min n c.loop-mark.left) (c.saturating_sub.ensures ∙ ap (λ n. n - c.loop-mark.made) turn) in
    let text = c.in_ok-push_mark.ensures ∙ ap (λ l. l ++ mark_line (get_or c.args.marks.now c.loop-mark.mark-index (Ask 0 0)))
    (c.in_ok-push_turns.ensures ∙ ap (λ n. c.loop-mark.text.items ++ turn_lines (replicate n 0)) count) in
    let rest = drop (c.loop-mark.mark-index + 1) c.args.marks.now in
    ap (λ l. l ++ lines_from c.turn_of-turn.result (replicate (c.loop-mark.left - c.min-count.result) 0) rest) text
    ∙ rw (turn, count) (next_mark c.loop-mark.text.items _ c.loop-mark.made c.loop-mark.left c.args.marks.now c.loop-mark.mark-index (Ask 0 0)
    c.loop-mark-test.true c.loop-mark.invariant)
