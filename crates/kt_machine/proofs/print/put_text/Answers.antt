use Rattle.std.proofs.Common.{◌+◌, [], ◌∷◌, drop, length, ◌≤◌, Ok, Err, sym, ◌∙◌, ap, subst, arith}
use Rattle.kt_mem.specs.declared.steps.Trap.TheVariants as trap
use Rattle.kt_meaning.specs.Effects.{text_of}
use Rattle.kt_machine.specs.Printing.{IsPutUpTo, text_from}
use Rattle.kt_machine.proofs.Lists.{append-nil}
use Rattle.kt_machine.proofs.Printing.{put-more, put-last, put-trap, with-nothing, text-step, text-end}
use Rattle.kt_machine.proofs.print.put_text.Goals as goal

pub loop-cell-preserved : goal.loop-cell-preserved
loop-cell-preserved c =
    let cells = c.args.cells.now in
    let i = c.loop-cell.cell-index in
    let rest = text_of (drop (i + 1) cells) in
    let old = c.args.output.now.items in
    let new = c.loop-cell.output.items in
    let step = text-step cells i c.cell-item.result (Ok c.in-Ok-Some.field-0) c.loop-cell-test.true c.cell-item.is c.in-Ok-Some.ensures in
    let here = step ∙ ap (λ o. text_from (Ok o) rest) c.in-Ok-Some.field-0-is in
    put-more (text_of cells) rest (c.in-Ok-Some.byte ∷ []) old new c.put_byte.new.output.items
    (subst (λ r. IsPutUpTo (text_of cells) r old new) here c.loop-cell.invariant) c.in_ok-put_byte-in-Ok-Some.ensures

pub returns-in-Err : goal.returns-in-Err
returns-in-Err c =
    let cells = c.args.cells.now in
    let old = c.args.output.now.items in
    let new = c.loop-cell.output.items in
    let here = text-step cells c.loop-cell.cell-index c.cell-item.result (Err c.in-Err.trap) c.loop-cell-test.true c.cell-item.is c.in-Err.ensures in
    put-trap (text_of cells) c.in-Err.trap old new new (subst (λ r. IsPutUpTo (text_of cells) r old new) here c.loop-cell.invariant) ([], sym (append-nil new))

pub returns-in-Ok-None : goal.returns-in-Ok-None
returns-in-Ok-None c =
    let cells = c.args.cells.now in
    let i = c.loop-cell.cell-index in
    let rest = text_of (drop (i + 1) cells) in
    let old = c.args.output.now.items in
    let new = c.loop-cell.output.items in
    let step = text-step cells i c.cell-item.result (Ok c.in-Ok-None.field-0) c.loop-cell-test.true c.cell-item.is c.in-Ok-None.ensures in
    let here = step ∙ ap (λ o. text_from (Ok o) rest) c.in-Ok-None.field-0-is in
    put-last (text_of cells) [] old new new (subst (λ r. IsPutUpTo (text_of cells) r old new) here c.loop-cell.invariant) (sym (with-nothing new))

pub returns : goal.returns
returns c =
    let cells = c.args.cells.now in
    let old = c.args.output.now.items in
    let new = c.loop-cell.output.items in
    let past : length cells ≤ c.loop-cell.cell-index = omega arith in
    put-trap (text_of cells) trap.Bounds old new new
    (subst (λ r. IsPutUpTo (text_of cells) r old new) (text-end cells c.loop-cell.cell-index past) c.loop-cell.invariant)
    ([], sym (append-nil new))
