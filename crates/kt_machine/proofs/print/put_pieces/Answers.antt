use Rattle.std.proofs.Common.{◌+◌, drop, subst}
use Rattle.kt_heap.specs.Heap.{memory}
use Rattle.kt_meaning.specs.Effects.{piece_text, pieces_text}
use Rattle.kt_machine.specs.Printing.{IsPutUpTo}
use Rattle.kt_machine.proofs.Printing.{put-part, put-failed, pieces-step}
use Rattle.kt_machine.proofs.print.put_pieces.Goals as goal

pub loop-piece-preserved : goal.loop-piece-preserved
loop-piece-preserved c =
    let m = memory c.args.heap.now in
    let pieces = c.args.pieces.now in
    let i = c.loop-piece.piece-index in
    let whole = pieces_text m pieces in
    let old = c.args.output.now.items in
    let new = c.loop-piece.output.items in
    let here = pieces-step m pieces i c.piece-item.result c.loop-piece-test.true c.piece-item.is in
    put-part whole (piece_text m c.piece-item.result) (pieces_text m (drop (i + 1) pieces)) c.in_ok-trap.field-0 old new c.put_piece.new.output.items
    (subst (λ r. IsPutUpTo whole r old new) here c.loop-piece.invariant) c.in_ok-trap.ensures c.in_default.is

pub returns-in-Some : goal.returns-in-Some
returns-in-Some c =
    let m = memory c.args.heap.now in
    let pieces = c.args.pieces.now in
    let i = c.loop-piece.piece-index in
    let whole = pieces_text m pieces in
    let old = c.args.output.now.items in
    let new = c.loop-piece.output.items in
    let here = pieces-step m pieces i c.piece-item.result c.loop-piece-test.true c.piece-item.is in
    put-failed whole (piece_text m c.piece-item.result) (pieces_text m (drop (i + 1) pieces)) c.in_ok-trap.field-0 c.in-Some.trap old new c.put_piece.new.output.items
    (subst (λ r. IsPutUpTo whole r old new) here c.loop-piece.invariant) c.in_ok-trap.ensures c.in-Some.is
