use Rattle.std.proofs.Common.{drop}
use Rattle.kt_heap.specs.Heap.{memory}
use Rattle.kt_meaning.specs.Effects.{pieces_text}
use Rattle.kt_machine.specs.Printing.{IsPutUpTo}
use Rattle.kt_machine.proofs.print.put_pieces.Given as goal

-- the pieces before this one are put
abbrev pub invariant-loop-piece : goal.invariant-loop-piece
invariant-loop-piece l =
    IsPutUpTo (pieces_text (memory l.heap) l.pieces) (pieces_text (memory l.heap) (drop l.piece-index l.pieces)) l.initial.output.items l.output.items
