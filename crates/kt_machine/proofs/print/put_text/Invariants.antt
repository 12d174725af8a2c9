use Rattle.std.proofs.Common.{drop}
use Rattle.kt_meaning.specs.Effects.{text_of}
use Rattle.kt_machine.specs.Printing.{IsPutUpTo}
use Rattle.kt_machine.proofs.print.put_text.Given as goal

-- the text before this cell is put
abbrev pub invariant-loop-cell : goal.invariant-loop-cell
invariant-loop-cell l = IsPutUpTo (text_of l.cells) (text_of (drop l.cell-index l.cells)) l.initial.output.items l.output.items
