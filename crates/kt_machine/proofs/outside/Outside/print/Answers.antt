use Rattle.std.proofs.Common.{drop, sym, subst}
use Rattle.kt_heap.specs.Heap.{given}
use Rattle.kt_exec.specs.Renaming.{IsOld, PiecesIn}
use Rattle.kt_machine.specs.Outside.{Outside, pairs_in}
use Rattle.kt_machine.proofs.ByAddress.{pieces-written, plain-in}
use Rattle.kt_machine.proofs.outside.Outside.print.Goals as goal

pub returns-clause-writes : goal.returns-clause-writes
returns-clause-writes c =
    let h = c.self.inside.heap in
    let ps = given h in
    let pieces = c.args.pieces.now in
    let old : Outside = record { heap = h; input = drop c.self.inside.read c.self.inside.input.items; output = c.self.inside.output.items } in
    let new : Outside = record old { output = c.print.new.output.items } in
    pieces-written old c.args.self.now c.self.view_is c.print.new.output.items pieces c.law.ensures.pairing
    (subst (λ (o : Outside). PiecesIn (IsOld (pairs_in o)) pieces) (sym c.self.view_is) c.requires)
    c.print.result c.print.ensures.text c.print.ensures.names

pub returns-clause-names : goal.returns-clause-names
returns-clause-names c = plain-in (IsOld (given c.self.inside.heap)) c.print.result c.print.ensures.names
