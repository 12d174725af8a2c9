use Rattle.std.proofs.Common.{subst}
use Rattle.kt_heap.specs.Heap as heap
use Rattle.kt_heap.specs.Heap.{memory}
use Rattle.kt_exec.specs.Renaming.{IsOld, ReplyIn}
use Rattle.kt_machine.specs.Outside.{Outside, pairs_in}
use Rattle.kt_machine.proofs.ByAddress.{load-names, load-reads}
use Rattle.kt_machine.proofs.outside.Outside.load.Goals as goal

pub returns-clause-reads : goal.returns-clause-reads
returns-clause-reads c =
    load-reads _ c.args.self.now c.self.view_is c.args.p c.args.ty c.load.result c.given.result c.law.ensures.pairing c.requires c.load.ensures c.given.ensures

pub returns-clause-names : goal.returns-clause-names
returns-clause-names c =
    subst (λ (o : Outside). ReplyIn (IsOld (pairs_in o)) c.given.result) c.self.view_is
    (load-names (heap.given c.self.inside.heap) (memory c.self.inside.heap) c.args.p c.args.ty c.load.result c.given.result c.self.invariant.2 c.load.ensures
    c.given.ensures)
