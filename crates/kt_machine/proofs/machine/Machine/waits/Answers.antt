use Rattle.std.proofs.Common.{Some, sym, subst, ap, ◌∙◌, slice_get}
use Rattle.kt_code.specs.declared.private.Head.{Head}
use Rattle.kt_mem.specs.Renaming.{renamed}
use Rattle.kt_heap.specs.Heap.{State, memory}
use Rattle.kt_exec.specs.Renaming.{HeadIn, IsOld, rename_act}
use Rattle.kt_lone.specs.Turn.{has_ended}
use Rattle.kt_machine.specs.Acts.{waits_at}
use Rattle.kt_machine.specs.ByNumber.{head_by, private_by}
use Rattle.kt_machine.specs.Engine.{pairs_of, standing_of}
use Rattle.kt_machine.specs.Outside.{Outside, shown}
use Rattle.kt_machine.proofs.Heads.{waiting, not_waiting}
use Rattle.kt_machine.proofs.Threads.{head-names, head-stands, waits_at-by}
use Rattle.kt_machine.proofs.machine.Machine.waits.Goals as goal

pub returns-in-Act : goal.returns-in-Act
returns-in-Act c =
    let m = c.args.self.now in
    let o = m.shared.outside in
    let ps = pairs_of m in
    let on = ap (λ s. has_ended (standing_of s)) c.requires.live in
    let stands = head-stands c.args.codes.now m c.law.ensures.once c.requires.settled on in
    let names = head-names c.args.codes.now m c.law.ensures.once c.requires.settled on in
    c.waits.ensures ∙ ap (λ (h : State). waits_at (memory h) c.in-Act.act) (c.heap.ensures ∙ ap (λ (o : Outside). o.heap) c.outside.ensures)
    ∙ sym (waits_at-by o c.in-Act.act c.law.ensures.pairing (subst (λ (h : Head). HeadIn (IsOld ps) (Some h)) c.in-Act.is names))
    ∙ sym (waiting (shown o).memory (slice_get c.args.codes.now m.shared.version) (private_by ps m.private) (head_by ps m.head)
    (rename_act (renamed ps) c.in-Act.act) stands (ap (λ (h : Head). head_by ps h) c.in-Act.is))

pub returns-in-Trap : goal.returns-in-Trap
returns-in-Trap c =
    let m = c.args.self.now in
    let ps = pairs_of m in
    let stands = head-stands c.args.codes.now m c.law.ensures.once c.requires.settled (ap (λ s. has_ended (standing_of s)) c.requires.live) in
    sym (not_waiting (shown m.shared.outside).memory (slice_get c.args.codes.now m.shared.version) (private_by ps m.private) (head_by ps m.head) c.in-Trap.field-0
    stands (ap (λ (h : Head). head_by ps h) c.in-Trap.is))
