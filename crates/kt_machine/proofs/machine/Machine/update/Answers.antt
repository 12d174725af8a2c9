use Rattle.std.proofs.Common.{◌+◌, ℕ, List, Option, sym, subst, ap, ◌∙◌}
use Rattle.kt_mem.specs.declared.memory.Value.{Value}
use Rattle.kt_mem.specs.Memory.{Memory}
use Rattle.kt_heap.specs.Heap.{State, memory}
use Rattle.kt_lone.specs.declared.mark.Closed.TheVariants as closed
use Rattle.kt_lone.specs.declared.mark.Mark.TheVariants.{Close}
use Rattle.kt_lone.specs.declared.mark.Phase.TheVariants.{Main}
use Rattle.kt_lone.specs.Update.{first_memory, kept_values, marked}
use Rattle.kt_lone.specs.World.{Shared}
use Rattle.kt_machine.specs.Outside.{Outside, AreNumbers, shown}
use Rattle.kt_machine.specs.Shared.{shared_of}
use Rattle.kt_machine.proofs.Acting.{on-ok}
use Rattle.kt_machine.proofs.Keeping.{kept-by, kept-numbers}
use Rattle.kt_machine.proofs.machine.Machine.update.Goals as goal

pub mark_updated-requires-clause-numbers : goal.mark_updated-requires-clause-numbers
mark_updated-requires-clause-numbers c =
    let o = c.args.self.now.shared.outside in
    let at = c.heap.ensures ∙ ap (λ (o : Outside). o.heap) c.outside.ensures in
    subst AreNumbers (sym (c.in_ok-kept.ensures.values ∙ ap (λ (h : State). kept_values c.args.old.now (memory h) c.args.new.now) at))
    (kept-numbers o c.law.ensures.pairing c.requires.shared c.args.old.now c.args.new.now)

pub returns-clause-shared : goal.returns-clause-shared
returns-clause-shared c =
    let s = c.args.self.now.shared in
    let o = s.outside in
    let v = s.version + 1 in
    let new = c.args.new.now in
    let at = c.heap.ensures ∙ ap (λ (o : Outside). o.heap) c.outside.ensures in
    let kept = c.in_ok-kept.ensures.values ∙ ap (λ (h : State). kept_values c.args.old.now (memory h) new) at
    ∙ kept-by o c.law.ensures.pairing c.requires.shared c.args.old.now new in
    let next = c.next.ensures ∙ ap (λ (h : State). (memory h).next) (c.heap-2.ensures ∙ ap (λ (o : Outside). o.heap) c.outside-2.ensures) in
    let memory_is = c.in_ok-heap.ensures.memory ∙ ap (λ (n : ℕ). first_memory (n + 1) new c.next.result) c.version-version.ensures ∙ ap (first_memory v new) next in
    let after : Memory → List (Option Value) → Shared = λ m k.
    marked (Close s.turns s.requests (closed.Ok 0)) (record (shared_of s) { version = v; memory = m; kept = k; phase = Main }) in
    on-ok c.mark_updated.result
    (λ e codes. e ∙ ap (λ (m : Memory). after m c.in_ok-kept.kept.items) memory_is ∙ ap (λ (k : List (Option Value)). after (first_memory v new (shown o).memory.next) k) kept)
    c.mark_updated.ensures.shared
