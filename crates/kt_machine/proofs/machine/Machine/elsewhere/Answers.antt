use Rattle.std.proofs.Common.{rules, ◌≡◌, Some, sym, ap, ◌∙◌}
use Rattle.kt_code.specs.declared.private.Head.{Head}
use Rattle.kt_code.specs.declared.private.Head.TheVariants.{Act}
use Rattle.kt_lone.specs.declared.mark.End.TheVariants as end
use Rattle.kt_machine.specs.Acts.{elsewhere_at, left_at}
use Rattle.kt_machine.specs.Engine.{code_engine, thread_of, world_of}
use Rattle.kt_machine.specs.Shared.{shared_of}
use Rattle.kt_machine.proofs.Threads.{world-shared}
use Rattle.kt_machine.proofs.machine.Machine.elsewhere.Goals as goal

pub returns-in-MainReturn-clause-world : goal.returns-in-MainReturn-clause-world
returns-in-MainReturn-clause-world c =
    let m = c.args.self.now in
    let shared : shared_of c.end.new.self ≡ record (shared_of m.shared) { ended = Some (end.Main c.in-MainReturn.value) } = search rules in
    world-shared m c.end.new.self _ c.end.ensures.outside shared
    ∙ sym (ap (λ (h : Head). left_at h (elsewhere_at (code_engine c.args.codes.now) (world_of m) (thread_of m) h)) (c.in-Act.is ∙ ap Act c.in-MainReturn.is))
