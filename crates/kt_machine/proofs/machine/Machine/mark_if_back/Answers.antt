use Rattle.std.proofs.Common.{refl, ◌∙◌}
use Rattle.kt_machine.specs.Shared.{shared_of}
use Rattle.kt_machine.proofs.Acting.{both-ok}
use Rattle.kt_machine.proofs.Threads.{world-shared}
use Rattle.kt_machine.proofs.Trying.{back-marked, not-back}
use Rattle.kt_machine.proofs.machine.Machine.mark_if_back.Goals as goal

pub returns-then-is_back-clause-world : goal.returns-then-is_back-clause-world
returns-then-is_back-clause-world c =
    both-ok c.mark_back.result
    (λ is outside codes. world-shared c.args.self.now c.mark_back.new.self (shared_of c.mark_back.new.self) outside refl
    ∙ back-marked codes c.args.self.now c.is_back.result (shared_of c.mark_back.new.self) (c.is_back.ensures codes) c.if-is_back.true is)
    c.mark_back.ensures.shared c.mark_back.ensures.outside

pub returns-else-is_back-clause-world : goal.returns-else-is_back-clause-world
returns-else-is_back-clause-world c = λ codes. not-back codes c.args.self.now c.is_back.result (c.is_back.ensures codes) c.if-is_back.false
