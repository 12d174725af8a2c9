use Rattle.std.proofs.Common.{Bool, if◌then◌else◌, sym, ap, ◌∙◌}
use Rattle.kt_lone.specs.declared.mark.End.TheVariants as end
use Rattle.kt_lone.specs.Turn.{ended_as, on_shared}
use Rattle.kt_machine.specs.Engine.{world_of}
use Rattle.kt_machine.proofs.Acting.{both-ok}
use Rattle.kt_machine.proofs.Threads.{world-shared}
use Rattle.kt_machine.proofs.machine.Machine.end_unless_enabled.Goals as goal

pub returns-else-is_enabled-clause-world : goal.returns-else-is_enabled-clause-world
returns-else-is_enabled-clause-world c =
    both-ok c.end_stuck.result
    (λ is outside. world-shared c.args.self.now c.end_stuck.new.self _ outside is
    ∙ ap (λ (b : Bool). if b then world_of c.args.self.now else on_shared (ended_as end.Stuck) (world_of c.args.self.now))
    (sym c.if-is_enabled.false ∙ c.is_enabled.ensures))
    c.end_stuck.ensures.shared c.end_stuck.ensures.outside
