use Rattle.std.proofs.Common.{sym, ◌∙◌}
use Rattle.kt_lone.specs.declared.mark.Phase.TheVariants.{Others}
use Rattle.kt_lone.specs.Turn.{all_back}
use Rattle.kt_machine.specs.Engine.{code_engine, world_of}
use Rattle.kt_machine.proofs.Acting.{on-ok}
use Rattle.kt_machine.proofs.Trying.{ongoing-at}
use Rattle.kt_machine.proofs.machine.Machine.all_back.Goals as goal

pub returns-in-None-Others-clause-world : goal.returns-in-None-Others-clause-world
returns-in-None-Others-clause-world c =
    on-ok c.mark_if_back.result
    (λ is codes. ongoing-at (all_back (code_engine codes)) (world_of c.args.self.now) (world_of c.mark_if_back.new.self) Others
    (sym c.ended.ensures ∙ c.in-None-Others.is-0) (sym c.phase.ensures ∙ c.in-None-Others.is-1) (is codes))
    c.mark_if_back.ensures.world
