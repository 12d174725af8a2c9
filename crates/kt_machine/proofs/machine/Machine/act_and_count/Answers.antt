use Rattle.std.proofs.Common.{sym, subst, ap, ◌∙◌}
use Rattle.kt_code.specs.declared.private.Private.{Private}
use Rattle.kt_meaning.specs.Laws.{IsShared}
use Rattle.kt_lone.specs.Turn.{counted}
use Rattle.kt_lone.specs.World.{World, outside_of}
use Rattle.kt_machine.proofs.Threads.{world-shared}
use Rattle.kt_machine.proofs.machine.Machine.act_and_count.Goals as goal

pub returns-clause-world : goal.returns-clause-world
returns-clause-world c =
    world-shared c.act.new.self c.count_turn.new.self _ c.count_turn.ensures.outside c.count_turn.ensures.shared
    ∙ ap (λ (w : World Private). counted w) c.in_ok-act.ensures.world

pub returns-clause-shared : goal.returns-clause-shared
returns-clause-shared c =
    subst (λ (w : World Private). IsShared (outside_of w.shared)) (sym (returns-clause-world c)) c.requires.ready.after
