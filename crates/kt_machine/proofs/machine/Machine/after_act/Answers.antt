use Rattle.kt_code.specs.declared.private.Private.{Private}
use Rattle.kt_lone.specs.Plain.{job_of}
use Rattle.kt_lone.specs.Turn as world
use Rattle.kt_lone.specs.World.{World}
use Rattle.kt_machine.specs.Engine.{code_engine, world_of}
use Rattle.kt_machine.proofs.Turning.{five-steps}
use Rattle.kt_machine.proofs.machine.Machine.after_act.Goals as goal

pub returns-clause-world : goal.returns-clause-world
returns-clause-world c =
    let e = code_engine c.args.codes.now in
    let job = job_of c.args.job.now in
    five-steps c.before_turn.result world.end_marked (world.ongoing (λ (w : World Private). world.main_there e w.shared.phase w))
    (world.ongoing (λ (w : World Private). world.all_back e w.shared.phase w))
    (world.ongoing (λ (w : World Private). world.closed_up e job w.shared.phase w)) (world.before_turn e job)
    (world_of c.args.self.now) (world_of c.mark_end.new.self) (world_of c.main_there.new.self) (world_of c.all_back.new.self)
    (world_of c.close_up.new.self) (world_of c.before_turn.new.self)
    c.in_ok-mark_end.ensures.world (c.in_ok-main_there.ensures.world c.args.codes.now) (c.in_ok-all_back.ensures.world c.args.codes.now)
    c.in_ok-close_up.ensures.world c.before_turn.ensures.world
