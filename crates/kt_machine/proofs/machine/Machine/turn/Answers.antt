use Rattle.kt_code.specs.declared.private.Private.{Private}
use Rattle.kt_lone.specs.Plain.{job_of}
use Rattle.kt_lone.specs.Turn as world
use Rattle.kt_lone.specs.World.{World}
use Rattle.kt_machine.specs.Engine.{code_engine, without_ended, world_of}
use Rattle.kt_machine.proofs.Turning.{two-steps}
use Rattle.kt_machine.proofs.machine.Machine.turn.Goals as goal

pub returns-clause-world : goal.returns-clause-world
returns-clause-world c =
    let e = code_engine c.args.codes.now in
    let job = job_of c.args.job.now in
    two-steps c.after_act.result (λ (w : World Private). world.counted (without_ended (world.acted e job w 0))) (world.after_act e job)
    (world_of c.args.self.now) (world_of c.act_and_count.new.self) (world_of c.after_act.new.self)
    c.in_ok-act_and_count.ensures.world c.after_act.ensures.world
