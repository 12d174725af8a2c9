use Rattle.kt_lone.specs.Laws.{followed, main-alone, world-next}
use Rattle.kt_lone.specs.Plain.{job_of}
use Rattle.kt_lone.specs.Turn.{tree_engine, world}
use Rattle.kt_lone.specs.Kept.{world_from-keeps}
use Rattle.kt_lone.specs.Typed.{IsWellFormed}
use Rattle.kt_lone.specs.TypedWorlds.{settled-IsTypedWorld, world-settled}
use Rattle.kt_lone.proofs.WellFormed.{IsWellFormed-kept, first_world-well_formed}
use Rattle.kt_lone.proofs.laws.world_law.Goals as goal

pub returns : goal.returns
returns c =
    let j = job_of c.args.job.now in
    let turns = c.args.turns.now in
    record {
      followed = followed j turns;
      next = λ t may. world-next j turns t;
      main_alone = λ t may on_its_way. main-alone (tree_engine j) (world j turns) t on_its_way ((followed j turns t).0 may).1;
      well_formed = λ may.
          world_from-keeps (tree_engine j) j (IsWellFormed j) (IsWellFormed-kept (tree_engine j) j) turns _ may (first_world-well_formed (tree_engine j) j);
      typed = λ job may. settled-IsTypedWorld j (world j turns) (world-settled j job turns may);
    }
