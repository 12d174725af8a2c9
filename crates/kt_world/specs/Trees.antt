-- The engine of typed trees, and the worlds of a job: what every promise is about.
use Rattle.std.specs.Prelude.{ℕ, List, [], Option, None, Some, map, slice_get}
use Rattle.kt_mem.specs.declared.steps.Trap.TheVariants as trap
use Rattle.kt_mem.specs.declared.memory.Value.{Value}
use Rattle.kt_tree.specs.Tree.{Function}
use Rattle.kt_tree.specs.Version.{Program}
use Rattle.kt_meaning.specs.Laws.{numbered}
use Rattle.kt_meaning.specs.Steps.{Step, Traps}
use Rattle.kt_meaning.specs.Thread as tree
use Rattle.kt_meaning.specs.TreeSteps as steps
use Rattle.kt_meaning.specs.Weights as weights
use Rattle.kt_world.specs.declared.mark.End.{End}
use Rattle.kt_world.specs.Job.{Job, version_at}
use Rattle.kt_world.specs.Turns.{IsComplete, MayTurnAll, first_world, world_of}
use Rattle.kt_world.specs.World.{Call, Engine, World}

abbrev pub tree_settle : ℕ → Option Program → tree.Thread → tree.Thread
tree_settle v None x = x
tree_settle v (Some p) x = weights.settle (numbered p v) x

-- a job lacks no version that is in force
abbrev pub tree_step : ℕ → Option Program → tree.Thread → Step tree.Thread
tree_step v None x = Traps trap.Uninit
tree_step v (Some p) x = steps.step (numbered p v) x

abbrev pub call_of : tree.Frame → Call
call_of f = record { function = f.function; locals = f.locals }

-- without a call: what stands where a version lacks the function, which none does
abbrev pub without_calls : tree.Restart → tree.Thread
without_calls r = record { frames = []; restart = r }

abbrev pub entry_in : ℕ → List Value → tree.Restart → Option Function → tree.Thread
entry_in g arguments r None = without_calls r
entry_in g arguments r (Some f) = tree.entry g f arguments r

abbrev pub tree_entry : Option Program → ℕ → List Value → tree.Restart → tree.Thread
tree_entry None g arguments r = without_calls r
tree_entry (Some p) g arguments r = entry_in g arguments r (slice_get p.functions g)

-- threads of typed trees
abbrev pub tree_engine : Job → Engine tree.Thread
tree_engine job = record {
  settle = λ v. tree_settle v (version_at job v);
  step = λ v. tree_step v (version_at job v);
  mode = λ x. x.restart.mode;
  calls = λ x. map call_of x.frames;
  entry = λ v. tree_entry (version_at job v);
  ended = λ x. without_calls x.restart;
}

-- the world of a job and a list of turns
abbrev pub world : Job → List ℕ → World tree.Thread
world job turns = world_of (tree_engine job) job turns

-- turns of a job: each may be taken where it comes
abbrev pub AreTurnsOf : Job → List ℕ → Type 0
AreTurnsOf job turns = MayTurnAll (tree_engine job) job (first_world (tree_engine job) job) turns

-- the turns of a run of the job, which has ended so
abbrev pub IsRunOf : Job → List ℕ → End → Type 0
IsRunOf job turns how = IsComplete (tree_engine job) job turns how
