-- Turns, and the world of a job and a list of turns.
use Rattle.std.specs.Prelude.{◌≡◌, ℕ, suc, true, List, [], ◌∷◌, ◌++◌, codes, Option, None, Some, unwrap_or}
use Rattle.kt_mem.specs.declared.thread.Mode.TheVariants.{Normal}
use Rattle.kt_mem.specs.Memory.{Memory, no_objects}
use Rattle.kt_tree.specs.Names.{place_of}
use Rattle.kt_tree.specs.Version.{Program, function_names}
use Rattle.kt_phase.specs.declared.counters.Phase.TheVariants.{Run}
use Rattle.kt_world.specs.declared.mark.End.{End}
use Rattle.kt_world.specs.Acts.{acted}
use Rattle.kt_world.specs.Events.{after_act, before_turn}
use Rattle.kt_world.specs.Job.{Job, types_at, version_at}
use Rattle.kt_world.specs.Update.{begun_again, object_at}
use Rattle.kt_world.specs.Waiting.{is_enabled}
use Rattle.kt_world.specs.World.{Engine, World}

-- ---- turns

abbrev pub counted : {X : Type 0} → World X → World X
counted w = record w { shared = record w.shared { turns = suc w.shared.turns } }

-- a turn of the thread of that number: its act, and what is tried after it
abbrev pub turn : {X : Type 0} → Engine X → Job → World X → ℕ → World X
turn e job w t = after_act e job (counted (acted e (types_at job w.shared.version) w t))

-- ---- the first world

abbrev pub first_memory : Option Program → Memory
first_memory None = record { at = no_objects; next = 0; live = 0 }
first_memory (Some p) = record { at = object_at 0 p no_objects; next = 0; live = 0 }

abbrev pub main_in : Program → ℕ
main_in p = unwrap_or (place_of (codes "main") (function_names p)) 0

abbrev pub first_function : Option Program → ℕ
first_function None = 0
first_function (Some p) = main_in p

-- before anything is tried: `main` stands at its entry, through its quiet steps
abbrev pub start : {X : Type 0} → Engine X → Job → World X
start e job = record {
  shared = record {
    version = 0;
    memory = first_memory (version_at job 0);
    kept = [];
    phase = Run;
    after = job.after;
    requests = 0;
    input = job.input;
    output = [];
    turns = 0;
    marks = [];
    ended = None;
  };
  threads = begun_again e 0 (first_function (version_at job 0)) [] (record { mode = Normal; kept = [] }) ∷ [];
}

-- the world before the first turn
abbrev pub first_world : {X : Type 0} → Engine X → Job → World X
first_world e job = before_turn e job (start e job)

-- ---- lists of turns

unfoldable pub world_from : {X : Type 0} → Engine X → Job → World X → List ℕ → World X
world_from e job w [] = w
world_from e job w (t ∷ turns) = world_from e job (turn e job w t) turns

-- a thread may take a turn: the run goes on, and the thread is enabled
pub record MayTurn {X : Type 0} (e : Engine X) (w : World X) (t : ℕ) : Type 0 where
  pub ongoing : w.shared.ended ≡ None
  pub enabled : is_enabled e w t ≡ true

-- each turn of the list may be taken, one after another
abbrev pub MayTurnAll : {X : Type 0} → Engine X → Job → World X → List ℕ → Type 0
MayTurnAll e job w [] = Unit {0}
MayTurnAll e job w (t ∷ turns) = MayTurn e w t × MayTurnAll e job (turn e job w t) turns

-- the world of a job and a list of turns
abbrev pub world_of : {X : Type 0} → Engine X → Job → List ℕ → World X
world_of e job turns = world_from e job (first_world e job) turns

-- a complete list of turns: each may be taken, and after the last one the run has ended so
pub record IsComplete {X : Type 0} (e : Engine X) (job : Job) (turns : List ℕ) (how : End) : Type 0 where
  pub may_turn : MayTurnAll e job (first_world e job) turns
  pub ended : (world_of e job turns).shared.ended ≡ Some how

-- ---- schedules

-- the turns are those that a schedule chooses, by the turns that were made before and the world
abbrev pub AreChosen : {X : Type 0} → Engine X → Job → (List ℕ → World X → ℕ) → List ℕ → World X → List ℕ → Type 0
AreChosen e job choice made w [] = Unit {0}
AreChosen e job choice made w (t ∷ turns) = (t ≡ choice made w) × AreChosen e job choice (made ++ t ∷ []) (turn e job w t) turns
