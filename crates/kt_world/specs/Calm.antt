-- Calm turns: turns of one thread whose acts are on memory, input and output alone, and are answered, while nothing that is tried
-- after an act comes to pass. So many of them are one step, which is counted as so many turns.
use Rattle.std.specs.Prelude.{◌≡◌, ◌+◌, ◌<◌, ℕ, zero, suc, true, List, [], ◌∷◌, replicate, slice_get, Option, None, Some, option_and_then}
use Rattle.kt_types.specs.Table.{Table}
use Rattle.kt_mem.specs.declared.steps.Reply.{Reply}
use Rattle.kt_mem.specs.declared.steps.Reply.TheVariants.{Trapped}
use Rattle.kt_meaning.specs.Effects as outside
use Rattle.kt_meaning.specs.Effects.{Outcome, Replies, Waits, Elsewhere}
use Rattle.kt_meaning.specs.Steps.{Step, Quiet, Acts, Traps, Ends}
use Rattle.kt_phase.specs.declared.counters.Phase.TheVariants.{Run}
use Rattle.kt_world.specs.Acts.{gone_on, with_shared, with_thread}
use Rattle.kt_world.specs.Job.{Job, Passage, passage_at, types_at}
use Rattle.kt_world.specs.Turns.{MayTurnAll, world_from}
use Rattle.kt_world.specs.Waiting.{is_enabled}
use Rattle.kt_world.specs.World.{Engine, Thread, World, outside_of, with_outside}

-- ---- calm acts

-- what an act leaves that is answered so; none after a trap
abbrev pub answered_by : {X : Type 0} → Engine X → World X → ℕ → Thread X → Reply → outside.Shared → Option (World X)
answered_by e w t th (Trapped cause) o = None
answered_by e w t th r o = Some (with_thread (with_shared w (with_outside w.shared o)) t (gone_on e w.shared.version th r))

abbrev pub replied_by : {X : Type 0} → Engine X → World X → ℕ → Thread X → Outcome → Option (World X)
replied_by e w t th (Replies r o) = answered_by e w t th r o
replied_by e w t th Waits = None
replied_by e w t th Elsewhere = None

abbrev pub calm_by : {X : Type 0} → Engine X → Table → World X → ℕ → Thread X → Step X → Option (World X)
calm_by e types w t th (Quiet x) = None
calm_by e types w t th (Acts a go) = replied_by e w t th (outside.effect types t a (outside_of w.shared))
calm_by e types w t th (Traps cause) = None
calm_by e types w t th (Ends a) = None

-- what the next act of the thread of that number leaves, where it is calm
abbrev pub calm_act : {X : Type 0} → Engine X → Table → World X → ℕ → Option (World X)
calm_act e types w t = option_and_then (λ th. calm_by e types w t th (e.step w.shared.version th.state)) (slice_get w.threads t)

-- what so many of its acts leave, where all of them are calm
abbrev pub calm_acts : {X : Type 0} → Engine X → Table → World X → ℕ → ℕ → Option (World X)
calm_acts e types w t zero = Some w
calm_acts e types w t (suc n) = option_and_then (λ u. calm_acts e types u t n) (calm_act e types w t)

-- ---- nothing comes to pass

-- no request is due up to so many turns: there is no next version, none is asked for, or later
abbrev pub NoneDue : Option Passage → List ℕ → ℕ → Type 0
NoneDue None after turns = Unit {0}
NoneDue (Some j) [] turns = Unit {0}
NoneDue (Some j) (n ∷ after) turns = turns < n

-- for so many turns more the run goes on in phase `Run`, whatever its threads do on memory, input and output
pub record IsUndisturbed {X : Type 0} (job : Job) (w : World X) (n : ℕ) : Type 0 where
  pub ongoing : w.shared.ended ≡ None
  pub phase : w.shared.phase ≡ Run
  pub requests : NoneDue (passage_at job w.shared.version) w.shared.after (n + w.shared.turns)
  pub budget : n + w.shared.turns < job.budget

-- ---- the law

-- the world where so many turns more were counted
abbrev pub later : {X : Type 0} → ℕ → World X → World X
later n w = record w { shared = record w.shared { turns = n + w.shared.turns } }

-- so many turns of a thread may be taken, and lead to that world
pub record AreTurnsTo {X : Type 0} (e : Engine X) (job : Job) (w : World X) (t n : ℕ) (u : World X) : Type 0 where
  pub may : MayTurnAll e job w (replicate n t)
  pub world : world_from e job w (replicate n t) ≡ u

-- So many calm turns of one thread are one step, where it is enabled behind the last of them.
abbrev pub CalmTurnsAreOneStep : {X : Type 0} → Engine X → Job → Type 0
CalmTurnsAreOneStep {X} e job =
    (w u : World X) (t n : ℕ) →
    IsUndisturbed job w n →
    calm_acts e (types_at job w.shared.version) w t n ≡ Some u →
    is_enabled e u t ≡ true →
    AreTurnsTo e job w t n (later n u)
