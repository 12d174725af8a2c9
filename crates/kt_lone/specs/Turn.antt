-- Turns: the effect of a thread's next act, and what is tried after it, in this order: the end of the run, `main` at
-- its point, all threads back, the closing, the next request, nobody left to turn, the budget. After an end nothing more
-- is tried.
--
-- So far `main` is the only thread: no other one can be made or joined.
use Rattle.std.specs.Prelude.{◌≡◌, ℕ, ◌+◌, ◌==◌, nat_le, List, [], ◌∷◌, Option, Some, None, is_none, is_some, Bool, true, false, ◌&&◌, ◌||◌, not, if◌then◌else◌, slice_get, slice_set, codes}
use Rattle.std.specs.List.{list_all}
use Rattle.kt_types.specs.Table.{Table}
use Rattle.kt_mem.specs.declared.steps.Act.{Act}
use Rattle.kt_mem.specs.declared.steps.Act.TheVariants as act
use Rattle.kt_mem.specs.declared.steps.Reply.{Reply}
use Rattle.kt_mem.specs.declared.steps.Reply.TheVariants.{Done, Trapped}
use Rattle.kt_mem.specs.declared.steps.Trap.TheVariants as trap
use Rattle.kt_mem.specs.declared.thread.Mode.{Mode}
use Rattle.kt_mem.specs.declared.thread.Mode.TheVariants.{Normal, Updating}
use Rattle.kt_mem.specs.Memory.{Memory, no_objects, waits}
use Rattle.kt_tree.specs.Names.{place_of}
use Rattle.kt_tree.specs.Tree.{Function}
use Rattle.kt_tree.specs.Version.{Program, function_names}
use Rattle.kt_meaning.specs.Effects as outside
use Rattle.kt_meaning.specs.Effects.{Outcome, Replies, Waits, Elsewhere}
use Rattle.kt_meaning.specs.Laws.{numbered}
use Rattle.kt_meaning.specs.Steps.{Step, Quiet, Acts, Traps, Ends, after_reply}
use Rattle.kt_meaning.specs.Thread as tree
use Rattle.kt_meaning.specs.TreeSteps as steps
use Rattle.kt_meaning.specs.Weights as weights
use Rattle.kt_lone.specs.declared.mark.End.{End}
use Rattle.kt_lone.specs.declared.mark.End.TheVariants as end
use Rattle.kt_lone.specs.declared.mark.Mark.TheVariants as mark
use Rattle.kt_lone.specs.declared.mark.Phase.{Phase}
use Rattle.kt_lone.specs.declared.mark.Phase.TheVariants.{Run, Asked, Main, Others}
use Rattle.kt_lone.specs.Job.{Job, version_at, types_at}
use Rattle.kt_lone.specs.World.{Engine, Standing, Live, Parked, Ended, Shared, Thread, World, outside_of, with_outside}
use Rattle.kt_lone.specs.Update.{first_memory, placed, marked, closing}

-- ---- acts

-- the thread is in this state now
abbrev pub with_thread : {X : Type 0} → World X → ℕ → Thread X → World X
with_thread w t th = record w { threads = slice_set w.threads t th }

abbrev pub with_end : {X : Type 0} → World X → End → World X
with_end w how = record w { shared = record w.shared { ended = Some how } }

-- this is shared, and the thread goes on after the reply, through its quiet steps; after a trap it stays, and the run ends
abbrev pub answered : {X : Type 0} → Engine X → World X → ℕ → Thread X → Shared → Reply → World X
answered e w t th s (Trapped cause) = with_end (record w { shared = s }) (end.Trap t cause)
answered e w t th s r = record {
  shared = s;
  threads = slice_set w.threads t (record th { state = e.settle s.version (after_reply th.state (e.step s.version th.state) r) });
}

-- a thread on its way nowhere parks where an update is asked for; one on its way to this point has come there
abbrev pub at_point : {X : Type 0} → Engine X → World X → ℕ → Thread X → Mode → Phase → World X
at_point e w t th Normal Asked = with_thread w t (record th { standing = Parked })
at_point e w t th mode phase = answered e w t th w.shared Done

-- all kept values are placed at once, and taken away
abbrev pub migrated : Mode → Shared → Shared
migrated Normal s = s
migrated (Updating q) s = record s { memory = placed s.kept s.memory; kept = [] }

-- acts on threads and updates
abbrev pub elsewhere : {X : Type 0} → Engine X → World X → ℕ → Thread X → Act → World X
elsewhere e w t th (act.Create f v) = answered e w t th w.shared (Trapped trap.Threads)
elsewhere e w t th (act.Join n) = answered e w t th w.shared (Trapped trap.Thread)
elsewhere e w t th (act.Point p) = at_point e w t th (e.mode th.state) w.shared.phase
elsewhere e w t th act.Automigrate = answered e w t th (migrated (e.mode th.state) w.shared) Done
elsewhere e w t th _ = w

abbrev pub on_outcome : {X : Type 0} → Engine X → World X → ℕ → Thread X → Act → Outcome → World X
on_outcome e w t th a (Replies r o) = answered e w t th (with_outside w.shared o) r
on_outcome e w t th a Waits = w
on_outcome e w t th a Elsewhere = elsewhere e w t th a

-- the last act of a thread
abbrev pub ends : {X : Type 0} → World X → ℕ → Thread X → Act → World X
ends w t th act.ThreadEnd = with_thread w t (record th { standing = Ended })
ends w t th (act.MainReturn n) = with_end w (end.Main n)
ends w t th _ = w

-- the effect of what the thread stands at, where the version in force has these types
abbrev pub effect : {X : Type 0} → Engine X → Table → World X → ℕ → Thread X → Step X → World X
effect e types w t th (Quiet x) = w
effect e types w t th (Acts a go) = on_outcome e w t th a (outside.effect types t a (outside_of w.shared))
effect e types w t th (Traps cause) = with_end w (end.Trap t cause)
effect e types w t th (Ends a) = ends w t th a

abbrev pub act_of : {X : Type 0} → Engine X → Job → World X → ℕ → Option (Thread X) → World X
act_of e job w t None = w
act_of e job w t (Some th) = effect e (types_at job w.shared.version) w t th (e.step w.shared.version th.state)

abbrev pub acted : {X : Type 0} → Engine X → Job → World X → ℕ → World X
acted e job w t = act_of e job w t (slice_get w.threads t)

abbrev pub counted : {X : Type 0} → World X → World X
counted w = record w { shared = record w.shared { turns = w.shared.turns + 1 } }

-- ---- who may take a turn

abbrev pub is_live : Standing → Bool
is_live Live = true
is_live Parked = false
is_live Ended = false

-- while `main` is on its way, it alone takes turns
abbrev pub is_turnable : Phase → ℕ → Bool
is_turnable Run t = true
is_turnable Asked t = true
is_turnable Main t = t == 0
is_turnable Others t = true

-- the thread stands at a lock of a mutex that another thread holds
abbrev pub is_waiting : {X : Type 0} → Memory → ℕ → Step X → Bool
is_waiting m t (Acts (act.Lock p) go) = waits m t p
is_waiting m t _ = false

abbrev pub enabled_as : {X : Type 0} → Engine X → Shared → ℕ → Thread X → Bool
enabled_as e s t th = is_live th.standing && is_turnable s.phase t && not (is_waiting s.memory t (e.step s.version th.state))

abbrev pub enabled_if : {X : Type 0} → Engine X → Shared → ℕ → Option (Thread X) → Bool
enabled_if e s t None = false
enabled_if e s t (Some th) = enabled_as e s t th

-- the thread lives, isn't parked, doesn't wait, and while `main` is on its way it is `main`
abbrev pub is_enabled : {X : Type 0} → Engine X → World X → ℕ → Bool
is_enabled e w t = enabled_if e w.shared t (slice_get w.threads t)

-- one of these threads, counted from t, is
abbrev pub any_enabled : {X : Type 0} → Engine X → Shared → ℕ → List (Thread X) → Bool
any_enabled e s t [] = false
any_enabled e s t (th ∷ rest) = enabled_as e s t th || any_enabled e s (t + 1) rest

-- ---- what is tried after an act

-- unless the run has ended
abbrev pub ongoing : {X : Type 0} → (World X → World X) → World X → World X
ongoing f w = if is_none w.shared.ended then f w else w

abbrev pub on_shared : {X : Type 0} → (Shared → Shared) → World X → World X
on_shared f w = record w { shared = f w.shared }

abbrev pub with_mark : Option End → Shared → Shared
with_mark None s = s
with_mark (Some how) s = marked (mark.End s.turns how) s

-- an end is marked
abbrev pub end_marked : {X : Type 0} → World X → World X
end_marked w = on_shared (λ s. with_mark s.ended s) w

-- the run ends so, which is marked
abbrev pub ended_as : End → Shared → Shared
ended_as how s = marked (mark.End s.turns how) (record s { ended = Some how })

abbrev pub is_normal : Mode → Bool
is_normal Normal = true
is_normal (Updating p) = false

-- `main` is on its way nowhere
abbrev pub main_is_normal : {X : Type 0} → Engine X → List (Thread X) → Bool
main_is_normal e [] = false
main_is_normal e (th ∷ rest) = is_normal (e.mode th.state)

abbrev pub has_ended : Standing → Bool
has_ended Live = false
has_ended Parked = false
has_ended Ended = true

-- no thread that has not ended is on its way
abbrev pub all_normal : {X : Type 0} → Engine X → List (Thread X) → Bool
all_normal e threads = list_all (λ th. has_ended th.standing || is_normal (e.mode th.state)) threads

-- no thread lives and isn't parked
abbrev pub all_parked : {X : Type 0} → List (Thread X) → Bool
all_parked threads = list_all (λ th. not (is_live th.standing)) threads

-- `main` has come to its point
abbrev pub main_there : {X : Type 0} → Engine X → Phase → World X → World X
main_there e Main w =
    if main_is_normal e w.threads then on_shared (λ s. marked (mark.MainThere s.turns s.requests) (record s { phase = Others })) w else w
main_there e _ w = w

-- all threads have come to their points
abbrev pub all_back : {X : Type 0} → Engine X → Phase → World X → World X
all_back e Others w =
    if all_normal e w.threads then on_shared (λ s. marked (mark.Back s.turns s.requests) (record s { phase = Run })) w else w
all_back e _ w = w

-- all live threads are parked
abbrev pub closed_up : {X : Type 0} → Engine X → Job → Phase → World X → World X
closed_up e job Asked w = if all_parked w.threads then closing e job w else w
closed_up e job _ w = w

-- the next request, where a next version exists and enough turns were made
abbrev pub request : Job → List ℕ → Shared → Shared
request job [] s = s
request job (n ∷ after) s =
    if is_some (version_at job (s.version + 1)) && nat_le n s.turns then
    marked (mark.Ask s.turns (s.requests + 1)) (record s { phase = Asked; after = after; requests = s.requests + 1 })
    else s

abbrev pub asked : Job → Phase → Shared → Shared
asked job Run s = request job s.after s
asked job _ s = s

-- nobody may take a turn
abbrev pub stuck : {X : Type 0} → Engine X → World X → World X
stuck e w = if any_enabled e w.shared 0 w.threads then w else on_shared (ended_as end.Stuck) w

abbrev pub spent : Job → Shared → Shared
spent job s = if s.turns == job.budget then ended_as end.Budget s else s

-- the next request, nobody left to turn, and the budget, which are tried before the first turn too
abbrev pub before_turn : {X : Type 0} → Engine X → Job → World X → World X
before_turn e job w =
    ongoing (on_shared (spent job))
    (ongoing (stuck e)
    (ongoing (λ u. on_shared (asked job u.shared.phase) u) w))

abbrev pub after_act : {X : Type 0} → Engine X → Job → World X → World X
after_act e job w =
    before_turn e job
    (ongoing (λ u. closed_up e job u.shared.phase u)
    (ongoing (λ u. all_back e u.shared.phase u)
    (ongoing (λ u. main_there e u.shared.phase u) (end_marked w))))

-- ---- turns and worlds

abbrev pub turn : {X : Type 0} → Engine X → Job → World X → ℕ → World X
turn e job w t = after_act e job (counted (acted e job w t))

abbrev pub memory_if : Option Program → Memory
memory_if None = record { at = no_objects; next = 0; live = 0 }
memory_if (Some p) = first_memory 0 p 0

-- before anything is tried: `main` stands at its entry
abbrev pub start : {X : Type 0} → Engine X → Job → World X
start e job = record {
  shared = record {
    version = 0;
    memory = memory_if (version_at job 0);
    kept = [];
    phase = Run;
    after = job.after;
    requests = 0;
    input = job.input;
    output = [];
    turns = 0;
    marks = [];
    ended = None;
  };
  threads = record { state = e.settle 0 (e.entry 0 Normal); standing = Live } ∷ [];
}

-- the world before the first turn
abbrev pub first_world : {X : Type 0} → Engine X → Job → World X
first_world e job = before_turn e job (start e job)

-- a turn of each thread of the list, in order
abbrev pub world_from : {X : Type 0} → Engine X → Job → World X → List ℕ → World X
world_from e job w [] = w
world_from e job w (t ∷ turns) = world_from e job (turn e job w t) turns

abbrev pub MayTurn : {X : Type 0} → Engine X → World X → ℕ → Type 0
MayTurn e w t = (is_enabled e w t ≡ true) × (w.shared.ended ≡ None)

-- each may be taken, where its turn comes
abbrev pub MayTurnAll : {X : Type 0} → Engine X → Job → World X → List ℕ → Type 0
MayTurnAll e job w [] = Unit {0}
MayTurnAll e job w (t ∷ turns) = MayTurn e w t × MayTurnAll e job (turn e job w t) turns

-- ---- the worlds of the tree

-- the function of that number, and its number
abbrev pub numbered_function : Program → ℕ → Option (ℕ × Function)
numbered_function p g = elim (slice_get p.functions g) as (λ _. Option (ℕ × Function)) [ None ↦ None | (Some f) ↦ Some (g, f) ]

abbrev pub main_at : Program → Option ℕ → Option (ℕ × Function)
main_at p None = None
main_at p (Some g) = numbered_function p g

-- the function `main` of a version, and its number
abbrev pub main_of : Program → Option (ℕ × Function)
main_of p = main_at p (place_of (codes "main") (function_names p))

-- the mode at a restart; no locals are kept so far
abbrev pub restart_in : Mode → tree.Restart
restart_in mode = record { mode = mode; kept = [] }

abbrev pub tree_entry_of : Mode → Option (ℕ × Function) → tree.Thread
tree_entry_of mode None = record { frames = []; restart = restart_in mode }
tree_entry_of mode (Some main) = tree.entry main.0 main.1 [] (restart_in mode)

abbrev pub tree_entry : Mode → Option Program → tree.Thread
tree_entry mode None = tree_entry_of mode None
tree_entry mode (Some p) = tree_entry_of mode (main_of p)

abbrev pub tree_settle : ℕ → Option Program → tree.Thread → tree.Thread
tree_settle v None x = x
tree_settle v (Some p) x = weights.settle (numbered p v) x

abbrev pub tree_step : ℕ → Option Program → tree.Thread → Step tree.Thread
tree_step v None x = Traps trap.Uninit
tree_step v (Some p) x = steps.step (numbered p v) x

-- threads of the tree
abbrev pub tree_engine : Job → Engine tree.Thread
tree_engine job = record {
  settle = λ v. tree_settle v (version_at job v);
  step = λ v. tree_step v (version_at job v);
  mode = λ x. x.restart.mode;
  entry = λ v mode. tree_entry mode (version_at job v);
}

-- the world of a job and a list of turns
abbrev pub world : Job → List ℕ → World tree.Thread
world job turns = world_from (tree_engine job) job (first_world (tree_engine job) job) turns

-- a complete list of turns: each may be taken, and after the last one the run has ended so
pub record IsComplete (job : Job) (turns : List ℕ) (how : End) : Type 0 where
  pub may_turn : MayTurnAll (tree_engine job) job (first_world (tree_engine job) job) turns
  pub ended : (world job turns).shared.ended ≡ Some how
