-- Worked runs, followed by hand: threads made and joined, a lock that waits, a run that is stuck, closings with two threads, each kind
-- of refusal, a chain of updates, conditions.
use Rattle.std.specs.Prelude.{◌≡◌, ℕ, pos, Bool, true, false, List, [], ◌∷◌, ◌++◌, codes, map, None, Some, refl}
use Rattle.kt_types.specs.Layout.{layout, place_cells, struct_cells}
use Rattle.kt_types.specs.Table.{Table, scalar_table}
use Rattle.kt_types.specs.declared.kinds.Ty.TheVariants as ty
use Rattle.kt_mem.specs.Memory.{put}
use Rattle.kt_mem.specs.declared.memory.Name.TheVariants.{Glob}
use Rattle.kt_mem.specs.declared.memory.Value.{Value}
use Rattle.kt_mem.specs.declared.memory.Value.TheVariants.{Num, Ptr}
use Rattle.kt_mem.specs.declared.steps.Act.{Act}
use Rattle.kt_mem.specs.declared.steps.Act.TheVariants.{Create, Join, Lock, Unlock, Wait, Signal, Point, Tick, MainReturn}
use Rattle.kt_mem.specs.declared.steps.Trap.TheVariants as trap
use Rattle.kt_types.specs.declared.kinds.View.TheVariants as view
use Rattle.kt_tree.specs.declared.expr.Constant.TheVariants as constant
use Rattle.kt_tree.specs.declared.expr.Operation.TheVariants as operation
use Rattle.kt_tree.specs.declared.global.Init.TheVariants as init
use Rattle.kt_tree.specs.Tree.{Constant', Operated, NoMore, More}
use Rattle.kt_tree.specs.Version.{Program}
use Rattle.xf_plan.specs.Bodies.{Actions, Done, Then, Assigned, New, Number}
use Rattle.xf_plan.specs.Plan.{GlobalRule, GlobalBody}
use Rattle.xf_plan.specs.declared.place.Place.TheVariants.{GlobalCell}
use Rattle.xf_plan.specs.declared.place.Why.TheVariants.{Rule}
use Rattle.kt_phase.specs.declared.counters.Phase.TheVariants as phase
use Rattle.kt_world.specs.declared.mark.Closed.TheVariants as closed
use Rattle.kt_world.specs.declared.mark.End.TheVariants as end
use Rattle.kt_world.specs.declared.mark.Mark.TheVariants.{Ask, Close, MainThere, Back, End}
use Rattle.kt_world.specs.Job.{Job}
use Rattle.kt_world.specs.Scripts.{Script, Scripts, scripted, worker, program, plan, job, run}
use Rattle.kt_world.specs.Turns.{world_from}
use Rattle.kt_world.specs.Waiting.{is_enabled}
use Rattle.kt_world.specs.World.{World, Standing, Live, Waiter, Parked, Ended}

abbrev m : Value
m = Ptr (Glob 0) 0

abbrev standings : World Script → List Standing
standings w = map (λ th. th.standing) w.threads

abbrev one_version : Job
one_version = job (program (worker (codes "w") 1 ∷ []) [] ∷ []) [] []

-- ---- a thread is made, runs, and is joined

abbrev joining : Scripts
joining = ((Create 1 (Num (pos 7)) ∷ Join (pos 1) ∷ MainReturn (pos 0) ∷ []) ∷ (Tick ∷ []) ∷ []) ∷ []

pub record JoinRow : Type 0 where
  pub made : standings (run joining one_version (0 ∷ [])) ≡ Live ∷ Live ∷ []
  pub waits : is_enabled (scripted joining) (run joining one_version (0 ∷ 1 ∷ [])) 0 ≡ false
  pub ended : is_enabled (scripted joining) (run joining one_version (0 ∷ 1 ∷ 1 ∷ [])) 0 ≡ true
  pub marks : (run joining one_version (0 ∷ 1 ∷ 1 ∷ 0 ∷ 0 ∷ [])).shared.marks ≡ End 5 (end.Main (pos 0)) ∷ []

pub join_row : JoinRow
unfolding world_from layout place_cells struct_cells put
join_row = record { made = refl; waits = refl; ended = refl; marks = refl }

-- a thread that wasn't made, `main`, and the thread itself can't be joined
pub record JoinTraps : Type 0 where
  pub missing : (run (((Join (pos 1) ∷ []) ∷ []) ∷ []) one_version (0 ∷ [])).shared.ended ≡ Some (end.Trap 0 trap.Thread)
  pub main : (run (((Create 1 (Num (pos 0)) ∷ []) ∷ (Join (pos 0) ∷ []) ∷ []) ∷ []) one_version (0 ∷ 1 ∷ [])).shared.ended ≡
      Some (end.Trap 1 trap.Thread)
  pub itself : (run (((Create 1 (Num (pos 0)) ∷ []) ∷ (Join (pos 1) ∷ []) ∷ []) ∷ []) one_version (0 ∷ 1 ∷ [])).shared.ended ≡
      Some (end.Trap 1 trap.Thread)

pub join_traps : JoinTraps
unfolding world_from layout place_cells struct_cells put
join_traps = record { missing = refl; main = refl; itself = refl }

-- ---- a thread ends with its lock held; `main` waits for it, and nobody may turn

abbrev locking : Scripts
locking = ((Create 1 (Num (pos 0)) ∷ Join (pos 1) ∷ Lock m ∷ MainReturn (pos 0) ∷ []) ∷ (Lock m ∷ []) ∷ []) ∷ []

pub record StuckRow : Type 0 where
  pub ongoing : (run locking one_version (0 ∷ 1 ∷ 1 ∷ [])).shared.ended ≡ None
  pub stuck : (run locking one_version (0 ∷ 1 ∷ 1 ∷ 0 ∷ [])).shared.marks ≡ End 4 end.Stuck ∷ []

pub stuck_row : StuckRow
unfolding world_from layout place_cells struct_cells put
stuck_row = record { ongoing = refl; stuck = refl }

-- ---- an update of two threads, which park in either order

abbrev two_versions : List ℕ → Job
two_versions after = job
    (program (worker (codes "w") 1 ∷ []) (codes "m" ∷ codes "w" ∷ []) ∷ program (worker (codes "w") 1 ∷ []) (codes "w" ∷ codes "m" ∷ []) ∷ [])
    (plan [] ∷ []) after

-- in the new version the points stand the other way round
abbrev updating : Scripts
updating =
    ((Create 1 (Num (pos 7)) ∷ Point 0 ∷ Tick ∷ MainReturn (pos 0) ∷ []) ∷ (Point 1 ∷ Tick ∷ []) ∷ []) ∷
    ((Point 1 ∷ Tick ∷ MainReturn (pos 0) ∷ []) ∷ (Point 0 ∷ Tick ∷ []) ∷ []) ∷ []

pub record UpdateRow : Type 0 where
  pub asked : (run updating (two_versions (1 ∷ [])) (0 ∷ [])).shared.marks ≡ Ask 1 1 0 ∷ []
  pub parked : standings (run updating (two_versions (1 ∷ [])) (0 ∷ 0 ∷ [])) ≡ Parked ∷ Live ∷ []
  pub at_rest : is_enabled (scripted updating) (run updating (two_versions (1 ∷ [])) (0 ∷ 0 ∷ [])) 0 ≡ false
  pub main_first : (run updating (two_versions (1 ∷ [])) (0 ∷ 0 ∷ 1 ∷ [])).shared.marks ≡ Ask 1 1 0 ∷ Close 3 1 (closed.Ok 0) ∷ []
  pub worker_first : (run updating (two_versions (1 ∷ [])) (0 ∷ 1 ∷ 0 ∷ [])).shared.marks ≡ Ask 1 1 0 ∷ Close 3 1 (closed.Ok 0) ∷ []
  -- both stand at their entries, the worker with its argument, and only `main` takes turns
  pub arguments : map (λ th. th.arguments) (run updating (two_versions (1 ∷ [])) (0 ∷ 0 ∷ 1 ∷ [])).threads ≡ [] ∷ (Num (pos 7) ∷ []) ∷ []
  pub main_alone : is_enabled (scripted updating) (run updating (two_versions (1 ∷ [])) (0 ∷ 0 ∷ 1 ∷ [])) 1 ≡ false
  pub there : (run updating (two_versions (1 ∷ [])) (0 ∷ 0 ∷ 1 ∷ 0 ∷ [])).shared.phase ≡ phase.Others
  pub back : (run updating (two_versions (1 ∷ [])) (0 ∷ 0 ∷ 1 ∷ 0 ∷ 1 ∷ [])).shared.marks ≡
      Ask 1 1 0 ∷ Close 3 1 (closed.Ok 0) ∷ MainThere 4 1 ∷ Back 5 1 ∷ []

pub update_row : UpdateRow
unfolding world_from layout place_cells struct_cells put
update_row = record {
  asked = refl;
  parked = refl;
  at_rest = refl;
  main_first = refl;
  worker_first = refl;
  arguments = refl;
  main_alone = refl;
  there = refl;
  back = refl;
}

-- a worker that has ended stays ended: the closing is that of `main` alone
abbrev after_an_end : World Script
after_an_end = run (((Create 1 (Num (pos 7)) ∷ Point 0 ∷ []) ∷ [] ∷ []) ∷ ((Point 1 ∷ []) ∷ []) ∷ []) (two_versions (1 ∷ [])) (0 ∷ 1 ∷ 0 ∷ 0 ∷ [])

pub record EndedRow : Type 0 where
  pub standings : standings after_an_end ≡ Live ∷ Ended ∷ []
  pub marks : after_an_end.shared.marks ≡ Ask 1 1 0 ∷ Close 3 1 (closed.Ok 0) ∷ MainThere 4 1 ∷ Back 4 1 ∷ []

pub ended_row : EndedRow
unfolding world_from layout place_cells struct_cells put
ended_row = record { standings = refl; marks = refl }

-- ---- what refuses a closing

-- `main` and a worker park after the request
abbrev parking : List Act → Scripts
parking before = ((Create 1 (Num (pos 7)) ∷ Point 0 ∷ MainReturn (pos 0) ∷ []) ∷ before ∷ []) ∷ []

abbrev with_new : Program → List GlobalRule → Job
with_new new globals = job (program (worker (codes "w") 1 ∷ []) (codes "m" ∷ codes "w" ∷ []) ∷ new ∷ []) (plan globals ∷ []) (1 ∷ [])

abbrev same_new : Program
same_new = program (worker (codes "w") 1 ∷ []) (codes "m" ∷ codes "w" ∷ [])

-- the mutex that the worker locked
abbrev held_run : World Script
held_run = run (parking (Lock m ∷ Point 1 ∷ Unlock m ∷ [])) (with_new same_new []) (0 ∷ 1 ∷ 0 ∷ 1 ∷ [])

-- no point of the worker's; a worker of another name; one whose parameter is a `char`
abbrev point_run : World Script
point_run = run (parking (Point 1 ∷ [])) (with_new (program (worker (codes "w") 1 ∷ []) (codes "m" ∷ [])) []) (0 ∷ 1 ∷ 0 ∷ [])

abbrev entry_run : List ℕ → ℕ → World Script
entry_run name t = run (parking (Point 1 ∷ [])) (with_new (program (worker name t ∷ []) (codes "m" ∷ codes "w" ∷ [])) []) (0 ∷ 1 ∷ 0 ∷ [])

-- a global whose rule divides by zero
abbrev dividing : Actions
dividing = Then (Assigned (Number (Operated operation.Divide 1
    (More (Constant' (constant.Number (pos 1)) 1) (More (Constant' (constant.Number (pos 0)) 1) NoMore))))) Done

abbrev rule_run : World Script
rule_run = run (parking (Point 1 ∷ []))
    (with_new same_new (record { ty = 1; count = 1; view = view.One; init = init.Zero; source = GlobalBody None dividing } ∷ [])) (0 ∷ 1 ∷ 0 ∷ [])

-- a global for which a rule makes an object of so many `int`s
abbrev with_pointer : Table
with_pointer = record scalar_table { types = scalar_table.types ++ ty.Ptr 1 ∷ [] }

abbrev making : ℕ → GlobalRule
making n = record { ty = 4; count = 1; view = view.Whole; init = init.Null; source = GlobalBody None (Then (Assigned (New 1 n)) Done) }

abbrev size_run : ℕ → World Script
size_run n = run (parking (Point 1 ∷ [])) (job (same_new ∷ same_new ∷ []) (record (plan (making n ∷ [])) { new = with_pointer } ∷ []) (1 ∷ [])) (0 ∷ 1 ∷ 0 ∷ [])

pub record RefusalRow : Type 0 where
  pub held : held_run.shared.marks ≡ Ask 1 1 0 ∷ Close 4 1 closed.Held ∷ []
  -- the threads go on past their points, in the old version
  pub going_on : standings held_run ≡ Live ∷ Live ∷ []
  pub version : held_run.shared.version ≡ 0
  pub point : point_run.shared.marks ≡ Ask 1 1 0 ∷ Close 3 1 (closed.Point 1) ∷ []
  pub name : (entry_run (codes "v") 1).shared.marks ≡ Ask 1 1 0 ∷ Close 3 1 (closed.Entry 1) ∷ []
  pub narrower : (entry_run (codes "w") 0).shared.marks ≡ Ask 1 1 0 ∷ Close 3 1 (closed.Entry 1) ∷ []
  pub wider : (entry_run (codes "w") 2).shared.marks ≡ Ask 1 1 0 ∷ Close 3 1 (closed.Ok 0) ∷ []
  pub rule : rule_run.shared.marks ≡ Ask 1 1 0 ∷ Close 3 1 (closed.At (record { place = GlobalCell 0 0; why = Rule trap.Zero })) ∷ []
  -- an object has at most 65,536 cells
  pub size : (size_run 65537).shared.marks ≡ Ask 1 1 0 ∷ Close 3 1 closed.Size ∷ []
  pub fits : (size_run 65536).shared.marks ≡ Ask 1 1 0 ∷ Close 3 1 (closed.Ok 0) ∷ []

pub refusal_row : RefusalRow
unfolding world_from layout place_cells struct_cells put
refusal_row = record { held = refl; going_on = refl; version = refl; point = refl; name = refl; narrower = refl; wider = refl; rule = refl; size = refl; fits = refl }

-- ---- two updates in a row, of which the second is asked for as the first one ends

abbrev only_main : Program
only_main = program [] (codes "m" ∷ [])

abbrev chain : Scripts
chain = ((Point 0 ∷ MainReturn (pos 0) ∷ []) ∷ []) ∷ ((Point 0 ∷ Point 0 ∷ MainReturn (pos 1) ∷ []) ∷ []) ∷ ((Point 0 ∷ MainReturn (pos 2) ∷ []) ∷ []) ∷ []

abbrev chain_job : Job
chain_job = job (only_main ∷ only_main ∷ only_main ∷ []) (plan [] ∷ plan [] ∷ []) (0 ∷ 0 ∷ [])

abbrev pub ChainRow : Type 0
ChainRow = (run chain chain_job (0 ∷ 0 ∷ 0 ∷ 0 ∷ 0 ∷ [])).shared.marks ≡
    Ask 0 1 0 ∷ Close 1 1 (closed.Ok 0) ∷ MainThere 2 1 ∷ Back 2 1 ∷ Ask 2 2 0 ∷ Close 3 2 (closed.Ok 0) ∷ MainThere 4 2 ∷ Back 4 2 ∷
    End 5 (end.Main (pos 2)) ∷ []

pub chain_row : ChainRow
unfolding world_from layout place_cells struct_cells put
chain_row = refl

-- ---- a waiter of a condition, which a signal wakes, and one that a request wakes

abbrev waking : Scripts
waking = ((Create 1 (Num (pos 0)) ∷ Lock m ∷ Signal m false ∷ Unlock m ∷ Join (pos 1) ∷ MainReturn (pos 0) ∷ []) ∷
    (Lock m ∷ Wait m ∷ Lock m ∷ Unlock m ∷ []) ∷ []) ∷ []

pub record SignalRow : Type 0 where
  pub waits : standings (run waking one_version (0 ∷ 1 ∷ 1 ∷ [])) ≡ Live ∷ Waiter (Glob 0) 0 ∷ []
  pub free : is_enabled (scripted waking) (run waking one_version (0 ∷ 1 ∷ 1 ∷ [])) 0 ≡ true
  pub asleep : is_enabled (scripted waking) (run waking one_version (0 ∷ 1 ∷ 1 ∷ 0 ∷ [])) 1 ≡ false
  pub woken : standings (run waking one_version (0 ∷ 1 ∷ 1 ∷ 0 ∷ 0 ∷ [])) ≡ Live ∷ Live ∷ []
  -- but `main` holds the mutex until its next turn
  pub locked_out : is_enabled (scripted waking) (run waking one_version (0 ∷ 1 ∷ 1 ∷ 0 ∷ 0 ∷ [])) 1 ≡ false
  pub let_in : is_enabled (scripted waking) (run waking one_version (0 ∷ 1 ∷ 1 ∷ 0 ∷ 0 ∷ 0 ∷ [])) 1 ≡ true
  pub ended : (run waking one_version (0 ∷ 1 ∷ 1 ∷ 0 ∷ 0 ∷ 0 ∷ 1 ∷ 1 ∷ 1 ∷ 0 ∷ 0 ∷ [])).shared.ended ≡ Some (end.Main (pos 0))

pub signal_row : SignalRow
unfolding world_from layout place_cells struct_cells put
signal_row = record { waits = refl; free = refl; asleep = refl; woken = refl; locked_out = refl; let_in = refl; ended = refl }

-- of two waiters a signal wakes the one with the least number, a broadcast both
abbrev two_waiters : Bool → Scripts
two_waiters all = ((Create 1 (Num (pos 0)) ∷ Create 1 (Num (pos 0)) ∷ Lock m ∷ Signal m all ∷ []) ∷ (Lock m ∷ Wait m ∷ Lock m ∷ Unlock m ∷ []) ∷ []) ∷ []

abbrev two_asleep : Bool → World Script
two_asleep all = run (two_waiters all) one_version (0 ∷ 0 ∷ 2 ∷ 2 ∷ 1 ∷ 1 ∷ 0 ∷ 0 ∷ [])

pub record WakeRow : Type 0 where
  pub one : standings (two_asleep false) ≡ Live ∷ Live ∷ Waiter (Glob 0) 0 ∷ []
  pub both : standings (two_asleep true) ≡ Live ∷ Live ∷ Live ∷ []

pub wake_row : WakeRow
unfolding world_from layout place_cells struct_cells put
wake_row = record { one = refl; both = refl }

abbrev asked_awake : Scripts
asked_awake = ((Create 1 (Num (pos 0)) ∷ Tick ∷ Tick ∷ Point 0 ∷ []) ∷ (Lock m ∷ Wait m ∷ Lock m ∷ Unlock m ∷ Point 1 ∷ []) ∷ []) ∷ []

pub record RequestRow : Type 0 where
  pub waits : standings (run asked_awake (two_versions (4 ∷ [])) (0 ∷ 1 ∷ 1 ∷ [])) ≡ Live ∷ Waiter (Glob 0) 0 ∷ []
  pub asked : (run asked_awake (two_versions (4 ∷ [])) (0 ∷ 1 ∷ 1 ∷ 0 ∷ [])).shared.marks ≡ Ask 4 1 1 ∷ []
  pub woken : standings (run asked_awake (two_versions (4 ∷ [])) (0 ∷ 1 ∷ 1 ∷ 0 ∷ [])) ≡ Live ∷ Live ∷ []

pub request_row : RequestRow
unfolding world_from layout place_cells struct_cells put
request_row = record { waits = refl; asked = refl; woken = refl }
