-- Acts: what a turn of a thread does first. Acts on memory, input and output have the effects of the meaning of threads; the others
-- are here: threads made and joined, conditions, points, kept values, ends.
use Rattle.std.specs.Prelude.{ℕ, pos, nat_le, ◌==◌, ◌&&◌, Bool, true, false, List, [], ◌∷◌, ◌++◌, map, length, Option, None, Some, Result, Ok, Err, slice_get, slice_set, if◌then◌else◌}
use Rattle.std.specs.Option.{option_map}
use Rattle.kt_types.specs.Table.{Table}
use Rattle.kt_mem.specs.declared.memory.Name.{Name}
use Rattle.kt_mem.specs.declared.memory.Name.TheVariants.{Glob}
use Rattle.kt_mem.specs.declared.memory.Value.{Value}
use Rattle.kt_mem.specs.declared.memory.Value.TheVariants.{Num, Ptr}
use Rattle.kt_mem.specs.declared.steps.Act.{Act}
use Rattle.kt_mem.specs.declared.steps.Act.TheVariants as act
use Rattle.kt_mem.specs.declared.steps.Reply.{Reply}
use Rattle.kt_mem.specs.declared.steps.Reply.TheVariants.{Done, Got, Trapped}
use Rattle.kt_mem.specs.declared.steps.Trap.{Trap}
use Rattle.kt_mem.specs.declared.steps.Trap.TheVariants as trap
use Rattle.kt_mem.specs.declared.thread.Mode.{Mode}
use Rattle.kt_mem.specs.declared.thread.Mode.TheVariants.{Normal, Updating}
use Rattle.kt_mem.specs.Memory.{Memory, Object, Cell, unlock, signal}
use Rattle.kt_mem.specs.Values.{name_eq}
use Rattle.kt_meaning.specs.Effects as outside
use Rattle.kt_meaning.specs.Effects.{Outcome, Replies, Waits, Elsewhere}
use Rattle.kt_meaning.specs.Steps.{Step, Quiet, Acts, Traps, Ends, after_reply}
use Rattle.kt_phase.specs.declared.counters.Phase.{Phase}
use Rattle.kt_phase.specs.declared.counters.Phase.TheVariants.{Run, Asked}
use Rattle.kt_world.specs.declared.mark.End.{End}
use Rattle.kt_world.specs.declared.mark.End.TheVariants as end
use Rattle.kt_world.specs.Waiting.{joined}
use Rattle.kt_world.specs.World.{Engine, Shared, Standing, Live, Waiter, Parked, Ended, Thread, World, outside_of, with_outside}

-- ---- how a thread goes on

-- the thread of that number is this one now
abbrev pub with_thread : {X : Type 0} → World X → ℕ → Thread X → World X
with_thread w t th = record w { threads = slice_set w.threads t th }

abbrev pub with_end : {X : Type 0} → World X → End → World X
with_end w how = record w { shared = record w.shared { ended = Some how } }

abbrev pub with_shared : {X : Type 0} → World X → Shared → World X
with_shared w s = record w { shared = s }

-- the thread after a reply to its act, through its quiet steps
abbrev pub gone_on : {X : Type 0} → Engine X → ℕ → Thread X → Reply → Thread X
gone_on e v th r = record th { state = e.settle v (after_reply th.state (e.step v th.state) r) }

-- the thread goes on after the reply; after a trap it stays, and the run ends
abbrev pub answered : {X : Type 0} → Engine X → World X → ℕ → Thread X → Reply → World X
answered e w t th (Trapped cause) = with_end w (end.Trap t cause)
answered e w t th r = with_thread w t (gone_on e w.shared.version th r)

-- ---- threads made and joined

-- a thread that begins in the version in force
abbrev pub new_thread : {X : Type 0} → Engine X → ℕ → ℕ → Value → Thread X
new_thread e v f a = record {
  entry = f;
  arguments = a ∷ [];
  state = e.settle v (e.entry v f (a ∷ []) (record { mode = Normal; kept = [] }));
  standing = Live;
}

abbrev pub with_new : {X : Type 0} → World X → Thread X → World X
with_new w th = record w { threads = w.threads ++ th ∷ [] }

-- at most 64 threads are made; the new one has the next number
abbrev pub created : {X : Type 0} → Engine X → World X → ℕ → Thread X → ℕ → Value → World X
created e w t th f a =
    if nat_le 65 (length w.threads) then answered e w t th (Trapped trap.Threads)
    else answered e (with_new w (new_thread e w.shared.version f a)) t th (Got (Num (pos (length w.threads))))

-- a thread that may be joined has ended; others are `main`, itself, or not made
abbrev pub joins : {X : Type 0} → Engine X → World X → ℕ → Thread X → Option (Thread X) → World X
joins e w t th None = answered e w t th (Trapped trap.Thread)
joins e w t th (Some other) = answered e w t th Done

-- ---- conditions

-- in phase `Run` a thread that let the mutex of a cell go waits for its condition
abbrev pub waiting_in : Phase → Value → Standing
waiting_in Run (Ptr n k) = Waiter n k
waiting_in phase p = Live

-- a wait is answered at once: the thread's next act is the lock of the same mutex
abbrev pub waited : {X : Type 0} → Engine X → World X → ℕ → Thread X → Value → Result Memory Trap → World X
waited e w t th p (Err cause) = answered e w t th (Trapped cause)
waited e w t th p (Ok m) =
    answered e (with_shared w (record w.shared { memory = m })) t (record th { standing = waiting_in w.shared.phase p }) Done

-- the thread waits for the condition of this cell
abbrev pub waits_for : Value → Standing → Bool
waits_for (Ptr n k) (Waiter o j) = name_eq n o && (k == j)
waits_for p s = false

abbrev pub awake : {X : Type 0} → Thread X → Thread X
awake th = record th { standing = Live }

-- all waiters of the cell wake, or the one with the least number
abbrev pub woken_all : {X : Type 0} → Value → List (Thread X) → List (Thread X)
woken_all p threads = map (λ th. if waits_for p th.standing then awake th else th) threads

abbrev pub woken_first : {X : Type 0} → Value → List (Thread X) → List (Thread X)
woken_first p [] = []
woken_first p (th ∷ rest) = if waits_for p th.standing then awake th ∷ rest else th ∷ woken_first p rest

abbrev pub woken : {X : Type 0} → Bool → Value → List (Thread X) → List (Thread X)
woken true p threads = woken_all p threads
woken false p threads = woken_first p threads

abbrev pub signalled : {X : Type 0} → Engine X → World X → ℕ → Thread X → Value → Bool → Result Memory Trap → World X
signalled e w t th p all (Err cause) = answered e w t th (Trapped cause)
signalled e w t th p all (Ok m) = answered e (record w { threads = woken all p w.threads }) t th Done

-- ---- updates

-- a thread on its way nowhere parks where an update is asked for; any other one goes on, and one on its way to this point has come
-- there
abbrev pub at_point : {X : Type 0} → Engine X → World X → ℕ → Thread X → Mode → Phase → World X
at_point e w t th Normal Asked = with_thread w t (record th { standing = Parked })
at_point e w t th mode phase = answered e w t th Done

-- cells with these values, each of its own type as before
abbrev pub with_values : List Cell → List Value → List Cell
with_values [] values = []
with_values cells [] = cells
with_values (c ∷ cells) (v ∷ values) = record c { value = v } ∷ with_values cells values

abbrev pub placed_into : Option (Option (List Value)) → Option Object → Option Object
placed_into (Some (Some values)) o = option_map (λ (x : Object). record x { cells = with_values x.cells values }) o
placed_into kept o = o

abbrev pub placed_at : List (Option (List Value)) → Memory → Name → Option Object
placed_at kept m (Glob i) = placed_into (slice_get kept i) (m.at (Glob i))
placed_at kept m n = m.at n

-- the kept values stand in the cells of the globals of their numbers
abbrev pub placed : List (Option (List Value)) → Memory → Memory
placed kept m = record m { at = placed_at kept m }

-- a thread on its way has all kept values placed at once, and takes them away
abbrev pub migrated : Mode → Shared → Shared
migrated Normal s = s
migrated (Updating p) s = record s { memory = placed s.kept s.memory; kept = [] }

-- ---- acts

-- acts on threads and updates
abbrev pub elsewhere : {X : Type 0} → Engine X → World X → ℕ → Thread X → Act → World X
elsewhere e w t th (act.Create f a) = created e w t th f a
elsewhere e w t th (act.Join n) = joins e w t th (joined w.threads t n)
elsewhere e w t th (act.Wait p) = waited e w t th p (unlock w.shared.memory t p)
elsewhere e w t th (act.Signal p all) = signalled e w t th p all (signal w.shared.memory p)
elsewhere e w t th (act.Point p) = at_point e w t th (e.mode th.state) w.shared.phase
elsewhere e w t th act.Automigrate = answered e (with_shared w (migrated (e.mode th.state) w.shared)) t th Done
elsewhere e w t th _ = w

abbrev pub on_outcome : {X : Type 0} → Engine X → World X → ℕ → Thread X → Act → Outcome → World X
on_outcome e w t th a (Replies r o) = answered e (with_shared w (with_outside w.shared o)) t th r
on_outcome e w t th a Waits = w
on_outcome e w t th a Elsewhere = elsewhere e w t th a

-- the last act of a thread
abbrev pub ends : {X : Type 0} → Engine X → World X → ℕ → Thread X → Act → World X
ends e w t th act.ThreadEnd = with_thread w t (record th { state = e.ended th.state; standing = Ended })
ends e w t th (act.MainReturn n) = with_end w (end.Main n)
ends e w t th _ = w

-- the effect of what the thread stands at, where the version in force has these types
abbrev pub effect : {X : Type 0} → Engine X → Table → World X → ℕ → Thread X → Step X → World X
effect e types w t th (Quiet x) = w
effect e types w t th (Acts a go) = on_outcome e w t th a (outside.effect types t a (outside_of w.shared))
effect e types w t th (Traps cause) = with_end w (end.Trap t cause)
effect e types w t th (Ends a) = ends e w t th a

abbrev pub act_of : {X : Type 0} → Engine X → Table → World X → ℕ → Option (Thread X) → World X
act_of e types w t None = w
act_of e types w t (Some th) = effect e types w t th (e.step w.shared.version th.state)

-- the act of the thread of that number
abbrev pub acted : {X : Type 0} → Engine X → Table → World X → ℕ → World X
acted e types w t = act_of e types w t (slice_get w.threads t)
