-- The threads of a run at the barrier of an update: when a closing is due, when an update is over, and what each event
-- makes of the threads (whole-program update as in Kitsune; OOPSLA 2012, section 3).
use Rattle.std.specs.Prelude.{◌≡◌, ℕ, ◌&&◌, not, Bool, true, false, List, [], ◌∷◌, ◌++◌, map, filter, length, slice_set, if◌then◌else◌}
use Rattle.std.specs.List.{list_all}
use Rattle.kt_phase.specs.declared.counters.Phase.{Phase}
use Rattle.kt_phase.specs.declared.counters.Phase.TheVariants.{Run, Asked, Main, Others}
use Rattle.kt_phase.specs.Counters.{Counters, is_asked, is_others}

-- a thread takes turns, waits parked at its point for the closing, or has ended
pub data Standing : Type 0 where
  Running : Standing
  Parked : Standing
  Ended : Standing

-- a thread, and whether it is on its way from its entry to its point after an update
pub record Thread : Type 0 where
  pub standing : Standing
  pub updating : Bool

-- a run's phase and threads; thread 0 is `main`
pub record Barrier : Type 0 where
  pub phase : Phase
  pub threads : List Thread

-- a thread lives until it has ended
abbrev pub lives : Standing → Bool
lives Running = true
lives Parked = true
lives Ended = false

abbrev pub waits : Standing → Bool
waits Running = false
waits Parked = true
waits Ended = false

abbrev pub is_live : Thread → Bool
is_live t = lives t.standing

abbrev pub is_parked : Thread → Bool
is_parked t = waits t.standing

abbrev pub is_updating : Thread → Bool
is_updating t = lives t.standing && t.updating

-- how many threads are such
abbrev pub count_of : (Thread → Bool) → List Thread → ℕ
count_of is threads = length (filter is threads)

-- the counters are the numbers of such threads
pub record StandsFor (c : Counters) (b : Barrier) : Type 0 where
  pub phase : c.phase ≡ b.phase
  pub live : c.live ≡ count_of is_live b.threads
  pub parked : c.parked ≡ count_of is_parked b.threads
  pub updating : c.updating ≡ count_of is_updating b.threads

-- all live threads are parked
abbrev pub are_parked : List Thread → Bool
are_parked threads = list_all (λ t. if is_live t then is_parked t else true) threads

-- no live thread is updating
abbrev pub are_back : List Thread → Bool
are_back threads = list_all (λ t. not (is_updating t)) threads

-- a closing is due: an update is asked for, and all live threads are parked
abbrev pub is_closing_due : Barrier → Bool
is_closing_due b = is_asked b.phase && are_parked b.threads

-- an update is over: `main` came to its point, and no live thread is updating
abbrev pub is_update_over : Barrier → Bool
is_update_over b = is_others b.phase && are_back b.threads

-- once an update is over, the run goes on as before it
abbrev pub resumed : Barrier → Barrier
resumed b = if is_update_over b then record b { phase = Run } else b

-- thread t is this one now
abbrev pub with_thread : ℕ → Thread → Barrier → Barrier
with_thread t thread b = record b { threads = slice_set b.threads t thread }

-- a thread that begins takes turns and is not updating
abbrev pub new_thread : Thread
new_thread = record { standing = Running; updating = false }

-- at a run's start there is `main` alone
abbrev pub at_start : Barrier
at_start = record { phase = Run; threads = new_thread ∷ [] }

-- a thread was made
abbrev pub after_making : Barrier → Barrier
after_making b = record b { threads = b.threads ++ new_thread ∷ [] }

-- an update is asked for
abbrev pub after_asking : Barrier → Barrier
after_asking b = record b { phase = Asked }

-- thread t, which was this one, parked at its point
abbrev pub after_parking : ℕ → Thread → Barrier → Barrier
after_parking t thread b = with_thread t (record thread { standing = Parked }) b

-- a parked thread goes on past its point
abbrev pub unparked : Thread → Thread
unparked t = if is_parked t then record t { standing = Running } else t

-- the closing was refused: all parked threads go on past their points
abbrev pub after_refusal : Barrier → Barrier
after_refusal b = record { phase = Run; threads = map unparked b.threads }

-- a live thread starts again
abbrev pub restarted : Thread → Thread
restarted t = if is_live t then record { standing = Running; updating = true } else t

-- the closing was an update: all live threads start again, and `main` first
abbrev pub after_restart : Barrier → Barrier
after_restart b = record { phase = Main; threads = map restarted b.threads }

-- thread t, which was this one, came to its point after the update
abbrev pub after_return : ℕ → Thread → Barrier → Barrier
after_return t thread b = with_thread t (record thread { updating = false }) b

-- `main`, which was this thread, came to its point after the update
abbrev pub after_main : Thread → Barrier → Barrier
after_main main b = record (after_return 0 main b) { phase = Others }

-- thread t, which was this one, ended
abbrev pub after_end : ℕ → Thread → Barrier → Barrier
after_end t thread b = with_thread t (record thread { standing = Ended }) b
