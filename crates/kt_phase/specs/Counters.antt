-- The phase of a run, and the numbers of its threads that live, are parked and are updating: when a closing is due, when an
-- update is over, and the counters after each event.
use Rattle.std.specs.Prelude.{ℕ, ◌+◌, ◌-◌, ◌==◌, ◌&&◌, Bool, true, false, if◌then◌else◌}
use Rattle.kt_phase.specs.declared.counters.Phase.{Phase}
use Rattle.kt_phase.specs.declared.counters.Phase.TheVariants.{Run, Asked, Main, Others}

-- the phase, and how many threads live, are parked, and are on their way to their points after an update
pub record Counters : Type 0 where
  pub phase : Phase
  pub live : ℕ
  pub parked : ℕ
  pub updating : ℕ

-- an update is asked for
abbrev pub is_asked : Phase → Bool
is_asked Run = false
is_asked Asked = true
is_asked Main = false
is_asked Others = false

-- threads other than `main` are on their way to their points
abbrev pub is_others : Phase → Bool
is_others Run = false
is_others Asked = false
is_others Main = false
is_others Others = true

-- a closing is due: an update is asked for, and all live threads are parked
abbrev pub is_closing_due : Counters → Bool
is_closing_due c = is_asked c.phase && (c.parked == c.live)

-- an update is over: `main` came to its point, and no live thread is updating
abbrev pub is_update_over : Counters → Bool
is_update_over c = is_others c.phase && (c.updating == 0)

-- once an update is over, the run goes on as before it
abbrev pub resumed : Counters → Counters
resumed c = if is_update_over c then record c { phase = Run } else c

-- at a run's start `main` alone lives
abbrev pub at_start : Counters
at_start = record { phase = Run; live = 1; parked = 0; updating = 0 }

-- a thread was made
abbrev pub after_making : Counters → Counters
after_making c = record c { live = c.live + 1 }

-- an update is asked for
abbrev pub after_asking : Counters → Counters
after_asking c = record c { phase = Asked }

-- a thread parked
abbrev pub after_parking : Counters → Counters
after_parking c = record c { parked = c.parked + 1 }

-- the closing was refused: no thread is parked any more
abbrev pub after_refusal : Counters → Counters
after_refusal c = record c { phase = Run; parked = 0 }

-- the closing was an update: each live thread is updating
abbrev pub after_restart : Counters → Counters
after_restart c = record c { phase = Main; parked = 0; updating = c.live }

-- `main` came to its point
abbrev pub after_main : Counters → Counters
after_main c = record c { phase = Others; updating = c.updating - 1 }

-- another thread came to its point
abbrev pub after_return : Counters → Counters
after_return c = record c { updating = c.updating - 1 }

-- a thread ended, which was updating or not
abbrev pub after_end : Bool → Counters → Counters
after_end updating c = record c { live = c.live - 1; updating = if updating then c.updating - 1 else c.updating }
