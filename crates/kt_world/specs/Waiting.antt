-- Which threads may take a turn.
use Rattle.std.specs.Prelude.{ℕ, ℤ, pos, zero, suc, ◌==◌, ◌&&◌, ◌||◌, not, Bool, true, false, List, [], ◌∷◌, Option, None, Some, slice_get}
use Rattle.kt_mem.specs.declared.steps.Act.{Act}
use Rattle.kt_mem.specs.declared.steps.Act.TheVariants as act
use Rattle.kt_mem.specs.Memory.{waits}
use Rattle.kt_meaning.specs.Steps.{Step, Acts}
use Rattle.kt_phase.specs.declared.counters.Phase.{Phase}
use Rattle.kt_phase.specs.declared.counters.Phase.TheVariants.{Run, Asked, Main, Others}
use Rattle.kt_world.specs.World.{Engine, Thread, World, lives, takes_turns}

-- ---- joining

abbrev pub if_other : {Y : Type 0} → Bool → Option Y → Option Y
if_other true o = None
if_other false o = o

-- the thread of a number, where thread t may join it: one that was made, neither `main` nor itself
abbrev pub joined_at : {X : Type 0} → List (Thread X) → ℕ → ℕ → Option (Thread X)
joined_at threads t zero = None
joined_at threads t (suc n) = if_other (suc n == t) (slice_get threads (suc n))

abbrev pub joined : {X : Type 0} → List (Thread X) → ℕ → ℤ → Option (Thread X)
joined threads t (pos n) = joined_at threads t n
joined threads t z = None

abbrev pub is_running : {X : Type 0} → Option (Thread X) → Bool
is_running None = false
is_running (Some th) = lives th.standing

-- ---- waiting

-- at a lock of a mutex that another thread holds, or at a join of a thread that lives
abbrev pub waits_at : {X : Type 0} → World X → ℕ → Act → Bool
waits_at w t (act.Lock p) = waits w.shared.memory t p
waits_at w t (act.Join n) = is_running (joined w.threads t n)
waits_at w t a = false

abbrev pub is_waiting : {X : Type 0} → World X → ℕ → Step X → Bool
is_waiting w t (Acts a go) = waits_at w t a
is_waiting w t s = false

-- ---- enabled

-- while `main` is on its way, it alone takes turns
abbrev pub is_turnable : Phase → ℕ → Bool
is_turnable Run t = true
is_turnable Asked t = true
is_turnable Main t = t == 0
is_turnable Others t = true

abbrev pub enabled_as : {X : Type 0} → Engine X → World X → ℕ → Thread X → Bool
enabled_as e w t th =
    takes_turns th.standing && is_turnable w.shared.phase t && not (is_waiting w t (e.step w.shared.version th.state))

abbrev pub enabled_if : {X : Type 0} → Engine X → World X → ℕ → Option (Thread X) → Bool
enabled_if e w t None = false
enabled_if e w t (Some th) = enabled_as e w t th

-- the thread lives, isn't parked, waits for no condition, lock or end, and while `main` is on its way it is `main`
abbrev pub is_enabled : {X : Type 0} → Engine X → World X → ℕ → Bool
is_enabled e w t = enabled_if e w t (slice_get w.threads t)

-- one of these threads, counted from t, is
abbrev pub any_enabled : {X : Type 0} → Engine X → World X → ℕ → List (Thread X) → Bool
any_enabled e w t [] = false
any_enabled e w t (th ∷ rest) = enabled_as e w t th || any_enabled e w (suc t) rest
