-- A world: what threads share, and the threads. A thread's private state is of a type X: a thread of the tree, or a state of the
-- machine. An engine says how it settles and steps, what an update sees of it, and where it begins, by the version in force.
use Rattle.std.specs.Prelude.{ℕ, List, [], ◌∷◌, ◌++◌, Option, Bool, true, false}
use Rattle.kt_mem.specs.Memory.{Memory}
use Rattle.kt_mem.specs.declared.memory.Name.{Name}
use Rattle.kt_mem.specs.declared.memory.Value.{Value}
use Rattle.kt_mem.specs.declared.thread.Mode.{Mode}
use Rattle.kt_meaning.specs.Effects as outside
use Rattle.kt_meaning.specs.Steps.{Step}
use Rattle.kt_meaning.specs.Thread.{Restart}
use Rattle.kt_phase.specs.declared.counters.Phase.{Phase}
use Rattle.kt_world.specs.declared.mark.End.{End}
use Rattle.kt_world.specs.declared.mark.Mark.{Mark}

-- a call that is open: the number of the function, and the values of its locals
pub record Call : Type 0 where
  pub function : ℕ
  pub locals : List Value

pub record Engine (X : Type 0) : Type 0 where
  pub settle : ℕ → X → X
  pub step : ℕ → X → Step X
  pub mode : X → Mode
  -- the open calls, the latest first
  pub calls : X → List Call
  -- a state at the entry of a function of a version, with these arguments and what an update leaves
  pub entry : ℕ → ℕ → List Value → Restart → X
  -- what is left of a state after the end of its thread: no call
  pub ended : X → X

pub data Standing : Type 0 where
  -- it takes turns
  Live : Standing
  -- it waits for the condition of the mutex so many cells behind the start of an object
  Waiter : Name → ℕ → Standing
  -- it stands at its point until the closing
  Parked : Standing
  Ended : Standing

-- its state is settled: it stands at its next act, trap or end
pub record Thread (X : Type 0) : Type 0 where
  -- the function with which it began, or began again, and its arguments there
  pub entry : ℕ
  pub arguments : List Value
  pub state : X
  pub standing : Standing

pub record Shared : Type 0 where
  -- the number of the version in force, counted from 0
  pub version : ℕ
  pub memory : Memory
  -- the values that an update kept for the cells of the version's globals, by number
  pub kept : List (Option (List Value))
  pub phase : Phase
  -- the rest of the list of turns after which requests are made
  pub after : List ℕ
  -- how many requests were made
  pub requests : ℕ
  -- the rest of the input
  pub input : List ℕ
  pub output : List ℕ
  -- the turns so far
  pub turns : ℕ
  pub marks : List Mark
  pub ended : Option End

pub record World (X : Type 0) : Type 0 where
  pub shared : Shared
  -- by number; thread 0 is `main`
  pub threads : List (Thread X)

-- ---- what acts on memory, input and output touch

abbrev pub outside_of : Shared → outside.Shared
outside_of s = record { memory = s.memory; input = s.input; output = s.output }

abbrev pub with_outside : Shared → outside.Shared → Shared
with_outside s o = record s { memory = o.memory; input = o.input; output = o.output }

-- ---- standing

-- a thread lives until it has ended
abbrev pub lives : Standing → Bool
lives Live = true
lives (Waiter n k) = true
lives Parked = true
lives Ended = false

abbrev pub is_parked : Standing → Bool
is_parked Live = false
is_parked (Waiter n k) = false
is_parked Parked = true
is_parked Ended = false

abbrev pub takes_turns : Standing → Bool
takes_turns Live = true
takes_turns (Waiter n k) = false
takes_turns Parked = false
takes_turns Ended = false

-- ---- marks

abbrev pub marked : Mark → Shared → Shared
marked m s = record s { marks = s.marks ++ m ∷ [] }
