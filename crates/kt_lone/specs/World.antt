-- A world: what threads share, and the threads. A thread's private state is of a type X: a thread of the tree, or a state
-- of the machine. An engine says how it settles and steps and where it begins, by the version in force.
use Rattle.std.specs.Prelude.{ℕ, List, Option}
use Rattle.kt_mem.specs.Memory.{Memory}
use Rattle.kt_mem.specs.declared.memory.Value.{Value}
use Rattle.kt_mem.specs.declared.thread.Mode.{Mode}
use Rattle.kt_meaning.specs.Steps.{Step}
use Rattle.kt_meaning.specs.Effects as outside
use Rattle.kt_lone.specs.declared.mark.End.{End}
use Rattle.kt_lone.specs.declared.mark.Mark.{Mark}
use Rattle.kt_lone.specs.declared.mark.Phase.{Phase}

-- how threads settle and step in the version of that number, which mode they are in, and where `main` begins
pub record Engine (X : Type 0) : Type 0 where
  pub settle : ℕ → X → X
  pub step : ℕ → X → Step X
  pub mode : X → Mode
  pub entry : ℕ → Mode → X

-- a thread lives and takes turns, waits at its point for the closing, or has ended
pub data Standing : Type 0 where
  Live : Standing
  Parked : Standing
  Ended : Standing

-- its state is settled: it stands at its next act, trap or end
pub record Thread (X : Type 0) : Type 0 where
  pub state : X
  pub standing : Standing

pub record Shared : Type 0 where
  -- the number of the version in force, counted from 0
  pub version : ℕ
  pub memory : Memory
  -- the values that an update kept for the new version's globals, by number
  pub kept : List (Option Value)
  pub phase : Phase
  -- the rest of the list of turns after which requests are made
  pub after : List ℕ
  -- how many requests were made
  pub requests : ℕ
  -- the rest of the input
  pub input : List ℕ
  pub output : List ℕ
  -- the turns so far
  pub turns : ℕ
  pub marks : List Mark
  pub ended : Option End

pub record World (X : Type 0) : Type 0 where
  pub shared : Shared
  -- by number; thread 0 is `main`
  pub threads : List (Thread X)

-- what acts on memory, input and output touch
abbrev pub outside_of : Shared → outside.Shared
outside_of s = record { memory = s.memory; input = s.input; output = s.output }

abbrev pub with_outside : Shared → outside.Shared → Shared
with_outside s o = record s { memory = o.memory; input = o.input; output = o.output }
