-- The engine of the machine: threads run the code of the version in force. A machine as a world.
use Rattle.std.specs.Prelude.{◌≡◌, false, ℕ, List, [], ◌∷◌, map, Option, Some, None, slice_get}
use Rattle.std.specs.List.{AllByRecursion}
use Rattle.kt_types.specs.Table.{Table}
use Rattle.kt_mem.specs.declared.steps.Act.TheVariants as act
use Rattle.kt_mem.specs.declared.steps.Trap.TheVariants as trap
use Rattle.kt_mem.specs.declared.thread.Mode.{Mode}
use Rattle.kt_tree.specs.Tree.{Function}
use Rattle.kt_meaning.specs.Laws.{IsShared, numbered}
use Rattle.kt_meaning.specs.Steps.{Step, Traps}
use Rattle.kt_code.specs.Code.{Code}
use Rattle.kt_code.specs.Machine as code
use Rattle.kt_code.specs.Settling as settling
use Rattle.kt_code.specs.declared.private.Head.{Head}
use Rattle.kt_code.specs.declared.private.Head.TheVariants as head
use Rattle.kt_code.specs.declared.private.Private.{Private}
use Rattle.kt_mem.specs.Renaming.{Pairs}
use Rattle.kt_exec.specs.Renaming.{IsOld, PrivateIn}
use Rattle.kt_pair.specs.Pair.{Pair}
use Rattle.kt_pair.specs.VersionActs.{DoesVersion, FitsEntries, entry_state}
use Rattle.kt_lone.specs.Job.{Job, types_at}
use Rattle.kt_lone.specs.Turn.{acted, has_ended, main_of, restart_in}
use Rattle.kt_lone.specs.World.{Engine, Standing, Thread, World, outside_of}
use Rattle.kt_lone.specs.World as world
use Rattle.kt_machine.specs.declared.machine.Machine.{Machine}
use Rattle.kt_machine.specs.declared.machine.Standing as declared
use Rattle.kt_machine.specs.declared.machine.Standing.TheVariants as standing
use Rattle.kt_machine.specs.ByNumber.{private_by}
use Rattle.kt_machine.specs.Outside.{IsComplete, pairs_in}
use Rattle.kt_machine.specs.Shared.{shared_of}

-- ---- the engine

-- without a frame: what stands where a version lacks `main`, which none does
abbrev pub no_frames : ℕ → Mode → Private
no_frames v mode = record { version = v; frames = []; operands = []; mode = mode; locals = [] }

abbrev pub entry_at : ℕ → Mode → ℕ → Function → Option ℕ → Private
entry_at v mode g f None = no_frames v mode
entry_at v mode g f (Some at) = entry_state v at g f [] (restart_in mode)

abbrev pub entry_of : ℕ → Mode → Code → Option (ℕ × Function) → Private
entry_of v mode c None = no_frames v mode
entry_of v mode c (Some main) = entry_at v mode main.0 main.1 (slice_get c.entries main.0)

-- `main` of version v at its entry
abbrev pub code_entry : ℕ → Mode → Option Pair → Private
code_entry v mode None = no_frames v mode
code_entry v mode (Some c) = entry_of v mode c.code (main_of c.program)

abbrev pub code_settle : Option Pair → Private → Private
code_settle None x = x
code_settle (Some c) x = settling.settle c.code x

abbrev pub code_step : Option Pair → Private → Step Private
code_step None x = Traps trap.Uninit
code_step (Some c) x = code.step c.code x

-- threads of the codes of a job's versions, in order
abbrev pub code_engine : List Pair → Engine Private
code_engine codes = record {
  settle = λ v. code_settle (slice_get codes v);
  step = λ v. code_step (slice_get codes v);
  mode = λ x. x.mode;
  entry = λ v mode. code_entry v mode (slice_get codes v);
}

-- each code does the acts of its version, and the states at which its threads begin fit it
abbrev pub DoesActs : Pair → Type 0
DoesActs c = ((n : ℕ) → DoesVersion (numbered c.program n) c.code) × ((n : ℕ) → FitsEntries (numbered c.program n) c.code)

-- the codes are those of the job's versions
pub record AreCodesOf (job : Job) (codes : List Pair) : Type 0 where
  pub versions : map (λ c. c.program) codes ≡ job.versions
  pub acts : AllByRecursion DoesActs codes

-- ---- a machine as a world

-- each address that was given out, and the heap number of its object
abbrev pub pairs_of : Machine → Pairs
pairs_of m = pairs_in m.shared.outside

abbrev pub standing_of : declared.Standing → Standing
standing_of standing.Live = world.Live
standing_of standing.Parked = world.Parked
standing_of standing.Ended = world.Ended

-- the one thread of a machine, by heap number
abbrev pub thread_of : Machine → Thread Private
thread_of m = record { state = private_by (pairs_of m) m.private; standing = standing_of m.standing }

abbrev pub world_of : Machine → World Private
world_of m = record { shared = shared_of m.shared; threads = thread_of m ∷ [] }

-- of a thread that has ended nothing is kept but its version and its mode
abbrev pub left_to : Standing → Private → Private
left_to world.Live x = x
left_to world.Parked x = x
left_to world.Ended x = no_frames x.version x.mode

abbrev pub left_thread : Thread Private → Thread Private
left_thread th = record { state = left_to th.standing th.state; standing = th.standing }

abbrev pub without_ended : World Private → World Private
without_ended w = record w { threads = map left_thread w.threads }

-- the thread has taken its quiet steps and stands at this head, and its state fits its code
pub record StandsAt (c : Option Pair) (x : Private) (h : Head) : Type 0 where
  pub head : settling.head_of (code_step c x) ≡ Some h
  pub fits : (p : Pair) → c ≡ Some p → settling.Fits p.code x

-- the thread stands at a point
abbrev pub IsPointHead : Head → Type 0
IsPointHead (head.Act (act.Point p)) = Unit {0}
IsPointHead h = ⊥

-- what a machine's thread stands at is what it keeps, unless the thread has ended; where it is parked, that is a point; each
-- address in its state was given out; of a thread that has ended nothing else is kept
pub record IsSettled (codes : List Pair) (m : Machine) : Type 0 where
  pub stands : has_ended (standing_of m.standing) ≡ false → StandsAt (slice_get codes m.shared.version) m.private m.head
  pub parked : m.standing ≡ standing.Parked → IsPointHead m.head
  pub names : PrivateIn (IsOld (pairs_of m)) m.private
  pub ended : m.standing ≡ standing.Ended → m.private ≡ no_frames m.private.version m.private.mode

abbrev pub IsCompleteHead : Table → Head → Type 0
IsCompleteHead types (head.Act a) = IsComplete types a
IsCompleteHead types (head.Trap t) = Unit {0}

-- what its turns ask of a machine: typed memory, input and output, before its act and after it, and what it allocates is
-- complete
pub record IsReady (job : Job) (codes : List Pair) (m : Machine) : Type 0 where
  pub shared : IsShared (outside_of (shared_of m.shared))
  pub after : IsShared (outside_of (acted (code_engine codes) job (world_of m) 0).shared)
  pub complete : IsCompleteHead (types_at job m.shared.version) m.head
