-- Typed worlds: each thread that has not ended is one of the version in force, each object has the cells of its element type as often as
-- its count says, and each cell, each kept value and each argument is of its type or undefined.
use Rattle.std.specs.Prelude.{◌≡◌, ℕ, ◌<◌, List, slice_get, Some}
use Rattle.std.specs.List.{AllByRecursion}
use Rattle.kt_mem.specs.declared.memory.Value.{Value}
use Rattle.kt_tree.specs.Tree.{Function}
use Rattle.kt_tree.specs.Version.{Program, IsProgram, head_of}
use Rattle.kt_meaning.specs.Laws.{IsShared}
use Rattle.kt_meaning.specs.Thread as tree
use Rattle.kt_meaning.specs.ThreadTypes.{IsThread}
use Rattle.kt_meaning.specs.Values.{AreIn}
use Rattle.xf_plan.specs.KeepsTypes.{AreKeptFor, HasGlobals, IsMemoryOf, KeepsTypes}
use Rattle.kt_world.specs.Job.{Job, Passage, passage_at, version_at}
use Rattle.kt_world.specs.Trees.{AreTurnsOf, world}
use Rattle.kt_world.specs.World.{Standing, Live, Waiter, Parked, Ended, Shared, Thread, World, outside_of}

-- ---- memory

-- what is shared is typed, where this version is in force
pub record IsTypedShared (p : Program) (s : Shared) : Type 0 where
  pub outside : IsShared (outside_of s)
  pub memory : IsMemoryOf p.types s.memory
  pub globals : HasGlobals p.globals s.memory
  pub kept : AreKeptFor p.types p.globals s.kept

-- ---- threads

-- the arguments are those of the function of that number, each of its type or undefined
pub record AreArguments (p : Program) (f : ℕ) (arguments : List Value) : Type 0 where
  pub function : Function
  pub function_is : slice_get p.functions f ≡ Some function
  pub values : AreIn p.types (head_of function).parameters arguments

pub record IsThreadOf (p : Program) (th : Thread tree.Thread) : Type 0 where
  pub thread : IsThread p th.state
  pub arguments : AreArguments p th.entry th.arguments

-- unless it has ended
abbrev pub IsTypedAs : Program → Standing → Thread tree.Thread → Type 0
IsTypedAs p Live th = IsThreadOf p th
IsTypedAs p (Waiter n k) th = IsThreadOf p th
IsTypedAs p Parked th = IsThreadOf p th
IsTypedAs p Ended th = Unit {0}

abbrev pub IsTypedThread : Program → Thread tree.Thread → Type 0
IsTypedThread p th = IsTypedAs p th.standing th

-- ---- worlds

-- a world in which this version is in force
pub record IsTypedIn (p : Program) (w : World tree.Thread) : Type 0 where
  pub shared : IsTypedShared p w.shared
  pub threads : AllByRecursion (IsTypedThread p) w.threads

-- the version in force is one of the job's, and the world is typed by it
pub record IsTypedWorld (job : Job) (w : World tree.Thread) : Type 0 where
  pub version : Program
  pub version_is : version_at job w.shared.version ≡ Some version
  pub typed : IsTypedIn version w

-- ---- jobs

-- the job's versions are programs, and each plan keeps types from its version to the next
pub record IsTypedJob (job : Job) : Type 0 where
  pub some : (p : Program) × (version_at job 0 ≡ Some p)
  pub versions : AllByRecursion IsProgram job.versions
  pub plans : (v : ℕ) (j : Passage) → passage_at job v ≡ Some j → KeepsTypes j.old j.new j.plan
  pub input : AllByRecursion (λ b. b < 256) job.input

-- ---- the law

-- Each world of such a job is typed.
abbrev pub WorldsAreTyped : Job → List ℕ → Type 0
WorldsAreTyped job turns = IsTypedJob job → AreTurnsOf job turns → IsTypedWorld job (world job turns)
