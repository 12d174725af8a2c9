-- What holds of each world of a job.
use Rattle.std.specs.Prelude.{◌≡◌, ℕ, ◌<◌, ◌≤◌, IsTrue, List, [], length, map, Option, Some, None, slice_get}
use Rattle.std.specs.List.{All, AllByRecursion}
use Rattle.kt_types.specs.declared.kinds.Ty.TheVariants as ty
use Rattle.kt_mem.specs.declared.memory.Name.TheVariants.{Glob}
use Rattle.kt_mem.specs.declared.memory.Value.{Value}
use Rattle.kt_mem.specs.Memory.{Object, Memory}
use Rattle.kt_tree.specs.declared.global.GlobalDecl.{GlobalDecl}
use Rattle.kt_tree.specs.Version.{Program, IsProgram}
use Rattle.kt_meaning.specs.Laws.{IsShared}
use Rattle.kt_meaning.specs.Thread as tree
use Rattle.kt_meaning.specs.ThreadTypes.{IsThread}
use Rattle.kt_meaning.specs.Values.{is_of}
use Rattle.kt_lone.specs.Job.{Job, version_at, types_of}
use Rattle.kt_lone.specs.Update.{global_object}
use Rattle.kt_lone.specs.World.{Standing, Live, Parked, Ended, Thread, World, outside_of}

-- ---- each world

abbrev pub globals_of : Option Program → List GlobalDecl
globals_of None = []
globals_of (Some p) = p.globals

-- the object has the type, the count and the types of cells of this one
pub record IsShapedAs (o model : Object) : Type 0 where
  pub ty : o.ty ≡ model.ty
  pub count : o.count ≡ model.count
  pub cells : map (λ c. c.ty) o.cells ≡ map (λ c. c.ty) model.cells

-- each of these globals has its object
abbrev pub HasGlobals : Option Program → Memory → Type 0
HasGlobals p m = (i : ℕ) (g : GlobalDecl) → slice_get (globals_of p) i ≡ Some g →
    (o : Object) × (m.at (Glob i) ≡ Some o) × IsShapedAs o (global_object 0 (types_of p) g)

pub record IsWellFormed {X : Type 0} (job : Job) (w : World X) : Type 0 where
  -- the version in force is one of the job's, where the job has any
  pub version : 0 < length job.versions → w.shared.version < length job.versions
  -- memory has the object of each of its globals
  pub memory : HasGlobals (version_at job w.shared.version) w.shared.memory
  -- each kept value is for one of its globals
  pub kept : length w.shared.kept ≤ length (globals_of (version_at job w.shared.version))
  -- there is exactly one thread
  pub alone : length w.threads ≡ 1

-- ---- each world of a job whose versions are programs

pub record IsTypedJob (job : Job) : Type 0 where
  pub versions : All IsProgram job.versions
  pub input : AllByRecursion (λ b. b < 256) job.input

-- a value of `int`, where one is kept
abbrev pub IsIntIfSome : Option Value → Type 0
IsIntIfSome None = Unit {0}
IsIntIfSome (Some v) = IsTrue (is_of ty.Int v)

-- a thread of the version
abbrev pub IsThreadOf : Option Program → tree.Thread → Type 0
IsThreadOf None x = Unit {0}
IsThreadOf (Some p) x = IsThread p x

-- unless it has ended
abbrev pub IsTypedThread : Option Program → Standing → tree.Thread → Type 0
IsTypedThread p Live x = IsThreadOf p x
IsTypedThread p Parked x = IsThreadOf p x
IsTypedThread p Ended x = Unit {0}

pub record IsTypedWorld (job : Job) (w : World tree.Thread) : Type 0 where
  -- each cell of memory is of its type, each byte of the input is one, and not too much was written
  pub shared : IsShared (outside_of w.shared)
  pub kept : All IsIntIfSome w.shared.kept
  -- each thread that has not ended is one of the version in force
  pub threads : All (λ (th : Thread tree.Thread). IsTypedThread (version_at job w.shared.version) th.standing th.state) w.threads
