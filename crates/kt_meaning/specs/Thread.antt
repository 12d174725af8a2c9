-- Threads: frames of functions, each with its locals and the work that is left, and what an update left to the thread.
use Rattle.std.specs.Prelude.{ℕ, suc, ◌-◌, ◌==◌, ◌&&◌, Bool, true, false, List, [], ◌∷◌, ◌++◌, length, replicate, slice_get, slice_set, Option, None, Some, Result, Err, if◌then◌else◌}
use Rattle.kt_mem.specs.declared.memory.Value.{Value}
use Rattle.kt_mem.specs.declared.memory.Value.TheVariants.{Undef}
use Rattle.kt_mem.specs.declared.steps.Act.{Act}
use Rattle.kt_mem.specs.declared.steps.Act.TheVariants as act
use Rattle.kt_mem.specs.declared.steps.Trap.{Trap}
use Rattle.kt_mem.specs.declared.steps.Trap.TheVariants as trap
use Rattle.kt_mem.specs.declared.thread.KeptLocal.{KeptLocal}
use Rattle.kt_mem.specs.declared.thread.Mode.{Mode}
use Rattle.kt_mem.specs.declared.thread.Mode.TheVariants.{Normal, Updating}
use Rattle.kt_mem.specs.Values.{defined}
use Rattle.kt_tree.specs.declared.expr.Operation.{Operation}
use Rattle.kt_tree.specs.declared.expr.Request.{Request}
use Rattle.kt_tree.specs.Tree.{Expression, Expressions, Statement, Statements, Function}

-- ---- work

-- what the values of operands are for: an operation or a request, with the type of what it gives, or a call
pub data Use : Type 0 where
  Operates : Operation → ℕ → Use
  Asks : Request → Option ℕ → Use
  Enters : ℕ → Use

-- what waits for a value
pub data Waiting : Type 0 where
  -- leaves it unused (ISO/IEC 9899:2011, 6.8.3)
  Drops : Waiting
  -- puts it into a local; the value of the whole is the new one, or the one that the local had (6.5.2.4, 6.5.16)
  Sets : ℕ → Waiting
  Swaps : ℕ → Waiting
  -- the next operand, after these values, the latest first; the operands that are still to come
  Awaits : Use → List Value → Expressions → Waiting
  -- the pointer of a `Modified` cell; and its operand, after the pointer and the value that the cell had
  Fetches : Operation → ℕ → ℕ → Bool → Expression → Waiting
  Changes : Operation → ℕ → ℕ → Bool → Value → Value → Waiting
  -- the first operand of `&&` and of `||`; and the second of either (6.5.13, 6.5.14)
  AndThen : Expression → Waiting
  OrElse : Expression → Waiting
  Truths : Waiting
  -- the condition of `?:`, of `if`, of a loop and of `do` (6.5.15, 6.8.4.1, 6.8.5)
  Picks : Expression → Expression → Waiting
  Branches : Statement → Statement → Waiting
  Loops : Option Expression → Option Expression → Statement → Waiting
  Repeats : Statement → Expression → Waiting
  -- what the function returns (6.8.6.4)
  Returns : Waiting

-- a part of the work that is left
pub data Part : Type 0 where
  -- an expression, which will give a value
  Eval : Expression → Part
  -- the value, which the next part takes; the undefined one where the expression has none
  Have : Value → Part
  Wait : Waiting → Part
  Do : Statement → Part
  -- the statements of a block, in order
  Run : Statements → Part
  -- the end of a loop's body: the test, the step and the body of the loop
  Next : Option Expression → Option Expression → Statement → Part
  -- the end of the body of a `do`
  Again : Statement → Expression → Part

abbrev pub Work : Type 0
Work = List Part

-- the part ends the body of a loop
abbrev pub is_loop : Part → Bool
is_loop (Next test step body) = true
is_loop (Again body test) = true
is_loop _ = false

-- the work from the end of the innermost loop's body on, where `continue` goes (6.8.6.2), and behind it, where `break`
-- goes (6.8.6.3)
abbrev pub to_loop : Work → Work
to_loop [] = []
to_loop (p ∷ w) = if is_loop p then p ∷ w else to_loop w

abbrev pub after_loop : Work → Work
after_loop [] = []
after_loop (p ∷ w) = if is_loop p then w else after_loop w

-- ---- frames and threads

-- a call that is open: the function's number, the values of its locals, and its work
pub record Frame : Type 0 where
  pub function : ℕ
  pub locals : List Value
  pub work : Work

-- what an update leaves to a thread: its mode, and the kept values of locals
pub record Restart : Type 0 where
  pub mode : Mode
  pub kept : List KeptLocal

-- the frame of the latest call comes first
pub record Thread : Type 0 where
  pub frames : List Frame
  pub restart : Restart

-- all of a thread but the work of its first frame
pub record Context : Type 0 where
  pub function : ℕ
  pub locals : List Value
  pub below : List Frame
  pub restart : Restart

-- the thread there with this work
abbrev pub at : Context → Work → Thread
at x w = record { frames = record { function = x.function; locals = x.locals; work = w } ∷ x.below; restart = x.restart }

-- how many calls are open
abbrev pub open_frames : Context → ℕ
open_frames x = suc (length x.below)

-- a frame at the entry of a function: its parameters have these values, its other locals are undefined
abbrev pub entry_frame : ℕ → Function → List Value → Frame
entry_frame g f arguments =
    record { function = g; locals = arguments ++ replicate (length f.locals - length arguments) Undef; work = Do f.body ∷ [] }

-- a thread at the entry of a function
abbrev pub entry : ℕ → Function → List Value → Restart → Thread
entry g f arguments r = record { frames = entry_frame g f arguments ∷ []; restart = r }

-- ---- locals

abbrev pub defined_if : Option Value → Result Value Trap
defined_if None = Err trap.Uninit
defined_if (Some v) = defined v

-- what a local holds: reading the undefined value is a trap
abbrev pub local_value : Context → ℕ → Result Value Trap
local_value x n = defined_if (slice_get x.locals n)

abbrev pub with_local : Context → ℕ → Value → Context
with_local x n v = record x { locals = slice_set x.locals n v }

-- ---- modes and kept locals

abbrev pub is_updating : Mode → Bool
is_updating Normal = false
is_updating (Updating n) = true

-- on the way from the point whose name has this place
abbrev pub is_updating_from : ℕ → Mode → Bool
is_updating_from n Normal = false
is_updating_from n (Updating m) = m == n

abbrev pub value_for : ℕ → ℕ → List KeptLocal → Option Value
value_for f n [] = None
value_for f n (k ∷ kept) = if (k.function == f) && (k.local == n) then Some k.value else value_for f n kept

-- the value that is kept for a function's local, in mode Updating
abbrev pub kept_value : Restart → ℕ → ℕ → Option Value
kept_value r f n = if is_updating r.mode then value_for f n r.kept else None

-- a thread that updates from a point is normal from there on, and keeps nothing more
abbrev pub restart_after : Act → Restart → Restart
restart_after (act.Point n) r = if is_updating_from n r.mode then record { mode = Normal; kept = [] } else r
restart_after _ r = r

abbrev pub set_if_some : Option Value → ℕ → List Value → List Value
set_if_some None n locals = locals
set_if_some (Some v) n locals = slice_set locals n v

-- the local that is asked for has the value that is kept for it, where there is one
abbrev pub locals_after : Act → Restart → List Value → List Value
locals_after (act.MigrateLocal f n) r locals = set_if_some (kept_value r f n) n locals
locals_after _ r locals = locals

-- what an act changes in the thread itself
abbrev pub context_after : Act → Context → Context
context_after a x = record x { locals = locals_after a x.restart x.locals; restart = restart_after a x.restart }
