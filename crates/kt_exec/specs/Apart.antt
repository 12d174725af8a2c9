-- A private state whose first frame stands apart, and what one step of it does.
use Rattle.std.specs.Prelude.{◌≡◌, ◌≤◌, IsTrue, List, [], ◌∷◌, length, slice_get, Option, None, Some, Result, Ok, Err, OnOk}
use Rattle.kt_mem.specs.declared.memory.Value.{Value}
use Rattle.kt_mem.specs.declared.steps.Reply.{Reply}
use Rattle.kt_meaning.specs.Steps.{Step, Quiet, Acts, Traps, Ends, IsHead}
use Rattle.kt_meaning.specs.Thread.{Restart}
use Rattle.kt_code.specs.Code.{Code}
use Rattle.kt_code.specs.Machine.{Here, here, do_one, step}
use Rattle.kt_code.specs.Settling.{settle, is_last, operands_of}
use Rattle.kt_code.specs.declared.instr.Instr.{Instr}
use Rattle.kt_code.specs.declared.instr.Instr.TheVariants as instr
use Rattle.kt_code.specs.declared.frame.Frame.{Frame}
use Rattle.kt_code.specs.declared.private.Private.{Private}
use Rattle.kt_exec.specs.declared.went.Went.{Went}
use Rattle.kt_exec.specs.declared.went.Went.TheVariants as went
use Rattle.kt_exec.specs.declared.went.Halt.{Halt}
use Rattle.kt_exec.specs.declared.went.Halt.TheVariants as halt

-- the state with this first frame on the others
abbrev pub whole : Frame → Private → Private
whole f p = record p { frames = f ∷ p.frames }

-- where that state stands, its next instruction taken
abbrev pub taken : Frame → Private → Here
taken f p = here p f p.frames

-- what an update left to the thread
abbrev pub restart_of : Private → Restart
restart_of p = record { mode = p.mode; kept = p.locals }

abbrev pub with_restart : Restart → Private → Private
with_restart r p = record p { mode = r.mode; locals = r.kept }

-- ---- the next instruction

-- it is there, and its operands are
abbrev pub HasOperands : Option Instr → List Value → Type 0
HasOperands None ops = ⊥
HasOperands (Some i) ops = operands_of i ≤ length ops

-- it is an act, a call or a return: at these a thread may stand
abbrev pub Stops : Instr → Type 0
Stops (instr.Load t) = Unit {0}
Stops (instr.Fetch t) = Unit {0}
Stops (instr.Store t) = Unit {0}
Stops (instr.StoreOld t) = Unit {0}
Stops (instr.Ask q) = Unit {0}
Stops instr.Tick = Unit {0}
Stops (instr.Call g arguments locals) = Unit {0}
Stops instr.Return = Unit {0}
Stops instr.Leave = Unit {0}
Stops _ = ⊥

abbrev pub StopsAt : Option Instr → Type 0
StopsAt None = ⊥
StopsAt (Some i) = Stops i

-- ---- one step

-- a step from x that was tried: a quiet one has led to y; at any other the thread is as it was, where `May` allows that it
-- stands there; a trap met in quiet steps is told
abbrev pub IsTried : Type 0 → Step Private → Private → Private → Result Went Halt → Type 0
IsTried May s x y (Ok went.On) = s ≡ Quiet y
IsTried May s x y (Ok went.Stands) = May × (y ≡ x) × IsHead s
IsTried May s x y (Err (halt.Trap t)) = (y ≡ x) × (s ≡ Traps t)
IsTried May s x y (Err (halt.NoMemory e)) = Unit {0}

-- the step that this gives for where the thread stands and for its operands was tried
abbrev pub Tries : Type 0 → (Here → List Value → Step Private) → Frame → Private → Frame → Private → Result Went Halt → Type 0
Tries May s f p g q r = IsTried May (s (taken f p) p.operands) (whole f p) (whole g q) r

-- the same of a step that is quiet or a trap
abbrev pub TriesQuiet : (Here → List Value → Step Private) → Frame → Private → Frame → Private → Result Went Halt → Type 0
TriesQuiet s f p g q r = Tries ⊥ s f p g q r

-- what an instruction does that is no call
abbrev pub does : Instr → Here → List Value → Step Private
does i = do_one [] i

-- where the step is an act, y is how the thread goes on with the reply
abbrev pub GoesOn : Step Private → Reply → Private → Type 0
GoesOn (Acts a go) r y = y ≡ go r
GoesOn _ r y = Unit {0}

-- the same, of the step that this gives for where the thread stands and for its operands
abbrev pub Answers : {X E : Type 0} → (Here → List Value → Step Private) → Reply → Frame → Private → Frame → Private → Result X E → Type 0
Answers s r f p g q result = OnOk result (GoesOn (s (taken f p) p.operands) r (whole g q))

-- what `main` returns is an `int`
abbrev pub EndsInInt : Step Private → Type 0
EndsInInt (Ends a) = IsTrue (is_last a)
EndsInInt _ = Unit {0}

-- ---- all quiet steps

-- where settling ends the thread stands at an act, an end, or the trap of a call or a request
abbrev pub HasSettled : Code → Private → Frame → Private → Type 0
HasSettled c x f p =
    (whole f p ≡ settle c x) × IsHead (step c (whole f p)) × HasOperands (slice_get c.instrs f.at) p.operands × StopsAt (slice_get c.instrs f.at)

-- its quiet steps have broken off: a trap that was met in them is told
abbrev pub HasHalted : Code → Private → Frame → Private → Halt → Type 0
HasHalted c x f p (halt.Trap t) = (whole f p ≡ settle c x) × (step c (whole f p) ≡ Traps t)
HasHalted c x f p (halt.NoMemory e) = Unit {0}

-- the thread x has come to where settling ends
abbrev pub HasRun : {X : Type 0} → Code → Private → Frame → Private → Result X Halt → Type 0
HasRun c x f p (Ok u) = HasSettled c x f p
HasRun c x f p (Err e) = HasHalted c x f p e
