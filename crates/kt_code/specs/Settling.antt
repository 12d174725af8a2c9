-- Settling: the quiet steps up to the next act, trap or end. Each jump back goes to a tick, so they are finitely many.
use Rattle.std.specs.Prelude.{◌≡◌, ℕ, zero, suc, ◌+◌, ◌-◌, ◌<◌, ◌≤◌, ◌^◌, Bool, true, false, IsTrue, List, [], ◌∷◌, length, slice_get, Option, None, Some, if◌then◌else◌}
use Rattle.kt_mem.specs.declared.steps.Act.{Act}
use Rattle.kt_mem.specs.declared.steps.Act.TheVariants as act
use Rattle.kt_mem.specs.declared.steps.Reply.{Reply}
use Rattle.kt_tree.specs.Kinds.{fits_in}
use Rattle.kt_meaning.specs.Steps.{Step, Quiet, Acts, Traps, Ends, Comes, settle_by}
use Rattle.kt_code.specs.Agreement.{IsAnswer}
use Rattle.kt_code.specs.Code.{Code}
use Rattle.kt_code.specs.Machine.{step}
use Rattle.kt_code.specs.Requests.{operand_count}
use Rattle.kt_code.specs.declared.frame.Frame.{Frame}
use Rattle.kt_code.specs.declared.private.Private.{Private}
use Rattle.kt_code.specs.declared.private.Head.{Head}
use Rattle.kt_code.specs.declared.private.Head.TheVariants as head
use Rattle.kt_code.specs.declared.instr.Instr.{Instr}
use Rattle.kt_code.specs.declared.instr.Instr.TheVariants as instr

-- ---- jumps

-- a jump forward stays within the code, and one back goes to a tick
abbrev pub IsJump : List Instr → ℕ → Instr → Type 0
IsJump instrs next (instr.Skip n) = next + n ≤ length instrs
IsJump instrs next (instr.SkipIfZero n) = next + n ≤ length instrs
IsJump instrs next (instr.And n) = next + n ≤ length instrs
IsJump instrs next (instr.Or n) = next + n ≤ length instrs
IsJump instrs next (instr.Back n) = (n ≤ next) × (slice_get instrs (next - n) ≡ Some instr.Tick)
IsJump instrs next (instr.BackIfNotZero n) = (n ≤ next) × (slice_get instrs (next - n) ≡ Some instr.Tick)
IsJump instrs next i = Unit {0}

abbrev pub HasJumps : List Instr → Type 0
HasJumps instrs = (p : ℕ) (i : Instr) → slice_get instrs p ≡ Some i → IsJump instrs (suc p) i

-- a place is a number below 2^32
abbrev pub HasPlaces : List Instr → Type 0
HasPlaces instrs = length instrs < 2 ^ 32

-- how many instructions an instruction may pass
abbrev pub passed : Instr → ℕ
passed (instr.Skip n) = n
passed (instr.SkipIfZero n) = n
passed (instr.And n) = n
passed (instr.Or n) = n
passed _ = 0

-- the places behind an instruction, and behind those that it may pass, are below 2^32
abbrev pub HasRoom : ℕ → Instr → Type 0
HasRoom at i = suc at + passed i < 2 ^ 32

-- ---- the measure

abbrev pub is_tick : Option Instr → Bool
is_tick (Some instr.Tick) = true
is_tick _ = false

-- the most quiet steps that a frame takes from this place on
abbrev pub room : List Instr → ℕ → ℕ
room instrs at = if is_tick (slice_get instrs at) then 0 else suc (length instrs - at)

abbrev pub rooms : List Instr → List Frame → ℕ
rooms instrs [] = 0
rooms instrs (f ∷ below) = room instrs f.at + rooms instrs below

abbrev pub weight : Code → Private → ℕ
weight c p = rooms c.instrs p.frames

-- the state after all quiet steps
unfoldable pub settle : Code → Private → Private
settle c = settle_by (step c) (weight c)

-- ---- heads

-- what a settled state has come to
abbrev pub head_of : Step Private → Option Head
head_of (Quiet p) = None
head_of (Acts a go) = Some (head.Act a)
head_of (Traps t) = Some (head.Trap t)
head_of (Ends a) = Some (head.Act a)

-- the step is an act that takes a reply
abbrev pub IsAct : Step Private → Type 0
IsAct (Acts a go) = Unit {0}
IsAct _ = ⊥

-- ---- states that fit code

-- what `main` returns is an `int`
abbrev pub is_last : Act → Bool
is_last (act.MainReturn n) = fits_in 31 n
is_last a = true

-- how many operands an instruction takes
abbrev pub operands_of : Instr → ℕ
operands_of (instr.Set n) = 1
operands_of (instr.Swap n) = 1
operands_of instr.Discard = 1
operands_of instr.Duplicate = 1
operands_of (instr.Add t) = 2
operands_of (instr.Subtract t) = 2
operands_of (instr.Multiply t) = 2
operands_of (instr.Divide t) = 2
operands_of (instr.Remainder t) = 2
operands_of (instr.Convert t) = 1
operands_of instr.Less = 2
operands_of instr.Greater = 2
operands_of instr.LessEqual = 2
operands_of instr.GreaterEqual = 2
operands_of instr.Equal = 2
operands_of instr.NotEqual = 2
operands_of instr.Not = 1
operands_of (instr.ElementAfter w) = 2
operands_of (instr.ElementBefore w) = 2
operands_of (instr.ElementsBetween w) = 2
operands_of (instr.Field n) = 1
operands_of (instr.Load t) = 1
operands_of (instr.Fetch t) = 1
operands_of (instr.Store t) = 2
operands_of (instr.StoreOld t) = 3
operands_of (instr.Ask q) = operand_count q
operands_of (instr.Call g arguments locals) = arguments
operands_of (instr.SkipIfZero n) = 1
operands_of (instr.And n) = 1
operands_of (instr.Or n) = 1
operands_of instr.Truth = 1
operands_of (instr.BackIfNotZero n) = 1
operands_of instr.Return = 1
operands_of _ = 0

-- the next instruction has its place in the code and its operands
pub record HasNext (c : Code) (p : Private) : Type 0 where
  pub frame : Frame
  pub below : List Frame
  pub first : p.frames ≡ frame ∷ below
  pub instruction : Instr
  pub place : slice_get c.instrs frame.at ≡ Some instruction
  pub operands : operands_of instruction ≤ length p.operands

-- so has every instruction that is met up to the next act, trap or end
abbrev pub HasEach : Code → Private → Type 0
HasEach c p = (k : ℕ) (q : Private) → Comes (step c) k p q → HasNext c q

-- the thread goes on so after each reply of the act's kind; what `main` returns is an `int`
abbrev pub FitsHead : (Private → Type 0) → Step Private → Type 0
FitsHead P (Quiet p) = ⊥
FitsHead P (Acts a go) = (r : Reply) → IsAnswer a r → P (go r)
FitsHead P (Traps t) = Unit {0}
FitsHead P (Ends a) = IsTrue (is_last a)

-- on all lists of fewer than n replies
abbrev pub FitsFor : Code → ℕ → Private → Type 0
FitsFor c zero p = Unit {0}
FitsFor c (suc n) p = HasEach c p × FitsHead (FitsFor c n) (step c (settle c p))

-- a private state fits code where, on all lists of replies of the acts' kinds, every instruction that is met has its place
-- and its operands, and what `main` returns is an `int`
abbrev pub Fits : Code → Private → Type 0
Fits c p = (n : ℕ) → FitsFor c n p
