-- What one instruction does to a private state, one equation an instruction.
use Rattle.std.specs.Prelude.{ℕ, suc, pos, ◌+◌, ◌-◌, nat_le, Bool, true, false, List, [], ◌∷◌, ◌++◌, length, take, drop, reverse, replicate, slice_get, slice_set, Option, None, Some, Result, Ok, Err, if◌then◌else◌}
use Rattle.kt_tree.specs.declared.expr.Request.{Request}
use Rattle.kt_mem.specs.declared.memory.Name.TheVariants.{Glob, Lit}
use Rattle.kt_mem.specs.declared.memory.Value.{Value}
use Rattle.kt_mem.specs.declared.memory.Value.TheVariants.{Num, Null, Ptr, Undef}
use Rattle.kt_mem.specs.declared.steps.Act.{Act}
use Rattle.kt_mem.specs.declared.steps.Act.TheVariants as act
use Rattle.kt_mem.specs.declared.steps.Trap.{Trap}
use Rattle.kt_mem.specs.declared.steps.Trap.TheVariants as trap
use Rattle.kt_mem.specs.Arithmetic.{moved, sum_of, difference_of, product_of, quotient_of, remainder_of, narrowed}
use Rattle.kt_mem.specs.Comparisons.{zero_test, equal_value, not_equal_value, not_value, less_value, greater_value, less_equal_value, greater_equal_value}
use Rattle.kt_mem.specs.Elements.{element_before, elements_between}
use Rattle.kt_mem.specs.Values.{truth}
use Rattle.kt_meaning.specs.Steps.{Step, Quiet, Acts, Traps, Ends}
use Rattle.kt_meaning.specs.Operations.{element_sum}
use Rattle.kt_meaning.specs.Requests.{act_of, told, request_value}
use Rattle.kt_meaning.specs.Thread.{Restart, defined_if, locals_after, restart_after}
use Rattle.kt_code.specs.Code.{Code}
use Rattle.kt_code.specs.Requests.{operand_count, untyped}
use Rattle.kt_code.specs.declared.frame.Frame.{Frame}
use Rattle.kt_code.specs.declared.private.Private.{Private}
use Rattle.kt_code.specs.declared.instr.Instr.{Instr}
use Rattle.kt_code.specs.declared.instr.Instr.TheVariants as instr

-- ---- where a thread stands

-- all of a private state but its operands: the function of the first frame, the place of its next instruction, its
-- locals, the frames below, and what an update left
pub record Here : Type 0 where
  pub version : ℕ
  pub function : ℕ
  pub at : ℕ
  pub locals : List Value
  pub below : List Frame
  pub restart : Restart

abbrev pub frame_here : Here → Frame
frame_here x = record { function = x.function; at = x.at; locals = x.locals }

-- the state there with these operands, the topmost first
abbrev pub stands : Here → List Value → Private
stands x ops = record { version = x.version; frames = frame_here x ∷ x.below; operands = ops; mode = x.restart.mode; locals = x.restart.kept }

abbrev pub passes : ℕ → Here → Here
passes n x = record x { at = x.at + n }

abbrev pub goes_back : ℕ → Here → Here
goes_back n x = record x { at = x.at - n }

abbrev pub with_local : Here → ℕ → Value → Here
with_local x n v = record x { locals = slice_set x.locals n v }

-- what an act changes in the thread itself
abbrev pub changed_by : Act → Here → Here
changed_by a x = record x { locals = locals_after a x.restart x.locals; restart = restart_after a x.restart }

-- ---- steps

abbrev pub goes : Here → List Value → Step Private
goes x ops = Quiet (stands x ops)

-- the value goes onto these operands, or the trap comes
abbrev pub gives : Here → List Value → Result Value Trap → Step Private
gives x ops (Ok v) = goes x (v ∷ ops)
gives x ops (Err t) = Traps t

-- by whether a value is zero or null: first where it is
abbrev pub tested : Result Bool Trap → Step Private → Step Private → Step Private
tested (Ok true) zero other = zero
tested (Ok false) zero other = other
tested (Err t) zero other = Traps t

-- ---- operands

-- an instruction whose place or operands are missing is no step of a thread: it stands as a return of 2^31 from `main`,
-- which is no `int`
abbrev pub stuck : Step Private
stuck = Ends (act.MainReturn (pos 2147483648))

abbrev pub on_top : (Value → List Value → Step Private) → List Value → Step Private
on_top f [] = stuck
on_top f (v ∷ ops) = f v ops

-- the left operand stands below the right one
abbrev pub on_two : (Value → Value → List Value → Step Private) → List Value → Step Private
on_two f (b ∷ a ∷ ops) = f a b ops
on_two f _ = stuck

-- so many operands, the last one topmost
abbrev pub on_list : ℕ → (List Value → List Value → Step Private) → List Value → Step Private
on_list n f ops = if nat_le n (length ops) then f (reverse (take n ops)) (drop n ops) else stuck

abbrev pub unary : (Value → Result Value Trap) → Here → List Value → Step Private
unary f x = on_top (λ a ops. gives x ops (f a))

abbrev pub binary : (Value → Value → Result Value Trap) → Here → List Value → Step Private
binary f x = on_two (λ a b ops. gives x ops (f a b))

-- ---- locals, acts, calls

-- a local takes a value; the one that it had, which is read, stays on the operands
abbrev pub swaps : Here → ℕ → Value → List Value → Result Value Trap → Step Private
swaps x n v ops (Ok old) = goes (with_local x n v) (old ∷ ops)
swaps x n v ops (Err t) = Traps t

-- a request is an act; the reply may tell its value, and the act may change the thread itself
abbrev pub asks : Here → List Value → Request → List Value → Result Act Trap → Step Private
asks x ops q vs (Ok a) =
    Acts a (λ reply. stands (changed_by a x) (request_value x.function x.restart q vs (told reply) ∷ ops))
asks x ops q vs (Err t) = Traps t

-- a frame at the entry of a function, whose first locals have these values and whose others are undefined
abbrev pub entry_frame : ℕ → ℕ → ℕ → List Value → Frame
entry_frame g at locals vs = record { function = g; at = at; locals = vs ++ replicate (locals - length vs) Undef }

abbrev pub enters : Here → List Value → Frame → Private
enters x ops f = record { version = x.version; frames = f ∷ frame_here x ∷ x.below; operands = ops; mode = x.restart.mode; locals = x.restart.kept }

-- with 200 calls open one more is a trap, else a tick
abbrev pub calls : Here → ℕ → ℕ → Option ℕ → List Value → List Value → Step Private
calls x g locals None vs ops = Traps trap.Uninit
calls x g locals (Some at) vs ops =
    if nat_le 200 (suc (length x.below)) then Traps trap.Depth
    else Acts act.Tick (λ reply. enters x ops (entry_frame g at locals vs))

-- the frames below go on, with these operands
abbrev pub falls_to : Here → Frame → List Frame → List Value → Step Private
falls_to x f below ops = Quiet (record { version = x.version; frames = f ∷ below; operands = ops; mode = x.restart.mode; locals = x.restart.kept })

abbrev pub main_returns : Value → Step Private
main_returns (Num n) = Ends (act.MainReturn n)
main_returns v = Traps trap.Uninit

abbrev pub returns : Here → Value → List Value → List Frame → Step Private
returns x v ops [] = main_returns v
returns x v ops (f ∷ below) = falls_to x f below (v ∷ ops)

abbrev pub leaves : Here → List Value → List Frame → Step Private
leaves x ops [] = Ends act.ThreadEnd
leaves x ops (f ∷ below) = falls_to x f below (Undef ∷ ops)

-- ---- instructions

-- what an instruction does where the next one stands here, with these operands; `entries` has where functions begin
abbrev pub do_one : List ℕ → Instr → Here → List Value → Step Private
do_one entries (instr.Number n) x ops = goes x (Num n ∷ ops)
do_one entries instr.Null x ops = goes x (Null ∷ ops)
do_one entries (instr.Global g) x ops = goes x (Ptr (Glob g) 0 ∷ ops)
do_one entries (instr.Literal n) x ops = goes x (Ptr (Lit x.version n) 0 ∷ ops)
do_one entries (instr.Read n) x ops = gives x ops (defined_if (slice_get x.locals n))
do_one entries (instr.Set n) x ops = on_top (λ v rest. goes (with_local x n v) (v ∷ rest)) ops
do_one entries (instr.Swap n) x ops = on_top (λ v rest. swaps x n v rest (defined_if (slice_get x.locals n))) ops
do_one entries (instr.Undefine n) x ops = goes (with_local x n Undef) ops
do_one entries instr.Discard x ops = on_top (λ v rest. goes x rest) ops
do_one entries instr.Duplicate x ops = on_top (λ v rest. goes x (v ∷ v ∷ rest)) ops
do_one entries (instr.Add t) x ops = binary (sum_of t) x ops
do_one entries (instr.Subtract t) x ops = binary (difference_of t) x ops
do_one entries (instr.Multiply t) x ops = binary (product_of t) x ops
do_one entries (instr.Divide t) x ops = binary (quotient_of t) x ops
do_one entries (instr.Remainder t) x ops = binary (remainder_of t) x ops
do_one entries (instr.Convert t) x ops = unary (narrowed t) x ops
do_one entries instr.Less x ops = binary less_value x ops
do_one entries instr.Greater x ops = binary greater_value x ops
do_one entries instr.LessEqual x ops = binary less_equal_value x ops
do_one entries instr.GreaterEqual x ops = binary greater_equal_value x ops
do_one entries instr.Equal x ops = binary equal_value x ops
do_one entries instr.NotEqual x ops = binary not_equal_value x ops
do_one entries instr.Not x ops = unary not_value x ops
do_one entries (instr.ElementAfter w) x ops = binary (element_sum w) x ops
do_one entries (instr.ElementBefore w) x ops = binary (λ p i. element_before p i w) x ops
do_one entries (instr.ElementsBetween w) x ops = binary (λ p q. elements_between p q w) x ops
do_one entries (instr.Field n) x ops = unary (λ p. moved p (pos n)) x ops
do_one entries (instr.Load t) x ops = on_top (λ p rest. Acts (act.Load p t) (λ reply. stands x (told reply ∷ rest))) ops
do_one entries (instr.Fetch t) x ops = on_top (λ p rest. Acts (act.Load p t) (λ reply. stands x (told reply ∷ p ∷ rest))) ops
do_one entries (instr.Store t) x ops = on_two (λ p v rest. Acts (act.Store p t v) (λ reply. stands x (v ∷ rest))) ops
do_one entries (instr.StoreOld t) x ops =
    on_top (λ v more. on_two (λ p old rest. Acts (act.Store p t v) (λ reply. stands x (old ∷ rest))) more) ops
do_one entries (instr.Ask q) x ops =
    on_list (operand_count q) (λ vs rest. asks x rest q vs (act_of untyped x.function q None vs)) ops
do_one entries instr.Tick x ops = Acts act.Tick (λ reply. stands x ops)
do_one entries (instr.Call g arguments locals) x ops = on_list arguments (λ vs rest. calls x g locals (slice_get entries g) vs rest) ops
do_one entries (instr.Skip n) x ops = goes (passes n x) ops
do_one entries (instr.SkipIfZero n) x ops = on_top (λ v rest. tested (zero_test v) (goes (passes n x) rest) (goes x rest)) ops
do_one entries (instr.And n) x ops =
    on_top (λ v rest. tested (zero_test v) (goes (passes n x) (truth false ∷ rest)) (goes x rest)) ops
do_one entries (instr.Or n) x ops =
    on_top (λ v rest. tested (zero_test v) (goes x rest) (goes (passes n x) (truth true ∷ rest))) ops
do_one entries instr.Truth x ops =
    on_top (λ v rest. tested (zero_test v) (goes x (truth false ∷ rest)) (goes x (truth true ∷ rest))) ops
do_one entries (instr.Back n) x ops = goes (goes_back n x) ops
do_one entries (instr.BackIfNotZero n) x ops = on_top (λ v rest. tested (zero_test v) (goes x rest) (goes (goes_back n x) rest)) ops
do_one entries instr.Return x ops = on_top (λ v rest. returns x v rest x.below) ops
do_one entries instr.Leave x ops = leaves x ops x.below
do_one entries instr.NoValue x ops = Traps trap.Uninit

-- ---- the state's next step

abbrev pub instr_step : List ℕ → Option Instr → Here → List Value → Step Private
instr_step entries None x ops = stuck
instr_step entries (Some i) x ops = do_one entries i x ops

-- where a private state with this first frame stands, the next instruction taken
abbrev pub here : Private → Frame → List Frame → Here
here p f below = record {
  version = p.version;
  function = f.function;
  at = suc f.at;
  locals = f.locals;
  below = below;
  restart = record { mode = p.mode; kept = p.locals };
}

-- the next step of a private state whose frames are these
abbrev pub frames_step : List Instr → List ℕ → Private → List Frame → Step Private
frames_step instrs entries p [] = stuck
frames_step instrs entries p (f ∷ below) = instr_step entries (slice_get instrs f.at) (here p f below) p.operands

abbrev pub step : Code → Private → Step Private
step c p = frames_step c.instrs c.entries p p.frames
