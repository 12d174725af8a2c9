-- The steps of a thread, one equation a case: the operands of an expression are evaluated from left to right
-- (ISO/IEC 9899:2011, 5.1.2.3, 6.5, 6.8; the order is this project's own).
use Rattle.std.specs.Prelude.{ℕ, pos, nat_le, Bool, true, false, List, [], ◌∷◌, reverse, codes, ◌==◌, slice_get, Option, None, Some, Result, Ok, Err, if◌then◌else◌}
use Rattle.std.specs.Cmp.Lexicographic.{pointwise}
use Rattle.kt_mem.specs.declared.memory.Name.TheVariants.{Glob, Lit}
use Rattle.kt_mem.specs.declared.memory.Value.{Value}
use Rattle.kt_mem.specs.declared.memory.Value.TheVariants.{Num, Null, Ptr, Undef}
use Rattle.kt_mem.specs.declared.steps.Act.{Act}
use Rattle.kt_mem.specs.declared.steps.Act.TheVariants as act
use Rattle.kt_mem.specs.declared.steps.Trap.{Trap}
use Rattle.kt_mem.specs.declared.steps.Trap.TheVariants as trap
use Rattle.kt_mem.specs.Values.{truth}
use Rattle.kt_mem.specs.Comparisons.{zero_test}
use Rattle.kt_tree.specs.declared.expr.Constant.{Constant}
use Rattle.kt_tree.specs.declared.expr.Constant.TheVariants as constant
use Rattle.kt_tree.specs.declared.expr.Operation.{Operation}
use Rattle.kt_tree.specs.declared.expr.Request.{Request}
use Rattle.kt_tree.specs.Tree.{Expression, Constant', LocalRead, LocalSet, LocalSwapped, Operated, Requested, Modified, Both, Either, Chosen, Called, Expressions, NoMore, More, Statement, Evaluated, Undefined, Compound, Conditional, Looped, Repeated, Returned, Broken, Continued, Done, Then, Function}
use Rattle.kt_tree.specs.Version.{Program}
use Rattle.kt_meaning.specs.Steps.{Step, Quiet, Acts, Traps, Ends}
use Rattle.kt_meaning.specs.Operations.{apply_operation, changed}
use Rattle.kt_meaning.specs.Requests.{act_of, load_act, store_act, told, request_value}
use Rattle.kt_meaning.specs.Thread.{Use, Operates, Asks, Enters, Waiting, Drops, Sets, Swaps, Awaits, Fetches, Changes, AndThen, OrElse, Truths, Picks, Branches, Loops, Repeats, Returns, Eval, Have, Wait, Do, Run, Next, Again, Work, to_loop, after_loop, Frame, Restart, Thread, Context, at, open_frames, entry_frame, local_value, with_local, context_after}

-- a version in force: the program, and its number among the versions
pub record Version : Type 0 where
  pub program : Program
  pub number : ℕ

-- ---- the thread goes on

-- a quiet step to this work
abbrev pub goes : Context → Work → Step Thread
goes x w = Quiet (at x w)

-- a quiet step to a value, or the trap
abbrev pub gives : Context → Work → Result Value Trap → Step Thread
gives x w (Ok v) = goes x (Have v ∷ w)
gives x w (Err t) = Traps t

-- a tick, and then this work
abbrev pub ticks : Context → Work → Step Thread
ticks x w = Acts act.Tick (λ reply. at x w)

-- by whether a value is zero or null: first where it is (6.5.13, 6.8.4.1)
abbrev pub tested : Result Bool Trap → Step Thread → Step Thread → Step Thread
tested (Ok true) zero other = zero
tested (Ok false) zero other = other
tested (Err t) zero other = Traps t

-- ---- functions

abbrev pub function_at : Version → ℕ → Option Function
function_at s f = slice_get s.program.functions f

-- the bottom frame is left: a `void` function is the entry of a thread, any other one is `main`
abbrev pub last_value : Option ℕ → Value → Step Thread
last_value None v = Ends act.ThreadEnd
last_value (Some t) (Num n) = Ends (act.MainReturn n)
last_value (Some t) v = Traps trap.Uninit

abbrev pub last_step : Option Function → Value → Step Thread
last_step None v = Traps trap.Uninit
last_step (Some f) v = last_value f.result v

-- the function of the first frame returns a value to the one that called it (6.8.6.4)
abbrev pub return_to : Version → ℕ → List Frame → Restart → Value → Step Thread
return_to s f [] r v = last_step (function_at s f) v
return_to s f (g ∷ below) r v = Quiet (record { frames = record g { work = Have v ∷ g.work } ∷ below; restart = r })

abbrev pub return_step : Version → Context → Value → Step Thread
return_step s x v = return_to s x.function x.below x.restart v

-- the end of the body is reached: 0 in `main` (5.1.2.2.3), nothing from a `void` function; else a trap (6.9.1)
abbrev pub is_main : Function → Bool
is_main f = pointwise ◌==◌ f.name (codes "main")

abbrev pub end_value : Bool → Option ℕ → Result Value Trap
end_value true result = Ok (Num (pos 0))
end_value false None = Ok Undef
end_value false (Some t) = Err trap.Uninit

abbrev pub returns_if : Version → Context → Result Value Trap → Step Thread
returns_if s x (Ok v) = return_step s x v
returns_if s x (Err t) = Traps t

abbrev pub end_step : Version → Context → Option Function → Step Thread
end_step s x None = Traps trap.Uninit
end_step s x (Some f) = returns_if s x (end_value (is_main f) f.result)

-- a call has its arguments: with 200 calls open it is a trap, else a tick, and then the function begins (6.5.2.2)
abbrev pub enter : ℕ → Function → List Value → Context → Work → Thread
enter g f vs x w = record { frames = entry_frame g f vs ∷ (at x w).frames; restart = x.restart }

abbrev pub call_step : ℕ → Option Function → List Value → Context → Work → Step Thread
call_step g None vs x w = Traps trap.Uninit
call_step g (Some f) vs x w = if nat_le 200 (open_frames x) then Traps trap.Depth else Acts act.Tick (λ reply. enter g f vs x w)

-- ---- operands

-- a request is an act; the reply may tell its value, and the act may change the thread itself
abbrev pub asks : Context → Work → Request → List Value → Result Act Trap → Step Thread
asks x w r vs (Ok a) =
    Acts a (λ reply. at (context_after a x) (Have (request_value x.function x.restart r vs (told reply)) ∷ w))
asks x w r vs (Err t) = Traps t

-- what is done with the values of all operands
abbrev pub use_step : Version → Use → List Value → Context → Work → Step Thread
use_step s (Operates op t) vs x w = gives x w (apply_operation s.program.types op t vs)
use_step s (Asks r t) vs x w = asks x w r vs (act_of s.program.types x.function r t vs)
use_step s (Enters g) vs x w = call_step g (function_at s g) vs x w

-- the next operand; `vs` has the values so far, the latest first
abbrev pub operands_step : Version → Use → List Value → Expressions → Context → Work → Step Thread
operands_step s purpose vs NoMore x w = use_step s purpose (reverse vs) x w
operands_step s purpose vs (More e es) x w = goes x (Eval e ∷ Wait (Awaits purpose vs es) ∷ w)

-- ---- expressions

abbrev pub constant_value : ℕ → Constant → Value
constant_value version (constant.Number n) = Num n
constant_value version constant.Null = Null
constant_value version (constant.Global g) = Ptr (Glob g) 0
constant_value version (constant.Literal n) = Ptr (Lit version n) 0

-- an expression begins, its left operand first
abbrev pub eval_step : Version → Expression → Context → Work → Step Thread
eval_step s (Constant' c t) x w = goes x (Have (constant_value s.number c) ∷ w)
eval_step s (LocalRead n) x w = gives x w (local_value x n)
eval_step s (LocalSet n e) x w = goes x (Eval e ∷ Wait (Sets n) ∷ w)
eval_step s (LocalSwapped n e) x w = goes x (Eval e ∷ Wait (Swaps n) ∷ w)
eval_step s (Operated op t es) x w = operands_step s (Operates op t) [] es x w
eval_step s (Requested r t es) x w = operands_step s (Asks r t) [] es x w
eval_step s (Modified op own t old p e) x w = goes x (Eval p ∷ Wait (Fetches op own t old e) ∷ w)
eval_step s (Both a b) x w = goes x (Eval a ∷ Wait (AndThen b) ∷ w)
eval_step s (Either a b) x w = goes x (Eval a ∷ Wait (OrElse b) ∷ w)
eval_step s (Chosen c t a b) x w = goes x (Eval c ∷ Wait (Picks a b) ∷ w)
eval_step s (Called g es) x w = operands_step s (Enters g) [] es x w

-- ---- statements

-- a loop's test is tried; a missing one counts as not zero (6.8.5.3)
abbrev pub loop_step : Option Expression → Option Expression → Statement → Context → Work → Step Thread
loop_step None step body x w = ticks x (Do body ∷ Next None step body ∷ w)
loop_step (Some c) step body x w = goes x (Eval c ∷ Wait (Loops (Some c) step body) ∷ w)

-- a body has ended: the step is evaluated, then the test again
abbrev pub next_step : Option Expression → Option Expression → Statement → Context → Work → Step Thread
next_step test None body x w = goes x (Do (Looped test None body) ∷ w)
next_step test (Some e) body x w = goes x (Eval e ∷ Wait Drops ∷ Do (Looped test (Some e) body) ∷ w)

-- a statement begins
abbrev pub begin_step : Version → Statement → Context → Work → Step Thread
begin_step s (Evaluated e) x w = goes x (Eval e ∷ Wait Drops ∷ w)
begin_step s (Undefined n) x w = goes (with_local x n Undef) w
begin_step s (Compound block) x w = goes x (Run block ∷ w)
begin_step s (Conditional c a b) x w = goes x (Eval c ∷ Wait (Branches a b) ∷ w)
begin_step s (Looped test step body) x w = loop_step test step body x w
begin_step s (Repeated body c) x w = ticks x (Do body ∷ Again body c ∷ w)
begin_step s (Returned None) x w = return_step s x Undef
begin_step s (Returned (Some e)) x w = goes x (Eval e ∷ Wait Returns ∷ w)
begin_step s Broken x w = goes x (after_loop w)
begin_step s Continued x w = goes x (to_loop w)

-- ---- values

-- a local takes a value; the one that it had, which is read, is the value of the whole
abbrev pub swap_step : Context → ℕ → Value → Work → Result Value Trap → Step Thread
swap_step x n v w (Ok old) = goes (with_local x n v) (Have old ∷ w)
swap_step x n v w (Err t) = Traps t

-- `x op= e` loads before `e` is evaluated, and stores after it (6.5.16.2)
abbrev pub fetch_step : Operation → ℕ → ℕ → Bool → Expression → Value → Context → Work → Result Act Trap → Step Thread
fetch_step op own t old e p x w (Ok a) = Acts a (λ reply. at x (Eval e ∷ Wait (Changes op own t old p (told reply)) ∷ w))
fetch_step op own t old e p x w (Err e') = Traps e'

abbrev pub store_step : Value → Context → Work → Result Act Trap → Step Thread
store_step v x w (Ok a) = Acts a (λ reply. at x (Have v ∷ w))
store_step v x w (Err t) = Traps t

abbrev pub change_step : Version → ℕ → Bool → Value → Value → Context → Work → Result Value Trap → Step Thread
change_step s t old p before x w (Ok v) =
    store_step (if old then before else v) x w (store_act (slice_get s.program.types.types t) p v)
change_step s t old p before x w (Err e) = Traps e

-- a value meets what waits for it
abbrev pub take_step : Version → Waiting → Value → Context → Work → Step Thread
take_step s Drops v x w = goes x w
take_step s (Sets n) v x w = goes (with_local x n v) (Have v ∷ w)
take_step s (Swaps n) v x w = swap_step x n v w (local_value x n)
take_step s (Awaits purpose vs es) v x w = operands_step s purpose (v ∷ vs) es x w
take_step s (Fetches op own t old e) p x w = fetch_step op own t old e p x w (load_act (slice_get s.program.types.types t) p)
take_step s (Changes op own t old p before) v x w =
    change_step s t old p before x w (changed s.program.types op own t before v)
take_step s (AndThen b) v x w = tested (zero_test v) (goes x (Have (truth false) ∷ w)) (goes x (Eval b ∷ Wait Truths ∷ w))
take_step s (OrElse b) v x w = tested (zero_test v) (goes x (Eval b ∷ Wait Truths ∷ w)) (goes x (Have (truth true) ∷ w))
take_step s Truths v x w = tested (zero_test v) (goes x (Have (truth false) ∷ w)) (goes x (Have (truth true) ∷ w))
take_step s (Picks a b) v x w = tested (zero_test v) (goes x (Eval b ∷ w)) (goes x (Eval a ∷ w))
take_step s (Branches a b) v x w = tested (zero_test v) (goes x (Do b ∷ w)) (goes x (Do a ∷ w))
take_step s (Loops test step body) v x w = tested (zero_test v) (goes x w) (ticks x (Do body ∷ Next test step body ∷ w))
take_step s (Repeats body c) v x w = tested (zero_test v) (goes x w) (goes x (Do (Repeated body c) ∷ w))
take_step s Returns v x w = return_step s x v

-- no thread comes to a value that nothing waits for, or to what waits where there is no value
abbrev pub have_step : Version → Value → Context → Work → Step Thread
have_step s v x (Wait k ∷ w) = take_step s k v x w
have_step s v x _ = Traps trap.Uninit

-- ---- threads

abbrev pub work_step : Version → Context → Work → Step Thread
work_step s x [] = end_step s x (function_at s x.function)
work_step s x (Eval e ∷ w) = eval_step s e x w
work_step s x (Have v ∷ w) = have_step s v x w
work_step s x (Wait k ∷ w) = Traps trap.Uninit
work_step s x (Do a ∷ w) = begin_step s a x w
work_step s x (Run Done ∷ w) = goes x w
work_step s x (Run (Then a block) ∷ w) = goes x (Do a ∷ Run block ∷ w)
work_step s x (Next test step body ∷ w) = next_step test step body x w
work_step s x (Again body c ∷ w) = goes x (Eval c ∷ Wait (Repeats body c) ∷ w)

abbrev pub frames_step : Version → List Frame → Restart → Step Thread
frames_step s [] r = Traps trap.Uninit
frames_step s (f ∷ below) r =
    work_step s (record { function = f.function; locals = f.locals; below = below; restart = r }) f.work

-- the next step of a thread; one whose entry function returned has no frame
abbrev pub step : Version → Thread → Step Thread
step s t = frames_step s t.frames t.restart
