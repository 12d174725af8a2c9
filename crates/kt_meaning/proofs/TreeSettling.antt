-- Threads of the tree settle: each quiet step lowers the measure.
use Rattle.std.specs.Prelude.{◌≡◌, ℕ, suc, ◌+◌, ◌<◌, ◌≤◌, nat_le, Bool, true, false, List, [], ◌∷◌, reverse, slice_get, Option, None, Some, Result, Ok, Err, if◌then◌else◌}
use Rattle.std.proofs.Common.{arith, subst}
use Rattle.kt_mem.specs.declared.memory.Value.{Value}
use Rattle.kt_mem.specs.declared.memory.Value.TheVariants.{Num, Null, Ptr, Free, Held, Undef}
use Rattle.kt_mem.specs.declared.steps.Act.{Act}
use Rattle.kt_mem.specs.declared.steps.Trap.{Trap}
use Rattle.kt_mem.specs.Comparisons.{zero_test}
use Rattle.kt_tree.specs.declared.expr.Operation.{Operation}
use Rattle.kt_tree.specs.declared.expr.Request.{Request}
use Rattle.kt_tree.specs.Tree.{Expression, Constant', LocalRead, LocalSet, LocalSwapped, Operated, Requested, Modified, Both, Either, Chosen, Called, Expressions, NoMore, More, Statement, Evaluated, Undefined, Compound, Conditional, Looped, Repeated, Returned, Broken, Continued, Done, Then, Function}
use Rattle.kt_meaning.specs.Steps.{Step, Quiet, Acts, Traps, Ends, IsHead, IsLowering, Settles}
use Rattle.kt_meaning.proofs.Settling.{settle_by-quiet, settle_by-rests, settle_by-settles}
use Rattle.kt_meaning.specs.Operations.{apply_operation, changed}
use Rattle.kt_meaning.specs.Requests.{act_of, load_act, store_act}
use Rattle.kt_meaning.specs.Thread.{Use, Operates, Asks, Enters, Waiting, Drops, Sets, Swaps, Awaits, Fetches, Changes, AndThen, OrElse, Truths, Picks, Branches, Loops, Repeats, Returns, Eval, Have, Wait, Do, Run, Next, Again, Work, is_loop, to_loop, after_loop, Frame, Restart, Thread, Context, open_frames, local_value}
use Rattle.kt_meaning.specs.TreeSteps.{Version, gives, tested, function_at, last_value, last_step, return_to, return_step, is_main, end_value, returns_if, end_step, call_step, asks, use_step, operands_step, eval_step, loop_step, next_step, begin_step, swap_step, fetch_step, store_step, change_step, take_step, have_step, work_step, frames_step, step}
use Rattle.kt_meaning.specs.Weights.{expression_weight, expressions_weight, optional_weight, statement_weight, waiting_weight, work_weight, frames_weight, thread_weight, settle}

-- a step is no quiet one, or it leads below n
abbrev Lowers : ℕ → Step Thread → Type 0
Lowers n (Quiet t) = thread_weight t < n
Lowers n (Acts a go) = Unit {0}
Lowers n (Traps t) = Unit {0}
Lowers n (Ends a) = Unit {0}

-- the weight of a thread there with this work
abbrev whole : Context → Work → ℕ
whole x w = work_weight w + frames_weight x.below + 2

-- ---- the thread goes on

gives-lowers : (x : Context) (w : Work) (r : Result Value Trap) (n : ℕ) → suc (whole x w) < n → Lowers n (gives x w r)
gives-lowers x w (Ok v) n h = omega (arith, h)
gives-lowers x w (Err t) n h = tt

tested-lowers : (r : Result Bool Trap) (n : ℕ) (a b : Step Thread) → Lowers n a → Lowers n b → Lowers n (tested r a b)
tested-lowers (Ok true) n a b h k = h
tested-lowers (Ok false) n a b h k = k
tested-lowers (Err t) n a b h k = tt

last-value-lowers : (result : Option ℕ) (v : Value) (n : ℕ) → Lowers n (last_value result v)
last-value-lowers None v n = tt
last-value-lowers (Some t) (Num z) n = tt
last-value-lowers (Some t) Null n = tt
last-value-lowers (Some t) (Ptr name k) n = tt
last-value-lowers (Some t) Free n = tt
last-value-lowers (Some t) (Held thread) n = tt
last-value-lowers (Some t) Undef n = tt

last-lowers : (f : Option Function) (v : Value) (n : ℕ) → Lowers n (last_step f v)
last-lowers None v n = tt
last-lowers (Some f) v n = last-value-lowers f.result v n

return-to-lowers : (s : Version) (f : ℕ) (below : List Frame) (r : Restart) (v : Value) (n : ℕ) →
    suc (frames_weight below) < n → Lowers n (return_to s f below r v)
return-to-lowers s f [] r v n h = last-lowers (function_at s f) v n
return-to-lowers s f (g ∷ below) r v n h = omega (arith, h)

return-lowers : (s : Version) (x : Context) (v : Value) (n : ℕ) → suc (frames_weight x.below) < n → Lowers n (return_step s x v)
return-lowers s x v n h = return-to-lowers s x.function x.below x.restart v n h

returns-if-lowers : (s : Version) (x : Context) (r : Result Value Trap) (n : ℕ) → suc (frames_weight x.below) < n → Lowers n (returns_if s x r)
returns-if-lowers s x (Ok v) n h = return-lowers s x v n h
returns-if-lowers s x (Err t) n h = tt

end-lowers : (s : Version) (x : Context) (f : Option Function) (n : ℕ) → suc (frames_weight x.below) < n → Lowers n (end_step s x f)
end-lowers s x None n h = tt
end-lowers s x (Some f) n h = returns-if-lowers s x (end_value (is_main f) f.result) n h

choice-lowers : (b : Bool) (n : ℕ) (a c : Step Thread) → Lowers n a → Lowers n c → Lowers n (if b then a else c)
choice-lowers true n a c h k = h
choice-lowers false n a c h k = k

call-lowers : (g : ℕ) (f : Option Function) (vs : List Value) (x : Context) (w : Work) (n : ℕ) → Lowers n (call_step g f vs x w)
call-lowers g None vs x w n = tt
call-lowers g (Some f) vs x w n = choice-lowers (nat_le 200 (open_frames x)) n _ _ tt tt

asks-lowers : (x : Context) (w : Work) (r : Request) (vs : List Value) (a : Result Act Trap) (n : ℕ) → Lowers n (asks x w r vs a)
asks-lowers x w r vs (Ok a) n = tt
asks-lowers x w r vs (Err t) n = tt

use-lowers : (s : Version) (u : Use) (vs : List Value) (x : Context) (w : Work) (n : ℕ) → suc (whole x w) < n → Lowers n (use_step s u vs x w)
use-lowers s (Operates op t) vs x w n h = gives-lowers x w (apply_operation s.program.types op t vs) n h
use-lowers s (Asks r t) vs x w n h = asks-lowers x w r vs (act_of s.program.types x.function r t vs) n
use-lowers s (Enters g) vs x w n h = call-lowers g (function_at s g) vs x w n

operands-lowers : (s : Version) (u : Use) (vs : List Value) (es : Expressions) (x : Context) (w : Work) (n : ℕ) →
    expressions_weight es + whole x w < n → Lowers n (operands_step s u vs es x w)
operands-lowers s u vs NoMore x w n h = use-lowers s u (reverse vs) x w n (omega (arith, h))
operands-lowers s u vs (More e es) x w n h = omega (arith, h)

eval-lowers : (s : Version) (e : Expression) (x : Context) (w : Work) → Lowers (expression_weight e + whole x w) (eval_step s e x w)
eval-lowers s (Constant' c t) x w = omega arith
eval-lowers s (LocalRead n) x w = gives-lowers x w (local_value x n) _ (omega arith)
eval-lowers s (LocalSet n e) x w = omega arith
eval-lowers s (LocalSwapped n e) x w = omega arith
eval-lowers s (Operated op t es) x w = operands-lowers s (Operates op t) [] es x w _ (omega arith)
eval-lowers s (Requested r t es) x w = operands-lowers s (Asks r t) [] es x w _ (omega arith)
eval-lowers s (Modified op own t old p e) x w = omega arith
eval-lowers s (Both a b) x w = omega arith
eval-lowers s (Either a b) x w = omega arith
eval-lowers s (Chosen c t a b) x w = omega arith
eval-lowers s (Called g es) x w = operands-lowers s (Enters g) [] es x w _ (omega arith)

loop-lowers : (test step : Option Expression) (body : Statement) (x : Context) (w : Work) →
    Lowers (optional_weight test + 2 + whole x w) (loop_step test step body x w)
loop-lowers None step body x w = tt
loop-lowers (Some c) step body x w = omega arith

next-lowers : (test step : Option Expression) (body : Statement) (x : Context) (w : Work) →
    Lowers (optional_weight step + optional_weight test + 4 + whole x w) (next_step test step body x w)
next-lowers test None body x w = omega arith
next-lowers test (Some e) body x w = omega arith

-- the work behind a loop, or from the end of its body on, is a part of the work
tail-weight : (b : Bool) (n : ℕ) (w v : Work) → work_weight w ≤ n → work_weight v ≤ n → work_weight (if b then w else v) ≤ n
tail-weight true n w v h k = h
tail-weight false n w v h k = k

to-loop-weight : (w : Work) → work_weight (to_loop w) ≤ work_weight w
to-loop-weight [] = omega arith
to-loop-weight (p ∷ w) =
    let low = to-loop-weight w in
    tail-weight (is_loop p) _ _ _ (omega arith) (omega (arith, low))

after-loop-weight : (w : Work) → work_weight (after_loop w) ≤ work_weight w
after-loop-weight [] = omega arith
after-loop-weight (p ∷ w) =
    let low = after-loop-weight w in
    tail-weight (is_loop p) _ _ _ (omega arith) (omega (arith, low))

begin-lowers : (s : Version) (a : Statement) (x : Context) (w : Work) → Lowers (statement_weight a + whole x w) (begin_step s a x w)
begin-lowers s (Evaluated e) x w = omega arith
begin-lowers s (Undefined n) x w = omega arith
begin-lowers s (Compound block) x w = omega arith
begin-lowers s (Conditional c a b) x w = omega arith
begin-lowers s (Looped test step body) x w = loop-lowers test step body x w
begin-lowers s (Repeated body c) x w = tt
begin-lowers s (Returned None) x w = return-lowers s x Undef _ (omega arith)
begin-lowers s (Returned (Some e)) x w = omega arith
begin-lowers s Broken x w = let low = after-loop-weight w in omega (arith, low)
begin-lowers s Continued x w = let low = to-loop-weight w in omega (arith, low)

swap-lowers : (x : Context) (m : ℕ) (v : Value) (w : Work) (r : Result Value Trap) → Lowers (2 + whole x w) (swap_step x m v w r)
swap-lowers x m v w (Ok old) = omega arith
swap-lowers x m v w (Err t) = tt

fetch-lowers : (op : Operation) (own t : ℕ) (old : Bool) (e : Expression) (p : Value) (x : Context) (w : Work) (a : Result Act Trap) (n : ℕ) →
    Lowers n (fetch_step op own t old e p x w a)
fetch-lowers op own t old e p x w (Ok a) n = tt
fetch-lowers op own t old e p x w (Err u) n = tt

store-lowers : (v : Value) (x : Context) (w : Work) (a : Result Act Trap) (n : ℕ) → Lowers n (store_step v x w a)
store-lowers v x w (Ok a) n = tt
store-lowers v x w (Err u) n = tt

change-lowers : (s : Version) (t : ℕ) (old : Bool) (p before : Value) (x : Context) (w : Work) (r : Result Value Trap) (n : ℕ) →
    Lowers n (change_step s t old p before x w r)
change-lowers s t old p before x w (Ok v) n = store-lowers (if old then before else v) x w (store_act (slice_get s.program.types.types t) p v) n
change-lowers s t old p before x w (Err e) n = tt

take-lowers : (s : Version) (k : Waiting) (v : Value) (x : Context) (w : Work) → Lowers (1 + waiting_weight k + whole x w) (take_step s k v x w)
take-lowers s Drops v x w = omega arith
take-lowers s (Sets n) v x w = omega arith
take-lowers s (Swaps n) v x w = swap-lowers x n v w (local_value x n)
take-lowers s (Awaits u vs es) v x w = operands-lowers s u (v ∷ vs) es x w _ (omega arith)
take-lowers s (Fetches op own t old e) v x w = fetch-lowers op own t old e v x w (load_act (slice_get s.program.types.types t) v) _
take-lowers s (Changes op own t old p before) v x w = change-lowers s t old p before x w (changed s.program.types op own t before v) _
take-lowers s (AndThen b) v x w = tested-lowers (zero_test v) _ _ _ (omega arith) (omega arith)
take-lowers s (OrElse b) v x w = tested-lowers (zero_test v) _ _ _ (omega arith) (omega arith)
take-lowers s Truths v x w = tested-lowers (zero_test v) _ _ _ (omega arith) (omega arith)
take-lowers s (Picks a b) v x w = tested-lowers (zero_test v) _ _ _ (omega arith) (omega arith)
take-lowers s (Branches a b) v x w = tested-lowers (zero_test v) _ _ _ (omega arith) (omega arith)
take-lowers s (Loops test step body) v x w = tested-lowers (zero_test v) _ _ _ (omega arith) tt
take-lowers s (Repeats body c) v x w = tested-lowers (zero_test v) _ _ _ (omega arith) (omega arith)
take-lowers s Returns v x w = return-lowers s x v _ (omega arith)

have-lowers : (s : Version) (v : Value) (x : Context) (w : Work) → Lowers (1 + whole x w) (have_step s v x w)
have-lowers s v x [] = tt
have-lowers s v x (Eval e ∷ w) = tt
have-lowers s v x (Have u ∷ w) = tt
have-lowers s v x (Wait k ∷ w) = subst (λ n. Lowers n (take_step s k v x w)) (omega arith) (take-lowers s k v x w)
have-lowers s v x (Do a ∷ w) = tt
have-lowers s v x (Run block ∷ w) = tt
have-lowers s v x (Next test step body ∷ w) = tt
have-lowers s v x (Again body c ∷ w) = tt

moved-to : (n m : ℕ) (a : Step Thread) → n ≡ m → Lowers n a → Lowers m a
moved-to n m a e h = subst (λ k. Lowers k a) e h

work-lowers : (s : Version) (x : Context) (w : Work) → Lowers (whole x w) (work_step s x w)
work-lowers s x [] = end-lowers s x (function_at s x.function) _ (omega arith)
work-lowers s x (Eval e ∷ w) = moved-to _ _ (eval_step s e x w) (omega arith) (eval-lowers s e x w)
work-lowers s x (Have v ∷ w) = moved-to _ _ (have_step s v x w) (omega arith) (have-lowers s v x w)
work-lowers s x (Wait k ∷ w) = tt
work-lowers s x (Do a ∷ w) = moved-to _ _ (begin_step s a x w) (omega arith) (begin-lowers s a x w)
work-lowers s x (Run Done ∷ w) = omega arith
work-lowers s x (Run (Then a block) ∷ w) = omega arith
work-lowers s x (Next test step body ∷ w) = moved-to _ _ (next_step test step body x w) (omega arith) (next-lowers test step body x w)
work-lowers s x (Again body c ∷ w) = omega arith

frames-lowers : (s : Version) (fs : List Frame) (r : Restart) → Lowers (frames_weight fs) (frames_step s fs r)
frames-lowers s [] r = tt
frames-lowers s (f ∷ below) r =
    moved-to _ _ (frames_step s (f ∷ below) r) (omega arith)
    (work-lowers s (record { function = f.function; locals = f.locals; below = below; restart = r }) f.work)

pub step-IsLowering : (s : Version) → IsLowering (step s) thread_weight
step-IsLowering s = record { lower = λ t u e. subst (Lowers (thread_weight t)) e (frames-lowers s t.frames t.restart) }

-- settling passes a quiet step, stays where the step is not quiet, and ends in one act, trap or end
pub settle-quiet : (s : Version) (t u : Thread) → step s t ≡ Quiet u → settle s t ≡ settle s u
unfolding settle
settle-quiet s t u e = settle_by-quiet (step s) thread_weight (step-IsLowering s) t u e

pub settle-rests : (s : Version) (t : Thread) → IsHead (step s t) → settle s t ≡ t
unfolding settle
settle-rests s t h = settle_by-rests (step s) thread_weight t h

pub settle-settles : (s : Version) (t : Thread) → Settles (step s) t (settle s t)
unfolding settle
settle-settles s t = settle_by-settles (step s) thread_weight (step-IsLowering s) t
