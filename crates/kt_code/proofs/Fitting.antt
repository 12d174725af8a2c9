-- What fits code: every instruction that is met has its place and its operands where settling comes to a step of a thread.
use Rattle.std.specs.Prelude.{◌≡◌, ℕ, zero, suc, ◌≤◌, nat_le, Bool, true, false, List, [], ◌∷◌, length, reverse, take, drop, slice_get, Option, None, Some, if◌then◌else◌, refl}
use Rattle.std.proofs.Common.{arith, subst, ap, sym}
use Rattle.std.proofs.lemmas.Bool.{false≢true}
use Rattle.std.proofs.lemmas.Bool.Decides.{nat_tests}
use Rattle.kt_mem.specs.declared.memory.Value.{Value}
use Rattle.kt_meaning.specs.Requests.{act_of}
use Rattle.kt_meaning.specs.Steps.{Step, Quiet, Acts, Traps, Ends, IsHead, or_rest, settle_within}
use Rattle.kt_code.specs.Code.{Code}
use Rattle.kt_code.specs.Machine.{Here, stuck, on_top, on_two, on_list, asks, calls, do_one, instr_step, here, frames_step, step}
use Rattle.kt_code.specs.Requests.{operand_count, untyped}
use Rattle.kt_code.specs.Settling.{HasJumps, weight, settle, operands_of, HasNext, HasEach, FitsHead, FitsFor, Fits}
use Rattle.kt_code.specs.declared.frame.Frame.{Frame}
use Rattle.kt_code.specs.declared.private.Private.{Private}
use Rattle.kt_code.specs.declared.instr.Instr.{Instr}
use Rattle.kt_code.specs.declared.instr.Instr.TheVariants as instr
use Rattle.kt_code.proofs.CodeSettling.{settle-settles, settle-rests}

-- the step is one of a thread
abbrev pub IsStep : Step Private → Type 0
IsStep s = s ≡ stuck → ⊥

-- ---- operands

top-has : (f : Value → List Value → Step Private) (ops : List Value) → IsStep (on_top f ops) → 1 ≤ length ops
top-has f [] h = absurd (h refl)
top-has f (v ∷ ops) h = omega arith

two-has : (f : Value → Value → List Value → Step Private) (ops : List Value) → IsStep (on_two f ops) → 2 ≤ length ops
two-has f [] h = absurd (h refl)
two-has f (b ∷ []) h = absurd (h refl)
two-has f (b ∷ a ∷ ops) h = omega arith

three-has : (f : Value → Value → Value → List Value → Step Private) (ops : List Value) →
    IsStep (on_top (λ v more. on_two (f v) more) ops) → 3 ≤ length ops
three-has f [] h = absurd (h refl)
three-has f (v ∷ ops) h = let more = two-has (f v) ops h in omega (arith, more)

list-has : (n : ℕ) (f : List Value → List Value → Step Private) (ops : List Value) → IsStep (on_list n f ops) → n ≤ length ops
list-has n f ops h = by_test (nat_le n (length ops)) refl
  where
    by_test : (b : Bool) → nat_le n (length ops) ≡ b → n ≤ length ops
    by_test true e = grind (arith, nat_tests, e)
    by_test false e = absurd (h (ap (λ b. if b then f (reverse (take n ops)) (drop n ops) else stuck) e))

none-has : (ops : List Value) → 0 ≤ length ops
none-has ops = omega arith

-- an instruction that is a step has its operands
one-has : (entries : List ℕ) (i : Instr) (x : Here) (ops : List Value) → IsStep (do_one entries i x ops) → operands_of i ≤ length ops
one-has entries (instr.Set n) x ops h = top-has _ ops h
one-has entries (instr.Swap n) x ops h = top-has _ ops h
one-has entries instr.Discard x ops h = top-has _ ops h
one-has entries instr.Duplicate x ops h = top-has _ ops h
one-has entries (instr.Add t) x ops h = two-has _ ops h
one-has entries (instr.Subtract t) x ops h = two-has _ ops h
one-has entries (instr.Multiply t) x ops h = two-has _ ops h
one-has entries (instr.Divide t) x ops h = two-has _ ops h
one-has entries (instr.Remainder t) x ops h = two-has _ ops h
one-has entries (instr.Convert t) x ops h = top-has _ ops h
one-has entries instr.Less x ops h = two-has _ ops h
one-has entries instr.Greater x ops h = two-has _ ops h
one-has entries instr.LessEqual x ops h = two-has _ ops h
one-has entries instr.GreaterEqual x ops h = two-has _ ops h
one-has entries instr.Equal x ops h = two-has _ ops h
one-has entries instr.NotEqual x ops h = two-has _ ops h
one-has entries instr.Not x ops h = top-has _ ops h
one-has entries (instr.ElementAfter w) x ops h = two-has _ ops h
one-has entries (instr.ElementBefore w) x ops h = two-has _ ops h
one-has entries (instr.ElementsBetween w) x ops h = two-has _ ops h
one-has entries (instr.Field n) x ops h = top-has _ ops h
one-has entries (instr.Load t) x ops h = top-has _ ops h
one-has entries (instr.Fetch t) x ops h = top-has _ ops h
one-has entries (instr.Store t) x ops h = two-has _ ops h
one-has entries (instr.StoreOld t) x ops h = three-has _ ops h
one-has entries (instr.Ask q) x ops h = list-has (operand_count q) (λ vs rest. asks x rest q vs (act_of untyped x.function q None vs)) ops h
one-has entries (instr.Call g arguments locals) x ops h = list-has arguments (λ vs rest. calls x g locals (slice_get entries g) vs rest) ops h
one-has entries (instr.SkipIfZero n) x ops h = top-has _ ops h
one-has entries (instr.And n) x ops h = top-has _ ops h
one-has entries (instr.Or n) x ops h = top-has _ ops h
one-has entries instr.Truth x ops h = top-has _ ops h
one-has entries (instr.BackIfNotZero n) x ops h = top-has _ ops h
one-has entries instr.Return x ops h = top-has _ ops h
one-has entries (instr.Number n) x ops h = none-has ops
one-has entries instr.Null x ops h = none-has ops
one-has entries (instr.Global g) x ops h = none-has ops
one-has entries (instr.Literal n) x ops h = none-has ops
one-has entries (instr.Read n) x ops h = none-has ops
one-has entries (instr.Undefine n) x ops h = none-has ops
one-has entries instr.Tick x ops h = none-has ops
one-has entries (instr.Skip n) x ops h = none-has ops
one-has entries (instr.Back n) x ops h = none-has ops
one-has entries instr.Leave x ops h = none-has ops
one-has entries instr.NoValue x ops h = none-has ops

-- ---- the next instruction

instr-has : (c : Code) (p : Private) (f : Frame) (below : List Frame) (o : Option Instr) → p.frames ≡ f ∷ below → slice_get c.instrs f.at ≡ o →
    IsStep (instr_step c.entries o (here p f below) p.operands) → HasNext c p
instr-has c p f below None first e h = absurd (h refl)
instr-has c p f below (Some i) first e h = record {
  frame = f;
  below = below;
  first = first;
  instruction = i;
  place = e;
  operands = one-has c.entries i (here p f below) p.operands h;
}

frames-have : (c : Code) (p : Private) (frames : List Frame) → p.frames ≡ frames → IsStep (frames_step c.instrs c.entries p frames) → HasNext c p
frames-have c p [] e h = absurd (h refl)
frames-have c p (f ∷ below) e h = instr-has c p f below (slice_get c.instrs f.at) e refl h

-- where settling comes to a step of a thread, each instruction on the way has its place and its operands
each-has : (c : Code) → HasJumps c.instrs → (p : Private) → IsStep (step c (settle c p)) → HasEach c p
each-has c jumps p h k q comes =
    frames-have c q q.frames refl
    (λ e. h (subst (λ z. step c z ≡ stuck) ((settle-settles c jumps p).only k q comes (subst IsHead (sym e) tt)) e))

-- ---- what fits

fits-head-step : (P : Private → Type 0) (s : Step Private) → FitsHead P s → IsStep s
fits-head-step P s h e = false≢true (subst (FitsHead P) e h)

-- where the head fits, the state does
pub fits_for-head : (c : Code) → HasJumps c.instrs → (n : ℕ) (p : Private) → FitsHead (FitsFor c n) (step c (settle c p)) → FitsFor c (suc n) p
fits_for-head c jumps n p h = (each-has c jumps p (fits-head-step (FitsFor c n) (step c (settle c p)) h), h)

pub fits-head-is : (P : Private → Type 0) (s : Step Private) → FitsHead P s → IsHead s
fits-head-is P (Quiet y) h = absurd h
fits-head-is P (Acts a go) h = tt
fits-head-is P (Traps t) h = tt
fits-head-is P (Ends a) h = tt

-- ---- settling

rest-has : (c : Code) (later : Private → Private) → ((y : Private) → HasEach c y → HasEach c (later y)) → (x : Private) (s : Step Private) →
    step c x ≡ s → HasEach c x → HasEach c (or_rest later x s)
rest-has c later k x (Quiet y) e h = k y (λ l q on. h (suc l) q (y, e, on))
rest-has c later k x (Acts a go) e h = h
rest-has c later k x (Traps t) e h = h
rest-has c later k x (Ends a) e h = h

within-has : (c : Code) (n : ℕ) (x : Private) → HasEach c x → HasEach c (settle_within (step c) n x)
within-has c zero x h = h
within-has c (suc n) x h = rest-has c (settle_within (step c) n) (λ y k. within-has c n y k) x (step c x) refl h

settled-has : (c : Code) (x : Private) → HasEach c x → HasEach c (settle c x)
unfolding settle
settled-has c x h = within-has c (weight c x) x h

-- what fits code settles to what fits
pub fits-settled : (c : Code) (p : Private) → Fits c p → Fits c (settle c p)
fits-settled c p h zero = tt
fits-settled c p h (suc n) =
    let there = h (suc n) in
    let head = fits-head-is (FitsFor c n) (step c (settle c p)) (there.1) in
    (settled-has c p (there.0), subst (λ q. FitsHead (FitsFor c n) (step c q)) (sym (settle-rests c (settle c p) head)) (there.1))
