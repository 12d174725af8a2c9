-- Code settles: each quiet step lowers the measure.
use Rattle.std.specs.Prelude.{◌≡◌, ℕ, suc, ◌+◌, ◌-◌, ◌<◌, ◌≤◌, nat_le, Bool, true, false, List, [], ◌∷◌, length, reverse, take, drop, slice_get, Option, None, Some, Result, Ok, Err, if◌then◌else◌}
use Rattle.std.proofs.Common.{arith, subst, ap, refl, sym, ◌∙◌}
use Rattle.std.proofs.lemmas.Option.{slice_get_within}
use Rattle.kt_mem.specs.declared.memory.Value.{Value}
use Rattle.kt_mem.specs.declared.memory.Value.TheVariants.{Num, Null, Ptr, Free, Held, Undef}
use Rattle.kt_mem.specs.declared.steps.Act.{Act}
use Rattle.kt_mem.specs.declared.steps.Trap.{Trap}
use Rattle.kt_mem.specs.Comparisons.{zero_test}
use Rattle.kt_mem.specs.Values.{truth}
use Rattle.kt_tree.specs.declared.expr.Request.{Request}
use Rattle.kt_meaning.specs.Steps.{Step, Quiet, Acts, Traps, Ends, IsHead, IsLowering, Settles}
use Rattle.kt_meaning.specs.Requests.{act_of}
use Rattle.kt_meaning.specs.Thread.{defined_if}
use Rattle.kt_meaning.proofs.Settling.{settle_by-quiet, settle_by-rests, settle_by-settles}
use Rattle.kt_code.specs.Code.{Code}
use Rattle.kt_code.specs.Machine.{Here, passes, goes_back, with_local, goes, gives, tested, on_top, on_two, on_list, unary, binary, swaps, asks, calls, main_returns, returns, leaves, do_one, instr_step, here, frames_step, step}
use Rattle.kt_code.specs.Requests.{operand_count, untyped}
use Rattle.kt_code.specs.Settling.{IsJump, HasJumps, is_tick, room, rooms, weight, settle}
use Rattle.kt_code.specs.declared.frame.Frame.{Frame}
use Rattle.kt_code.specs.declared.private.Private.{Private}
use Rattle.kt_code.specs.declared.instr.Instr.{Instr}
use Rattle.kt_code.specs.declared.instr.Instr.TheVariants as instr

-- a step is no quiet one, or it leads below n
abbrev Lowers : List Instr → ℕ → Step Private → Type 0
Lowers instrs n (Quiet y) = rooms instrs y.frames < n
Lowers instrs n (Acts a go) = Unit {0}
Lowers instrs n (Traps t) = Unit {0}
Lowers instrs n (Ends a) = Unit {0}

-- the measure before an instruction, behind which the state stands: of one that is no tick, and of any
abbrev before : List Instr → Here → ℕ
before instrs x = suc (suc (length instrs - x.at)) + rooms instrs x.below

abbrev before_one : List Instr → Instr → Here → ℕ
before_one instrs i x = (if is_tick (Some i) then 0 else suc (suc (length instrs - x.at))) + rooms instrs x.below

-- ---- the room at a place

choice-below : (b : Bool) (n : ℕ) → (if b then 0 else n) ≤ n
choice-below true n = omega arith
choice-below false n = omega arith

room-below : (instrs : List Instr) (at : ℕ) → room instrs at ≤ suc (length instrs - at)
room-below instrs at = choice-below (is_tick (slice_get instrs at)) (suc (length instrs - at))

room-tick : (instrs : List Instr) (at : ℕ) → slice_get instrs at ≡ Some instr.Tick → room instrs at ≡ 0
room-tick instrs at e = ap (λ o. if is_tick o then 0 else suc (length instrs - at)) e

-- ---- the thread goes on

goes-lowers : (instrs : List Instr) (x : Here) (ops : List Value) → Lowers instrs (before instrs x) (goes x ops)
goes-lowers instrs x ops = omega (arith, room-below instrs x.at)

-- passing instructions of the code
passes-lowers : (instrs : List Instr) (n : ℕ) (x : Here) (ops : List Value) → x.at + n ≤ length instrs →
    Lowers instrs (before instrs x) (goes (passes n x) ops)
passes-lowers instrs n x ops h = omega (arith, room-below instrs (x.at + n))

-- going back to a tick
back-lowers : (instrs : List Instr) (n : ℕ) (x : Here) (ops : List Value) → slice_get instrs (x.at - n) ≡ Some instr.Tick →
    Lowers instrs (before instrs x) (goes (goes_back n x) ops)
back-lowers instrs n x ops h = omega (arith, room-tick instrs (x.at - n) h)

gives-lowers : (instrs : List Instr) (x : Here) (ops : List Value) (r : Result Value Trap) → Lowers instrs (before instrs x) (gives x ops r)
gives-lowers instrs x ops (Ok v) = goes-lowers instrs x (v ∷ ops)
gives-lowers instrs x ops (Err t) = tt

swaps-lowers : (instrs : List Instr) (x : Here) (k : ℕ) (v : Value) (ops : List Value) (r : Result Value Trap) →
    Lowers instrs (before instrs x) (swaps x k v ops r)
swaps-lowers instrs x k v ops (Ok old) = goes-lowers instrs (with_local x k v) (old ∷ ops)
swaps-lowers instrs x k v ops (Err t) = tt

tested-lowers : (instrs : List Instr) (n : ℕ) (r : Result Bool Trap) (a b : Step Private) → Lowers instrs n a → Lowers instrs n b →
    Lowers instrs n (tested r a b)
tested-lowers instrs n (Ok true) a b h k = h
tested-lowers instrs n (Ok false) a b h k = k
tested-lowers instrs n (Err t) a b h k = tt

choice-lowers : (instrs : List Instr) (n : ℕ) (b : Bool) (p q : Step Private) → Lowers instrs n p → Lowers instrs n q →
    Lowers instrs n (if b then p else q)
choice-lowers instrs n true p q h k = h
choice-lowers instrs n false p q h k = k

-- ---- operands

on-top-lowers : (instrs : List Instr) (n : ℕ) (f : Value → List Value → Step Private) (ops : List Value) →
    ((v : Value) (rest : List Value) → Lowers instrs n (f v rest)) → Lowers instrs n (on_top f ops)
on-top-lowers instrs n f [] h = tt
on-top-lowers instrs n f (v ∷ ops) h = h v ops

on-two-lowers : (instrs : List Instr) (n : ℕ) (f : Value → Value → List Value → Step Private) (ops : List Value) →
    ((a b : Value) (rest : List Value) → Lowers instrs n (f a b rest)) → Lowers instrs n (on_two f ops)
on-two-lowers instrs n f [] h = tt
on-two-lowers instrs n f (b ∷ []) h = tt
on-two-lowers instrs n f (b ∷ a ∷ ops) h = h a b ops

on-list-lowers : (instrs : List Instr) (n k : ℕ) (f : List Value → List Value → Step Private) (ops : List Value) →
    ((vs rest : List Value) → Lowers instrs n (f vs rest)) → Lowers instrs n (on_list k f ops)
on-list-lowers instrs n k f ops h = choice-lowers instrs n (nat_le k (length ops)) _ _ (h (reverse (take k ops)) (drop k ops)) tt

unary-lowers : (instrs : List Instr) (f : Value → Result Value Trap) (x : Here) (ops : List Value) →
    Lowers instrs (before instrs x) (unary f x ops)
unary-lowers instrs f x ops = on-top-lowers instrs (before instrs x) _ ops (λ a rest. gives-lowers instrs x rest (f a))

binary-lowers : (instrs : List Instr) (f : Value → Value → Result Value Trap) (x : Here) (ops : List Value) →
    Lowers instrs (before instrs x) (binary f x ops)
binary-lowers instrs f x ops = on-two-lowers instrs (before instrs x) _ ops (λ a b rest. gives-lowers instrs x rest (f a b))

tests-lower : (instrs : List Instr) (n : ℕ) (ops : List Value) (f g : Value → List Value → Step Private) →
    ((v : Value) (rest : List Value) → Lowers instrs n (f v rest)) → ((v : Value) (rest : List Value) → Lowers instrs n (g v rest)) →
    Lowers instrs n (on_top (λ v rest. tested (zero_test v) (f v rest) (g v rest)) ops)
tests-lower instrs n ops f g h k =
    on-top-lowers instrs n _ ops (λ v rest. tested-lowers instrs n (zero_test v) (f v rest) (g v rest) (h v rest) (k v rest))

-- ---- acts and calls

asks-lowers : (instrs : List Instr) (n : ℕ) (x : Here) (ops : List Value) (q : Request) (vs : List Value) (r : Result Act Trap) →
    Lowers instrs n (asks x ops q vs r)
asks-lowers instrs n x ops q vs (Ok a) = tt
asks-lowers instrs n x ops q vs (Err t) = tt

calls-lowers : (instrs : List Instr) (n : ℕ) (x : Here) (g locals : ℕ) (at : Option ℕ) (vs ops : List Value) →
    Lowers instrs n (calls x g locals at vs ops)
calls-lowers instrs n x g locals None vs ops = tt
calls-lowers instrs n x g locals (Some at) vs ops = choice-lowers instrs n (nat_le 200 (suc (length x.below))) _ _ tt tt

main-returns-lowers : (instrs : List Instr) (n : ℕ) (v : Value) → Lowers instrs n (main_returns v)
main-returns-lowers instrs n (Num z) = tt
main-returns-lowers instrs n Null = tt
main-returns-lowers instrs n (Ptr name k) = tt
main-returns-lowers instrs n Free = tt
main-returns-lowers instrs n (Held thread) = tt
main-returns-lowers instrs n Undef = tt

returns-lowers : (instrs : List Instr) (n : ℕ) (x : Here) (v : Value) (ops : List Value) (below : List Frame) →
    rooms instrs below < n → Lowers instrs n (returns x v ops below)
returns-lowers instrs n x v ops [] h = main-returns-lowers instrs n v
returns-lowers instrs n x v ops (f ∷ below) h = h

leaves-lowers : (instrs : List Instr) (n : ℕ) (x : Here) (ops : List Value) (below : List Frame) →
    rooms instrs below < n → Lowers instrs n (leaves x ops below)
leaves-lowers instrs n x ops [] h = tt
leaves-lowers instrs n x ops (f ∷ below) h = h

below-lower : (instrs : List Instr) (x : Here) → rooms instrs x.below < before instrs x
below-lower instrs x = omega arith

-- ---- instructions

one-lowers : (instrs : List Instr) (entries : List ℕ) (i : Instr) (x : Here) (ops : List Value) → IsJump instrs x.at i →
    Lowers instrs (before_one instrs i x) (do_one entries i x ops)
one-lowers instrs entries (instr.Number n) x ops h = goes-lowers instrs x ops
one-lowers instrs entries instr.Null x ops h = goes-lowers instrs x ops
one-lowers instrs entries (instr.Global g) x ops h = goes-lowers instrs x ops
one-lowers instrs entries (instr.Literal n) x ops h = goes-lowers instrs x ops
one-lowers instrs entries (instr.Read n) x ops h = gives-lowers instrs x ops _
one-lowers instrs entries (instr.Set n) x ops h =
    on-top-lowers instrs (before instrs x) _ ops (λ v rest. goes-lowers instrs (with_local x n v) (v ∷ rest))
one-lowers instrs entries (instr.Swap n) x ops h =
    on-top-lowers instrs (before instrs x) _ ops (λ v rest. swaps-lowers instrs x n v rest (defined_if (slice_get x.locals n)))
one-lowers instrs entries (instr.Undefine n) x ops h = goes-lowers instrs (with_local x n Undef) ops
one-lowers instrs entries instr.Discard x ops h = on-top-lowers instrs (before instrs x) _ ops (λ v rest. goes-lowers instrs x rest)
one-lowers instrs entries instr.Duplicate x ops h =
    on-top-lowers instrs (before instrs x) _ ops (λ v rest. goes-lowers instrs x (v ∷ v ∷ rest))
one-lowers instrs entries (instr.Add t) x ops h = binary-lowers instrs _ x ops
one-lowers instrs entries (instr.Subtract t) x ops h = binary-lowers instrs _ x ops
one-lowers instrs entries (instr.Multiply t) x ops h = binary-lowers instrs _ x ops
one-lowers instrs entries (instr.Divide t) x ops h = binary-lowers instrs _ x ops
one-lowers instrs entries (instr.Remainder t) x ops h = binary-lowers instrs _ x ops
one-lowers instrs entries (instr.Convert t) x ops h = unary-lowers instrs _ x ops
one-lowers instrs entries instr.Less x ops h = binary-lowers instrs _ x ops
one-lowers instrs entries instr.Greater x ops h = binary-lowers instrs _ x ops
one-lowers instrs entries instr.LessEqual x ops h = binary-lowers instrs _ x ops
one-lowers instrs entries instr.GreaterEqual x ops h = binary-lowers instrs _ x ops
one-lowers instrs entries instr.Equal x ops h = binary-lowers instrs _ x ops
one-lowers instrs entries instr.NotEqual x ops h = binary-lowers instrs _ x ops
one-lowers instrs entries instr.Not x ops h = unary-lowers instrs _ x ops
one-lowers instrs entries (instr.ElementAfter w) x ops h = binary-lowers instrs _ x ops
one-lowers instrs entries (instr.ElementBefore w) x ops h = binary-lowers instrs _ x ops
one-lowers instrs entries (instr.ElementsBetween w) x ops h = binary-lowers instrs _ x ops
one-lowers instrs entries (instr.Field n) x ops h = unary-lowers instrs _ x ops
one-lowers instrs entries (instr.Load t) x ops h = on-top-lowers instrs (before instrs x) _ ops (λ v rest. tt)
one-lowers instrs entries (instr.Fetch t) x ops h = on-top-lowers instrs (before instrs x) _ ops (λ v rest. tt)
one-lowers instrs entries (instr.Store t) x ops h = on-two-lowers instrs (before instrs x) _ ops (λ a b rest. tt)
one-lowers instrs entries (instr.StoreOld t) x ops h =
    on-top-lowers instrs (before instrs x) _ ops (λ v more. on-two-lowers instrs (before instrs x) _ more (λ a b rest. tt))
one-lowers instrs entries (instr.Ask q) x ops h =
    on-list-lowers instrs (before instrs x) (operand_count q) _ ops
    (λ vs rest. asks-lowers instrs (before instrs x) x rest q vs (act_of untyped x.function q None vs))
one-lowers instrs entries instr.Tick x ops h = tt
one-lowers instrs entries (instr.Call g arguments locals) x ops h =
    on-list-lowers instrs (before instrs x) arguments _ ops
    (λ vs rest. calls-lowers instrs (before instrs x) x g locals (slice_get entries g) vs rest)
one-lowers instrs entries (instr.Skip n) x ops h = passes-lowers instrs n x ops h
one-lowers instrs entries (instr.SkipIfZero n) x ops h =
    tests-lower instrs (before instrs x) ops (λ v rest. goes (passes n x) rest) (λ v rest. goes x rest)
    (λ v rest. passes-lowers instrs n x rest h) (λ v rest. goes-lowers instrs x rest)
one-lowers instrs entries (instr.And n) x ops h =
    tests-lower instrs (before instrs x) ops (λ v rest. goes (passes n x) (truth false ∷ rest)) (λ v rest. goes x rest)
    (λ v rest. passes-lowers instrs n x (truth false ∷ rest) h) (λ v rest. goes-lowers instrs x rest)
one-lowers instrs entries (instr.Or n) x ops h =
    tests-lower instrs (before instrs x) ops (λ v rest. goes x rest) (λ v rest. goes (passes n x) (truth true ∷ rest))
    (λ v rest. goes-lowers instrs x rest) (λ v rest. passes-lowers instrs n x (truth true ∷ rest) h)
one-lowers instrs entries instr.Truth x ops h =
    tests-lower instrs (before instrs x) ops (λ v rest. goes x (truth false ∷ rest)) (λ v rest. goes x (truth true ∷ rest))
    (λ v rest. goes-lowers instrs x (truth false ∷ rest)) (λ v rest. goes-lowers instrs x (truth true ∷ rest))
one-lowers instrs entries (instr.Back n) x ops h = back-lowers instrs n x ops (h.1)
one-lowers instrs entries (instr.BackIfNotZero n) x ops h =
    tests-lower instrs (before instrs x) ops (λ v rest. goes x rest) (λ v rest. goes (goes_back n x) rest)
    (λ v rest. goes-lowers instrs x rest) (λ v rest. back-lowers instrs n x rest (h.1))
one-lowers instrs entries instr.Return x ops h =
    on-top-lowers instrs (before instrs x) _ ops (λ v rest. returns-lowers instrs (before instrs x) x v rest x.below (below-lower instrs x))
one-lowers instrs entries instr.Leave x ops h = leaves-lowers instrs (before instrs x) x ops x.below (below-lower instrs x)
one-lowers instrs entries instr.NoValue x ops h = tt

-- ---- the next step

room-at : (instrs : List Instr) (at : ℕ) (i : Instr) → slice_get instrs at ≡ Some i →
    room instrs at ≡ (if is_tick (Some i) then 0 else suc (length instrs - at))
room-at instrs at i e = ap (λ o. if is_tick o then 0 else suc (length instrs - at)) e

behind : (instrs : List Instr) (at : ℕ) (i : Instr) → slice_get instrs at ≡ Some i → suc (suc (length instrs - suc at)) ≡ suc (length instrs - at)
behind instrs at i e = let within = slice_get_within instrs at i e in omega arith

-- the measure of a state before an instruction, told by what stands behind it
weight-before : (instrs : List Instr) (p : Private) (f : Frame) (below : List Frame) (i : Instr) → slice_get instrs f.at ≡ Some i →
    before_one instrs i (here p f below) ≡ rooms instrs (f ∷ below)
weight-before instrs p f below i e =
    ap (λ n. (if is_tick (Some i) then 0 else n) + rooms instrs below) (behind instrs f.at i e)
    ∙ ap (λ n. n + rooms instrs below) (sym (room-at instrs f.at i e))

instr-lowers : (instrs : List Instr) (entries : List ℕ) → HasJumps instrs → (p : Private) (f : Frame) (below : List Frame) (o : Option Instr) →
    slice_get instrs f.at ≡ o → Lowers instrs (rooms instrs (f ∷ below)) (instr_step entries o (here p f below) p.operands)
instr-lowers instrs entries jumps p f below None e = tt
instr-lowers instrs entries jumps p f below (Some i) e =
    subst (λ n. Lowers instrs n (do_one entries i (here p f below) p.operands)) (weight-before instrs p f below i e)
    (one-lowers instrs entries i (here p f below) p.operands (jumps f.at i e))

frames-lower : (instrs : List Instr) (entries : List ℕ) → HasJumps instrs → (p : Private) (frames : List Frame) →
    Lowers instrs (rooms instrs frames) (frames_step instrs entries p frames)
frames-lower instrs entries jumps p [] = tt
frames-lower instrs entries jumps p (f ∷ below) = instr-lowers instrs entries jumps p f below (slice_get instrs f.at) refl

quiet-lower : (instrs : List Instr) (n : ℕ) (s : Step Private) (y : Private) → s ≡ Quiet y → Lowers instrs n s → rooms instrs y.frames < n
quiet-lower instrs n s y e h = subst (Lowers instrs n) e h

pub step-IsLowering : (c : Code) → HasJumps c.instrs → IsLowering (step c) (weight c)
step-IsLowering c jumps = record {
  lower = λ x y e. quiet-lower c.instrs (weight c x) (step c x) y e (frames-lower c.instrs c.entries jumps x x.frames);
}

pub settle-settles : (c : Code) → HasJumps c.instrs → (p : Private) → Settles (step c) p (settle c p)
unfolding settle
settle-settles c jumps p = settle_by-settles (step c) (weight c) (step-IsLowering c jumps) p

-- settling passes a quiet step, and stays at any other
pub settle-quiet : (c : Code) → HasJumps c.instrs → (x y : Private) → step c x ≡ Quiet y → settle c x ≡ settle c y
unfolding settle
settle-quiet c jumps x y e = settle_by-quiet (step c) (weight c) (step-IsLowering c jumps) x y e

pub settle-rests : (c : Code) (x : Private) → IsHead (step c x) → settle c x ≡ x
unfolding settle
settle-rests c x h = settle_by-rests (step c) (weight c) x h
