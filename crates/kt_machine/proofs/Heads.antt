-- What a step of code is, by its head.
use Rattle.std.specs.Prelude.{◌≡◌, ℕ, suc, nat_le, Bool, true, false, List, [], ◌∷◌, length, Option, None, Some, Result, Ok, Err, slice_get, if◌then◌else◌, refl}
use Rattle.std.proofs.Common.{sym, subst, ap, ◌∙◌}
use Rattle.kt_mem.specs.declared.memory.Value.{Value}
use Rattle.kt_mem.specs.declared.memory.Value.TheVariants.{Num}
use Rattle.kt_mem.specs.declared.steps.Act.{Act}
use Rattle.kt_mem.specs.declared.steps.Act.TheVariants as act
use Rattle.kt_mem.specs.declared.steps.Piece.{Piece}
use Rattle.kt_mem.specs.declared.steps.Reply.{Reply}
use Rattle.kt_mem.specs.declared.steps.Trap.{Trap}
use Rattle.kt_mem.specs.Comparisons.{zero_test}
use Rattle.kt_mem.specs.Memory.{Memory}
use Rattle.kt_tree.specs.declared.expr.Request.{Request}
use Rattle.kt_tree.specs.declared.expr.Request.TheVariants as request
use Rattle.kt_meaning.specs.Requests.{act_of, pieces, printed, takes_reply}
use Rattle.kt_meaning.specs.Steps.{Step, Quiet, Acts, Traps, Ends}
use Rattle.kt_code.specs.Code.{Code}
use Rattle.kt_code.specs.Machine.{Here, on_top, on_two, on_list, tested, gives, swaps, asks, calls, returns, main_returns, leaves, do_one, instr_step, frames_step}
use Rattle.kt_code.specs.Requests.{untyped}
use Rattle.kt_code.specs.Settling.{head_of}
use Rattle.kt_code.specs.declared.frame.Frame.{Frame}
use Rattle.kt_code.specs.declared.instr.Instr.{Instr}
use Rattle.kt_code.specs.declared.instr.Instr.TheVariants as instr
use Rattle.kt_code.specs.declared.private.Head.{Head}
use Rattle.kt_code.specs.declared.private.Head.TheVariants as head
use Rattle.kt_code.specs.declared.private.Private.{Private}
use Rattle.kt_pair.specs.Pair.{Pair}
use Rattle.kt_lone.specs.Turn.{is_waiting}
use Rattle.kt_lone.specs.Update.{point_of, point_of_act}
use Rattle.kt_machine.specs.Acts.{waits_at}
use Rattle.kt_machine.specs.Closing.{old_point}
use Rattle.kt_machine.specs.Engine.{code_step}

-- ---- an act takes a reply, and a last one takes none

abbrev pub IsPlaced : Step Private → Type 0
IsPlaced (Quiet x) = Unit {0}
IsPlaced (Acts a go) = takes_reply a ≡ true
IsPlaced (Traps t) = Unit {0}
IsPlaced (Ends a) = takes_reply a ≡ false

if-placed : (b : Bool) (s t : Step Private) → IsPlaced s → IsPlaced t → IsPlaced (if b then s else t)
if-placed true s t h k = h
if-placed false s t h k = k

gives-placed : (x : Here) (ops : List Value) (r : Result Value Trap) → IsPlaced (gives x ops r)
gives-placed x ops (Ok v) = tt
gives-placed x ops (Err t) = tt

swaps-placed : (x : Here) (n : ℕ) (v : Value) (ops : List Value) (r : Result Value Trap) → IsPlaced (swaps x n v ops r)
swaps-placed x n v ops (Ok old) = tt
swaps-placed x n v ops (Err t) = tt

tested-placed : (r : Result Bool Trap) (s t : Step Private) → IsPlaced s → IsPlaced t → IsPlaced (tested r s t)
tested-placed (Ok true) s t h k = h
tested-placed (Ok false) s t h k = k
tested-placed (Err e) s t h k = tt

top-placed : (f : Value → List Value → Step Private) (ops : List Value) → ((v : Value) (rest : List Value) → IsPlaced (f v rest)) → IsPlaced (on_top f ops)
top-placed f [] h = refl
top-placed f (v ∷ ops) h = h v ops

two-placed : (f : Value → Value → List Value → Step Private) (ops : List Value) → ((a b : Value) (rest : List Value) → IsPlaced (f a b rest)) →
    IsPlaced (on_two f ops)
two-placed f [] h = refl
two-placed f (b ∷ []) h = refl
two-placed f (b ∷ a ∷ ops) h = h a b ops

list-placed : (n : ℕ) (f : List Value → List Value → Step Private) (ops : List Value) → ((vs rest : List Value) → IsPlaced (f vs rest)) →
    IsPlaced (on_list n f ops)
list-placed n f ops h = if-placed (nat_le n (length ops)) _ _ (h _ _) refl

abbrev Takes : Result Act Trap → Type 0
Takes (Ok a) = takes_reply a ≡ true
Takes (Err t) = Unit {0}

printed-takes : (r : Result (List Piece) Trap) → Takes (printed r)
printed-takes (Ok ps) = refl
printed-takes (Err t) = tt

act_of-takes : (f : ℕ) (q : Request) (vs : List Value) → Takes (act_of untyped f q None vs)
act_of-takes f request.Load (p ∷ []) = tt
act_of-takes f request.Store (p ∷ v ∷ []) = tt
act_of-takes f (request.Allocate e zeros) (Num n ∷ []) = refl
act_of-takes f request.Release (p ∷ []) = refl
act_of-takes f request.Lock (p ∷ []) = refl
act_of-takes f request.Unlock (p ∷ []) = refl
act_of-takes f request.InitMutex (p ∷ []) = refl
act_of-takes f request.GetChar [] = refl
act_of-takes f request.PutChar (Num n ∷ []) = refl
act_of-takes f request.Puts (p ∷ []) = refl
act_of-takes f (request.Print parts) vs = printed-takes (pieces parts vs)
act_of-takes f (request.Create g) (v ∷ []) = refl
act_of-takes f request.Join (Num n ∷ []) = refl
act_of-takes f (request.Point n) [] = refl
act_of-takes f request.IsUpdating [] = refl
act_of-takes f (request.IsUpdatingFrom n) [] = refl
act_of-takes f request.Automigrate [] = refl
act_of-takes f (request.MigrateLocal n) [] = refl
act_of-takes f _ vs = tt

asks-placed : (x : Here) (ops : List Value) (q : Request) (vs : List Value) (r : Result Act Trap) → Takes r → IsPlaced (asks x ops q vs r)
asks-placed x ops q vs (Ok a) h = h
asks-placed x ops q vs (Err t) h = tt

calls-placed : (x : Here) (g locals : ℕ) (at : Option ℕ) (vs ops : List Value) → IsPlaced (calls x g locals at vs ops)
calls-placed x g locals None vs ops = tt
calls-placed x g locals (Some at) vs ops = if-placed (nat_le 200 (suc (length x.below))) _ _ tt refl

main_returns-placed : (v : Value) → IsPlaced (main_returns v)
main_returns-placed (Num n) = refl
main_returns-placed v = tt

returns-placed : (x : Here) (v : Value) (ops : List Value) (below : List Frame) → IsPlaced (returns x v ops below)
returns-placed x v ops [] = main_returns-placed v
returns-placed x v ops (f ∷ below) = tt

leaves-placed : (x : Here) (ops : List Value) (below : List Frame) → IsPlaced (leaves x ops below)
leaves-placed x ops [] = refl
leaves-placed x ops (f ∷ below) = tt

instr-placed : (entries : List ℕ) (i : Instr) (x : Here) (ops : List Value) → IsPlaced (do_one entries i x ops)
instr-placed entries (instr.Number n) x ops = tt
instr-placed entries instr.Null x ops = tt
instr-placed entries (instr.Global g) x ops = tt
instr-placed entries (instr.Literal n) x ops = tt
instr-placed entries (instr.Read n) x ops = gives-placed x ops _
instr-placed entries (instr.Set n) x ops = top-placed _ ops (λ v rest. tt)
instr-placed entries (instr.Swap n) x ops = top-placed _ ops (λ v rest. swaps-placed x n v rest _)
instr-placed entries (instr.Undefine n) x ops = tt
instr-placed entries instr.Discard x ops = top-placed _ ops (λ v rest. tt)
instr-placed entries instr.Duplicate x ops = top-placed _ ops (λ v rest. tt)
instr-placed entries (instr.Add t) x ops = two-placed _ ops (λ a b rest. gives-placed x rest _)
instr-placed entries (instr.Subtract t) x ops = two-placed _ ops (λ a b rest. gives-placed x rest _)
instr-placed entries (instr.Multiply t) x ops = two-placed _ ops (λ a b rest. gives-placed x rest _)
instr-placed entries (instr.Divide t) x ops = two-placed _ ops (λ a b rest. gives-placed x rest _)
instr-placed entries (instr.Remainder t) x ops = two-placed _ ops (λ a b rest. gives-placed x rest _)
instr-placed entries (instr.Convert t) x ops = top-placed _ ops (λ v rest. gives-placed x rest _)
instr-placed entries instr.Less x ops = two-placed _ ops (λ a b rest. gives-placed x rest _)
instr-placed entries instr.Greater x ops = two-placed _ ops (λ a b rest. gives-placed x rest _)
instr-placed entries instr.LessEqual x ops = two-placed _ ops (λ a b rest. gives-placed x rest _)
instr-placed entries instr.GreaterEqual x ops = two-placed _ ops (λ a b rest. gives-placed x rest _)
instr-placed entries instr.Equal x ops = two-placed _ ops (λ a b rest. gives-placed x rest _)
instr-placed entries instr.NotEqual x ops = two-placed _ ops (λ a b rest. gives-placed x rest _)
instr-placed entries instr.Not x ops = top-placed _ ops (λ v rest. gives-placed x rest _)
instr-placed entries (instr.ElementAfter w) x ops = two-placed _ ops (λ a b rest. gives-placed x rest _)
instr-placed entries (instr.ElementBefore w) x ops = two-placed _ ops (λ a b rest. gives-placed x rest _)
instr-placed entries (instr.ElementsBetween w) x ops = two-placed _ ops (λ a b rest. gives-placed x rest _)
instr-placed entries (instr.Field n) x ops = top-placed _ ops (λ v rest. gives-placed x rest _)
instr-placed entries (instr.Load t) x ops = top-placed _ ops (λ v rest. refl)
instr-placed entries (instr.Fetch t) x ops = top-placed _ ops (λ v rest. refl)
instr-placed entries (instr.Store t) x ops = two-placed _ ops (λ a b rest. refl)
instr-placed entries (instr.StoreOld t) x ops = top-placed _ ops (λ v more. two-placed _ more (λ a b rest. refl))
instr-placed entries (instr.Ask q) x ops =
    list-placed _ _ ops (λ vs rest. asks-placed x rest q vs (act_of untyped x.function q None vs) (act_of-takes x.function q vs))
instr-placed entries instr.Tick x ops = refl
instr-placed entries (instr.Call g arguments locals) x ops = list-placed _ _ ops (λ vs rest. calls-placed x g locals (slice_get entries g) vs rest)
instr-placed entries (instr.Skip n) x ops = tt
instr-placed entries (instr.SkipIfZero n) x ops = top-placed _ ops (λ v rest. tested-placed (zero_test v) _ _ tt tt)
instr-placed entries (instr.And n) x ops = top-placed _ ops (λ v rest. tested-placed (zero_test v) _ _ tt tt)
instr-placed entries (instr.Or n) x ops = top-placed _ ops (λ v rest. tested-placed (zero_test v) _ _ tt tt)
instr-placed entries instr.Truth x ops = top-placed _ ops (λ v rest. tested-placed (zero_test v) _ _ tt tt)
instr-placed entries (instr.Back n) x ops = tt
instr-placed entries (instr.BackIfNotZero n) x ops = top-placed _ ops (λ v rest. tested-placed (zero_test v) _ _ tt tt)
instr-placed entries instr.Return x ops = top-placed _ ops (λ v rest. returns-placed x v rest x.below)
instr-placed entries instr.Leave x ops = leaves-placed x ops x.below
instr-placed entries instr.NoValue x ops = tt

at-placed : (entries : List ℕ) (o : Option Instr) (x : Here) (ops : List Value) → IsPlaced (instr_step entries o x ops)
at-placed entries None x ops = refl
at-placed entries (Some i) x ops = instr-placed entries i x ops

frames-placed : (c : Code) (x : Private) (frames : List Frame) → IsPlaced (frames_step c.instrs c.entries x frames)
frames-placed c x [] = refl
frames-placed c x (f ∷ below) = at-placed c.entries (slice_get c.instrs f.at) _ x.operands

pub step-placed : (o : Option Pair) (x : Private) → IsPlaced (code_step o x)
step-placed None x = tt
step-placed (Some c) x = frames-placed c.code x x.frames

-- ---- steps by their heads

-- what is known of a step whose head is this
abbrev pub IsStepAt : Head → Step Private → Type 0
IsStepAt (head.Act a) (Acts b go) = (b ≡ a) × (takes_reply a ≡ true)
IsStepAt (head.Act a) (Ends b) = (b ≡ a) × (takes_reply a ≡ false)
IsStepAt (head.Trap t) (Traps u) = u ≡ t
IsStepAt h s = ⊥

step-at : (h : Head) (s : Step Private) → head_of s ≡ Some h → IsPlaced s → IsStepAt h s
step-at (head.Act a) (Quiet x) e p = absurd cc
step-at (head.Act a) (Acts b go) e p = let same : b ≡ a = cc in (same, subst (λ c. takes_reply c ≡ true) same p)
step-at (head.Act a) (Traps t) e p = absurd cc
step-at (head.Act a) (Ends b) e p = let same : b ≡ a = cc in (same, subst (λ c. takes_reply c ≡ false) same p)
step-at (head.Trap t) (Quiet x) e p = absurd cc
step-at (head.Trap t) (Acts b go) e p = absurd cc
step-at (head.Trap t) (Traps u) e p = cc
step-at (head.Trap t) (Ends b) e p = absurd cc

pub stands-at : (o : Option Pair) (x : Private) (h : Head) → head_of (code_step o x) ≡ Some h → IsStepAt h (code_step o x)
stands-at o x h e = step-at h (code_step o x) e (step-placed o x)

-- ---- what waits, and where a thread stands, by the head

acts-waits : (m : Memory) (a : Act) (go : Reply → Private) → is_waiting m 0 (Acts a go) ≡ waits_at m a
acts-waits m (act.Lock p) go = refl
acts-waits m a go = refl

last-waits : (m : Memory) (a : Act) → takes_reply a ≡ false → waits_at m a ≡ false
last-waits m (act.Lock p) h = absurd cc
last-waits m a h = refl

waits-act : (m : Memory) (a : Act) (s : Step Private) → IsStepAt (head.Act a) s → is_waiting m 0 s ≡ waits_at m a
waits-act m a (Quiet x) h = absurd h
waits-act m a (Acts b go) h = acts-waits m b go ∙ ap (waits_at m) h.0
waits-act m a (Traps t) h = absurd h
waits-act m a (Ends b) h = sym (last-waits m a h.1)

waits-trap : (m : Memory) (t : Trap) (s : Step Private) → IsStepAt (head.Trap t) s → is_waiting m 0 s ≡ false
waits-trap m t (Quiet x) h = absurd h
waits-trap m t (Acts b go) h = absurd h
waits-trap m t (Traps u) h = refl
waits-trap m t (Ends b) h = absurd h

-- a machine waits at its act
pub waiting : (m : Memory) (o : Option Pair) (x : Private) (h : Head) (a : Act) → head_of (code_step o x) ≡ Some h → h ≡ head.Act a →
    is_waiting m 0 (code_step o x) ≡ waits_at m a
waiting m o x h a stands is = waits-act m a (code_step o x) (stands-at o x (head.Act a) (stands ∙ ap Some is))

pub not_waiting : (m : Memory) (o : Option Pair) (x : Private) (h : Head) (t : Trap) → head_of (code_step o x) ≡ Some h → h ≡ head.Trap t →
    is_waiting m 0 (code_step o x) ≡ false
not_waiting m o x h t stands is = waits-trap m t (code_step o x) (stands-at o x (head.Trap t) (stands ∙ ap Some is))

last-point : (a : Act) → takes_reply a ≡ false → point_of_act a ≡ None
last-point (act.Point p) h = absurd cc
last-point a h = refl

pub point-at : (h : Head) (s : Step Private) → IsStepAt h s → point_of s ≡ old_point h
point-at (head.Act a) (Quiet x) h = absurd h
point-at (head.Act a) (Acts b go) h = ap point_of_act h.0
point-at (head.Act a) (Traps t) h = absurd h
point-at (head.Act a) (Ends b) h = sym (last-point a h.1)
point-at (head.Trap t) (Quiet x) h = absurd h
point-at (head.Trap t) (Acts b go) h = absurd h
point-at (head.Trap t) (Traps u) h = refl
point-at (head.Trap t) (Ends b) h = absurd h
