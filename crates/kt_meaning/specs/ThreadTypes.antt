-- Threads of a version: its functions, locals, points and work are the version's, and each value is of its type there; a
-- local may be undefined.
use Rattle.std.specs.Prelude.{◌≡◌, IsTrue, ℕ, ◌<◌, Bool, true, false, ◌||◌, List, [], ◌∷◌, map, slice_get, Option, Some}
use mathlib.Core.List.{reverse_aux}
use Rattle.std.specs.Option.{is_some}
use Rattle.kt_types.specs.declared.kinds.FieldDecl.{FieldDecl}
use Rattle.kt_types.specs.Layout.{layout}
use Rattle.kt_mem.specs.declared.memory.Value.{Value}
use Rattle.kt_mem.specs.declared.steps.Act.{Act}
use Rattle.kt_mem.specs.declared.steps.Act.TheVariants as act
use Rattle.kt_mem.specs.declared.thread.KeptLocal.{KeptLocal}
use Rattle.kt_mem.specs.declared.thread.Mode.{Mode}
use Rattle.kt_mem.specs.declared.thread.Mode.TheVariants.{Normal, Updating}
use Rattle.kt_tree.specs.Kinds.{Scope, int_type, is_scalar, is_operation, is_request, is_entry}
use Rattle.kt_tree.specs.Tree.{Expression, Expressions, Repeated, Looped, Function}
use Rattle.kt_tree.specs.Typed.{Kind, NoValue, Of, kind_of, kind, types, value_type, operation_kind, request_kind, call_kind, is_modified, is_choice, is_result, fits, all_fit}
use Rattle.kt_tree.specs.Version.{Program, head_of, scope_of}
use Rattle.kt_meaning.specs.Values.{is_of, IsAt, AreAt, IsIn, AreIn, IsKind}
use Rattle.kt_meaning.specs.Thread.{Use, Operates, Asks, Enters, Drops, Sets, Swaps, Awaits, Fetches, Changes, AndThen, OrElse, Truths, Picks, Branches, Loops, Repeats, Returns, Eval, Have, Wait, Do, Run, Next, Again, Work, is_loop, Frame, Restart, Thread}

-- ---- work

-- the work is in the body of a loop
abbrev pub in_loop : Work → Bool
in_loop [] = false
in_loop (p ∷ w) = is_loop p || in_loop w

-- what the use of operands of these types gives
abbrev pub use_kind : Scope → Use → List ℕ → Option Kind
use_kind s (Operates op t) ts = operation_kind s t (is_operation s op t) (Some ts)
use_kind s (Asks r t) ts = request_kind t (is_request s r t) (Some ts)
use_kind s (Enters g) ts = call_kind (slice_get s.functions g) (Some ts)

-- a value of the one kind is also one of the other
abbrev pub Widens : Scope → Kind → Kind → Type 0
Widens s k m = (v : Value) → IsKind s.types k v → IsKind s.types m v

-- a value of this kind is of a kind that is taken
abbrev pub TakenAs : Scope → (Kind → Type 0) → Kind → Type 0
TakenAs s P k = (m : Kind) × Widens s k m × P m

-- an expression of a type
abbrev pub HasType : Scope → Expression → ℕ → Type 0
HasType s e t = value_type (kind s e) ≡ Some t

-- the next operand is of type t, after those of types `ts`, the latest first, and before the rest; the whole gives this kind
pub record AreOperands (s : Scope) (u : Use) (t : ℕ) (vs : List Value) (es : Expressions) (k : Kind) : Type 0 where
  pub before : List ℕ
  pub rest : List ℕ
  pub values : AreAt s.types before vs
  pub operands : types s es ≡ Some rest
  pub whole : use_kind s u (reverse_aux before (t ∷ rest)) ≡ Some k

-- the cell of type t at a pointer of type p is changed by an operation with an operand of type b
abbrev pub IsChange : Scope → ℕ → ℕ → (List ℕ → Bool) → ℕ → ℕ → Type 0
IsChange s own t takes p b = is_modified s own t takes p b ≡ true

-- a condition, and the two of `&&` and `||`
abbrev pub IsCondition : Scope → ℕ → Type 0
IsCondition s t = is_scalar s t ≡ true

abbrev pub AreConditions : Scope → ℕ → ℕ → Type 0
AreConditions s a b = IsCondition s a × IsCondition s b

-- the work goes on with a value of this kind; and it is work where no value stands before
abbrev mutual
  pub Takes : Scope → Option ℕ → Kind → Work → Type 0
  Takes s r k [] = ⊥
  Takes s r k (Eval e ∷ w) = ⊥
  Takes s r k (Have v ∷ w) = ⊥
  Takes s r k (Do a ∷ w) = ⊥
  Takes s r k (Run block ∷ w) = ⊥
  Takes s r k (Next test step body ∷ w) = ⊥
  Takes s r k (Again body c ∷ w) = ⊥
  Takes s r k (Wait Drops ∷ w) = Stands s r w
  Takes s r NoValue (Wait (Sets n) ∷ w) = ⊥
  Takes s r (Of t) (Wait (Sets n) ∷ w) = (slice_get s.locals n ≡ Some t) × TakenAs s (λ m. Takes s r m w) (Of t)
  Takes s r NoValue (Wait (Swaps n) ∷ w) = ⊥
  Takes s r (Of t) (Wait (Swaps n) ∷ w) = (slice_get s.locals n ≡ Some t) × TakenAs s (λ m. Takes s r m w) (Of t)
  Takes s r NoValue (Wait (Awaits u vs es) ∷ w) = ⊥
  Takes s r (Of t) (Wait (Awaits u vs es) ∷ w) = (k : Kind) × AreOperands s u t vs es k × TakenAs s (λ m. Takes s r m w) k
  Takes s r NoValue (Wait (Fetches op own t old e) ∷ w) = ⊥
  Takes s r (Of p) (Wait (Fetches op own t old e) ∷ w) =
      (b : ℕ) × HasType s e b × IsChange s own t (is_operation s op own) p b × TakenAs s (λ m. Takes s r m w) (Of t)
  Takes s r NoValue (Wait (Changes op own t old pointer before) ∷ w) = ⊥
  Takes s r (Of b) (Wait (Changes op own t old pointer before) ∷ w) =
      (p : ℕ) × IsAt s.types p pointer × IsAt s.types t before × IsChange s own t (is_operation s op own) p b × TakenAs s (λ m. Takes s r m w) (Of t)
  Takes s r NoValue (Wait (AndThen e) ∷ w) = ⊥
  Takes s r (Of a) (Wait (AndThen e) ∷ w) = (b : ℕ) × HasType s e b × AreConditions s a b × TakenAs s (λ m. Takes s r m w) (Of int_type)
  Takes s r NoValue (Wait (OrElse e) ∷ w) = ⊥
  Takes s r (Of a) (Wait (OrElse e) ∷ w) = (b : ℕ) × HasType s e b × AreConditions s a b × TakenAs s (λ m. Takes s r m w) (Of int_type)
  Takes s r NoValue (Wait Truths ∷ w) = ⊥
  Takes s r (Of a) (Wait Truths ∷ w) = IsCondition s a × TakenAs s (λ m. Takes s r m w) (Of int_type)
  Takes s r NoValue (Wait (Picks d e) ∷ w) = ⊥
  Takes s r (Of c) (Wait (Picks d e) ∷ w) =
      IsCondition s c × (t : ℕ) × (a : ℕ) × (b : ℕ) × HasType s d a × HasType s e b × (is_choice s t a b ≡ true) × TakenAs s (λ m. Takes s r m w) (Of t)
  Takes s r NoValue (Wait (Branches a b) ∷ w) = ⊥
  Takes s r (Of c) (Wait (Branches a b) ∷ w) = IsCondition s c × (fits s r (in_loop w) a ≡ true) × (fits s r (in_loop w) b ≡ true) × Stands s r w
  Takes s r NoValue (Wait (Loops test step body) ∷ w) = ⊥
  Takes s r (Of c) (Wait (Loops test step body) ∷ w) = IsCondition s c × (fits s r (in_loop w) (Looped test step body) ≡ true) × Stands s r w
  Takes s r NoValue (Wait (Repeats body c) ∷ w) = ⊥
  Takes s r (Of t) (Wait (Repeats body c) ∷ w) = IsCondition s t × (fits s r (in_loop w) (Repeated body c) ≡ true) × Stands s r w
  Takes s r NoValue (Wait Returns ∷ w) = ⊥
  Takes s r (Of t) (Wait Returns ∷ w) = (is_result r (Some t) ≡ true) × Stands s r w

  pub Stands : Scope → Option ℕ → Work → Type 0
  Stands s r [] = Unit {0}
  Stands s r (Eval e ∷ w) = (k : Kind) × (kind s e ≡ Some k) × TakenAs s (λ m. Takes s r m w) k
  Stands s r (Have v ∷ w) = (k : Kind) × IsKind s.types k v × Takes s r k w
  Stands s r (Wait q ∷ w) = ⊥
  Stands s r (Do a ∷ w) = (fits s r (in_loop w) a ≡ true) × Stands s r w
  Stands s r (Run block ∷ w) = (all_fit s r (in_loop w) block ≡ true) × Stands s r w
  Stands s r (Next test step body ∷ w) = (fits s r (in_loop w) (Looped test step body) ≡ true) × Stands s r w
  Stands s r (Again body c ∷ w) = (fits s r (in_loop w) (Repeated body c) ≡ true) × Stands s r w

-- the work goes on with what a value of this kind is
abbrev pub Accepts : Scope → Option ℕ → Kind → Work → Type 0
Accepts s r k w = TakenAs s (λ m. Takes s r m w) k

-- ---- frames and threads

abbrev pub types_of : List FieldDecl → List ℕ
types_of locals = map (λ l. l.ty) locals

-- the function is the version's, and the locals are its own
pub record IsCall (p : Program) (n : ℕ) (vs : List Value) (f : Function) : Type 0 where
  pub function : slice_get p.functions n ≡ Some f
  pub locals : AreIn p.types (types_of f.locals) vs

-- frames that wait for a value of this kind, which the call above them gives
abbrev pub AreBelow : Program → Kind → List Frame → Type 0
AreBelow p k [] = Unit {0}
AreBelow p k (g ∷ below) =
    (f : Function) × IsCall p g.function g.locals f × Accepts (scope_of p f) f.result k g.work × AreBelow p (kind_of f.result) below

-- a thread has at least one frame
abbrev pub AreFrames : Program → List Frame → Type 0
AreFrames p [] = ⊥
AreFrames p (g ∷ below) =
    (f : Function) × IsCall p g.function g.locals f × Stands (scope_of p f) f.result g.work × AreBelow p (kind_of f.result) below

abbrev pub IsMode : Program → Mode → Type 0
IsMode p Normal = Unit {0}
IsMode p (Updating n) = n < p.points.updates

-- the kept value of a local is of its type, or undefined
pub record IsKept (p : Program) (k : KeptLocal) : Type 0 where
  pub function : Function
  pub local : FieldDecl
  pub function_is : slice_get p.functions k.function ≡ Some function
  pub local_is : slice_get function.locals k.local ≡ Some local
  pub value : IsIn p.types local.ty k.value

abbrev pub AreKept : Program → List KeptLocal → Type 0
AreKept p [] = Unit {0}
AreKept p (k ∷ kept) = IsKept p k × AreKept p kept

pub record IsRestart (p : Program) (r : Restart) : Type 0 where
  pub mode : IsMode p r.mode
  pub kept : AreKept p r.kept

pub record IsThread (p : Program) (t : Thread) : Type 0 where
  pub frames : AreFrames p t.frames
  pub restart : IsRestart p t.restart

-- ---- acts

-- what the function of the act is entered with: the parameter's type, and the value is of it
pub record IsEntry (p : Program) (g : ℕ) (v : Value) : Type 0 where
  pub function : Function
  pub parameter : ℕ
  pub function_is : slice_get p.functions g ≡ Some function
  pub entry : is_entry (Some (head_of function)) parameter ≡ true
  pub value : IsAt p.types parameter v

-- what an act stores or hands to a new thread is of its type, and what it allocates is complete
abbrev pub IsTypedAct : Program → Act → Type 0
IsTypedAct p (act.Allocate e n zeros) = is_some (layout p.types e) ≡ true
IsTypedAct p (act.Store q t v) = IsTrue (is_of t v)
IsTypedAct p (act.Create g v) = IsEntry p g v
IsTypedAct p _ = Unit {0}
