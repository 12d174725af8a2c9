-- Requests that take one operand.
use Rattle.std.specs.Prelude.{◌≡◌, ℕ, ◌<◌, ◌≤◌, List, [], ◌∷◌, ◌++◌, length, None, Result, Ok, Err, refl}
use Rattle.std.proofs.Common.{arith, sym, ap, ◌∙◌, get_or}
use Rattle.kt_mem.specs.declared.memory.Value.{Value}
use Rattle.kt_mem.specs.declared.memory.Value.TheVariants.{Num, Null, Ptr, Free, Held, Undef}
use Rattle.kt_mem.specs.declared.steps.Piece.{Piece}
use Rattle.kt_mem.specs.declared.steps.Trap.{Trap}
use Rattle.kt_tree.specs.declared.expr.Part.{Part}
use Rattle.kt_tree.specs.declared.expr.Request.{Request}
use Rattle.kt_tree.specs.declared.expr.Request.TheVariants as request
use Rattle.kt_meaning.specs.Requests.{act_of}
use Rattle.kt_code.specs.Requests.{untyped}
use Rattle.kt_exec.specs.Requests.{act_with}

-- these pieces, and then what follows
abbrev pub after : List Piece → Result (List Piece) Trap → Result (List Piece) Trap
after ps (Ok qs) = Ok (ps ++ qs)
after ps (Err t) = Err t

abbrev pub IsNoPrint : Request → Type 0
IsNoPrint (request.Print parts) = ⊥
IsNoPrint _ = Unit {0}

-- the act of a request that takes one operand
pub act_of-one : (f : ℕ) (q : Request) (v : Value) → IsNoPrint q → act_of untyped f q None (v ∷ []) ≡ act_with q v
act_of-one f request.Load (Num m) h = refl
act_of-one f request.Load Null h = refl
act_of-one f request.Load (Ptr name k) h = refl
act_of-one f request.Load Free h = refl
act_of-one f request.Load (Held thread) h = refl
act_of-one f request.Load Undef h = refl
act_of-one f request.Store (Num m) h = refl
act_of-one f request.Store Null h = refl
act_of-one f request.Store (Ptr name k) h = refl
act_of-one f request.Store Free h = refl
act_of-one f request.Store (Held thread) h = refl
act_of-one f request.Store Undef h = refl
act_of-one f (request.Allocate e zeros) (Num m) h = refl
act_of-one f (request.Allocate e zeros) Null h = refl
act_of-one f (request.Allocate e zeros) (Ptr name k) h = refl
act_of-one f (request.Allocate e zeros) Free h = refl
act_of-one f (request.Allocate e zeros) (Held thread) h = refl
act_of-one f (request.Allocate e zeros) Undef h = refl
act_of-one f request.Release v h = refl
act_of-one f request.Lock v h = refl
act_of-one f request.Unlock v h = refl
act_of-one f request.InitMutex v h = refl
act_of-one f request.GetChar (Num m) h = refl
act_of-one f request.GetChar Null h = refl
act_of-one f request.GetChar (Ptr name k) h = refl
act_of-one f request.GetChar Free h = refl
act_of-one f request.GetChar (Held thread) h = refl
act_of-one f request.GetChar Undef h = refl
act_of-one f request.PutChar (Num m) h = refl
act_of-one f request.PutChar Null h = refl
act_of-one f request.PutChar (Ptr name k) h = refl
act_of-one f request.PutChar Free h = refl
act_of-one f request.PutChar (Held thread) h = refl
act_of-one f request.PutChar Undef h = refl
act_of-one f request.Puts v h = refl
act_of-one f (request.Print parts) v h = absurd h
act_of-one f (request.Create g) v h = refl
act_of-one f request.Join (Num m) h = refl
act_of-one f request.Join Null h = refl
act_of-one f request.Join (Ptr name k) h = refl
act_of-one f request.Join Free h = refl
act_of-one f request.Join (Held thread) h = refl
act_of-one f request.Join Undef h = refl
act_of-one f (request.Point n) (Num m) h = refl
act_of-one f (request.Point n) Null h = refl
act_of-one f (request.Point n) (Ptr name k) h = refl
act_of-one f (request.Point n) Free h = refl
act_of-one f (request.Point n) (Held thread) h = refl
act_of-one f (request.Point n) Undef h = refl
act_of-one f request.IsUpdating (Num m) h = refl
act_of-one f request.IsUpdating Null h = refl
act_of-one f request.IsUpdating (Ptr name k) h = refl
act_of-one f request.IsUpdating Free h = refl
act_of-one f request.IsUpdating (Held thread) h = refl
act_of-one f request.IsUpdating Undef h = refl
act_of-one f (request.IsUpdatingFrom n) (Num m) h = refl
act_of-one f (request.IsUpdatingFrom n) Null h = refl
act_of-one f (request.IsUpdatingFrom n) (Ptr name k) h = refl
act_of-one f (request.IsUpdatingFrom n) Free h = refl
act_of-one f (request.IsUpdatingFrom n) (Held thread) h = refl
act_of-one f (request.IsUpdatingFrom n) Undef h = refl
act_of-one f request.Automigrate (Num m) h = refl
act_of-one f request.Automigrate Null h = refl
act_of-one f request.Automigrate (Ptr name k) h = refl
act_of-one f request.Automigrate Free h = refl
act_of-one f request.Automigrate (Held thread) h = refl
act_of-one f request.Automigrate Undef h = refl
act_of-one f (request.MigrateLocal n) (Num m) h = refl
act_of-one f (request.MigrateLocal n) Null h = refl
act_of-one f (request.MigrateLocal n) (Ptr name k) h = refl
act_of-one f (request.MigrateLocal n) Free h = refl
act_of-one f (request.MigrateLocal n) (Held thread) h = refl
act_of-one f (request.MigrateLocal n) Undef h = refl

no-print : (q : Request) → ((parts : List Part) → q ≡ request.Print parts → ⊥) → IsNoPrint q
no-print request.Load h = tt
no-print request.Store h = tt
no-print (request.Allocate e zeros) h = tt
no-print request.Release h = tt
no-print request.Lock h = tt
no-print request.Unlock h = tt
no-print request.InitMutex h = tt
no-print request.GetChar h = tt
no-print request.PutChar h = tt
no-print request.Puts h = tt
no-print (request.Print parts) h = h parts refl
no-print (request.Create g) h = tt
no-print request.Join h = tt
no-print (request.Point n) h = tt
no-print request.IsUpdating h = tt
no-print (request.IsUpdatingFrom n) h = tt
no-print request.Automigrate h = tt
no-print (request.MigrateLocal n) h = tt

-- the same, of a list of one operand
pub act_of-single : (f : ℕ) (q : Request) (v : Value) (vs : List Value) → ((parts : List Part) → q ≡ request.Print parts → ⊥) →
    1 ≤ length vs → length vs < 2 → v ≡ get_or vs 0 v → act_of untyped f q None vs ≡ act_with q v
act_of-single f q v [] h low high e = absurd (omega arith)
act_of-single f q v (w ∷ []) h low high e = act_of-one f q w (no-print q h) ∙ ap (act_with q) (sym e)
act_of-single f q v (a ∷ b ∷ vs) h low high e = absurd (omega arith)
