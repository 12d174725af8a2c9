-- Requests on renamed values are the renamed acts, and give the renamed values.
use Rattle.std.specs.Prelude.{◌≡◌, ℕ, ◌==◌, ◌&&◌, Bool, true, false, List, [], ◌∷◌, Option, None, Some, Result, Ok, Err, if◌then◌else◌, refl}
use Rattle.std.specs.Option.{is_some}
use Rattle.std.proofs.Common.{sym, ap, ◌∙◌}
use Rattle.std.proofs.lemmas.List.{map-set}
use Rattle.kt_mem.specs.declared.memory.Value.{Value}
use Rattle.kt_mem.specs.declared.memory.Value.TheVariants.{Num, Null, Ptr, Free, Held, Undef}
use Rattle.kt_mem.specs.declared.steps.Act.{Act}
use Rattle.kt_mem.specs.declared.steps.Act.TheVariants as act
use Rattle.kt_mem.specs.declared.steps.Piece.{Piece}
use Rattle.kt_mem.specs.declared.steps.Piece.TheVariants as piece
use Rattle.kt_mem.specs.declared.steps.Reply.{Reply}
use Rattle.kt_mem.specs.declared.steps.Reply.TheVariants.{Done, Got, Trapped}
use Rattle.kt_mem.specs.declared.steps.Trap.{Trap}
use Rattle.kt_mem.specs.declared.thread.KeptLocal.{KeptLocal}
use Rattle.kt_mem.specs.declared.thread.Mode.TheVariants.{Normal}
use Rattle.kt_mem.specs.Values.{truth}
use Rattle.kt_tree.specs.declared.expr.Part.{Part}
use Rattle.kt_tree.specs.declared.expr.Part.TheVariants as part
use Rattle.kt_tree.specs.declared.expr.Request.{Request}
use Rattle.kt_tree.specs.declared.expr.Request.TheVariants as request
use Rattle.kt_meaning.specs.Requests.{act_of, before, pieces, printed, request_value, stored_value, byte_value, byte_of, told}
use Rattle.kt_meaning.specs.Thread.{Restart, is_updating, is_updating_from, value_for, kept_value, set_if_some}
use Rattle.kt_code.specs.Machine.{Here, changed_by}
use Rattle.kt_code.specs.Requests.{untyped}
use Rattle.kt_mem.specs.Renaming.{rename_value, rename_values}
use Rattle.kt_exec.specs.Renaming.{rename_frames, rename_kept, rename_piece, rename_pieces, rename_act, rename_reply}

-- ---- acts

abbrev pub rename_act_result : (ℕ → ℕ) → Result Act Trap → Result Act Trap
rename_act_result f (Ok a) = Ok (rename_act f a)
rename_act_result f (Err t) = Err t

abbrev rename_written : (ℕ → ℕ) → Result (List Piece) Trap → Result (List Piece) Trap
rename_written f (Ok ps) = Ok (rename_pieces f ps)
rename_written f (Err t) = Err t

before-renamed : (f : ℕ → ℕ) (x : Piece) (r s : Result (List Piece) Trap) → s ≡ rename_written f r →
    before (rename_piece f x) s ≡ rename_written f (before x r)
before-renamed f x (Ok ps) s e = ap (before (rename_piece f x)) e
before-renamed f x (Err t) s e = ap (before (rename_piece f x)) e

pieces-renamed : (f : ℕ → ℕ) (ps : List Part) (vs : List Value) → pieces ps (rename_values f vs) ≡ rename_written f (pieces ps vs)
pieces-renamed f [] [] = refl
pieces-renamed f [] (v ∷ vs) = refl
pieces-renamed f (part.Bytes bytes ∷ ps) vs = before-renamed f (piece.Bytes bytes) (pieces ps vs) (pieces ps (rename_values f vs)) (pieces-renamed f ps vs)
pieces-renamed f (part.Number ∷ ps) [] = refl
pieces-renamed f (part.Byte ∷ ps) [] = refl
pieces-renamed f (part.Text ∷ ps) [] = refl
pieces-renamed f (part.Text ∷ ps) (v ∷ vs) = before-renamed f (piece.TextAt v) (pieces ps vs) (pieces ps (rename_values f vs)) (pieces-renamed f ps vs)
pieces-renamed f (part.Number ∷ ps) (Num n ∷ vs) = before-renamed f (piece.Number n) (pieces ps vs) (pieces ps (rename_values f vs)) (pieces-renamed f ps vs)
pieces-renamed f (part.Byte ∷ ps) (Num n ∷ vs) = before-renamed f (piece.Byte (byte_of n)) (pieces ps vs) (pieces ps (rename_values f vs)) (pieces-renamed f ps vs)
pieces-renamed f (part.Number ∷ ps) (Null ∷ vs) = refl
pieces-renamed f (part.Number ∷ ps) (Ptr name k ∷ vs) = refl
pieces-renamed f (part.Number ∷ ps) (Free ∷ vs) = refl
pieces-renamed f (part.Number ∷ ps) (Held thread ∷ vs) = refl
pieces-renamed f (part.Number ∷ ps) (Undef ∷ vs) = refl
pieces-renamed f (part.Byte ∷ ps) (Null ∷ vs) = refl
pieces-renamed f (part.Byte ∷ ps) (Ptr name k ∷ vs) = refl
pieces-renamed f (part.Byte ∷ ps) (Free ∷ vs) = refl
pieces-renamed f (part.Byte ∷ ps) (Held thread ∷ vs) = refl
pieces-renamed f (part.Byte ∷ ps) (Undef ∷ vs) = refl

printed-renamed : (f : ℕ → ℕ) (r s : Result (List Piece) Trap) → s ≡ rename_written f r → printed s ≡ rename_act_result f (printed r)
printed-renamed f (Ok ps) s e = ap printed e
printed-renamed f (Err t) s e = ap printed e

pub act_of-renamed : (f : ℕ → ℕ) (g : ℕ) (q : Request) (vs : List Value) →
    act_of untyped g q None (rename_values f vs) ≡ rename_act_result f (act_of untyped g q None vs)
act_of-renamed f h request.Load [] = refl
act_of-renamed f h request.Load (a ∷ []) = refl
act_of-renamed f h request.Load (a ∷ b ∷ vs) = refl
act_of-renamed f h request.Store [] = refl
act_of-renamed f h request.Store (a ∷ []) = refl
act_of-renamed f h request.Store (a ∷ b ∷ []) = refl
act_of-renamed f h request.Store (a ∷ b ∷ c ∷ vs) = refl
act_of-renamed f h (request.Allocate e zeros) [] = refl
act_of-renamed f h (request.Allocate e zeros) (Num m ∷ []) = refl
act_of-renamed f h (request.Allocate e zeros) (Num m ∷ b ∷ vs) = refl
act_of-renamed f h (request.Allocate e zeros) (Null ∷ []) = refl
act_of-renamed f h (request.Allocate e zeros) (Null ∷ b ∷ vs) = refl
act_of-renamed f h (request.Allocate e zeros) (Ptr name k ∷ []) = refl
act_of-renamed f h (request.Allocate e zeros) (Ptr name k ∷ b ∷ vs) = refl
act_of-renamed f h (request.Allocate e zeros) (Free ∷ []) = refl
act_of-renamed f h (request.Allocate e zeros) (Free ∷ b ∷ vs) = refl
act_of-renamed f h (request.Allocate e zeros) (Held thread ∷ []) = refl
act_of-renamed f h (request.Allocate e zeros) (Held thread ∷ b ∷ vs) = refl
act_of-renamed f h (request.Allocate e zeros) (Undef ∷ []) = refl
act_of-renamed f h (request.Allocate e zeros) (Undef ∷ b ∷ vs) = refl
act_of-renamed f h request.Release [] = refl
act_of-renamed f h request.Release (a ∷ []) = refl
act_of-renamed f h request.Release (a ∷ b ∷ vs) = refl
act_of-renamed f h request.Lock [] = refl
act_of-renamed f h request.Lock (a ∷ []) = refl
act_of-renamed f h request.Lock (a ∷ b ∷ vs) = refl
act_of-renamed f h request.Unlock [] = refl
act_of-renamed f h request.Unlock (a ∷ []) = refl
act_of-renamed f h request.Unlock (a ∷ b ∷ vs) = refl
act_of-renamed f h request.InitMutex [] = refl
act_of-renamed f h request.InitMutex (a ∷ []) = refl
act_of-renamed f h request.InitMutex (a ∷ b ∷ vs) = refl
act_of-renamed f h request.GetChar [] = refl
act_of-renamed f h request.GetChar (a ∷ vs) = refl
act_of-renamed f h request.PutChar [] = refl
act_of-renamed f h request.PutChar (Num m ∷ []) = refl
act_of-renamed f h request.PutChar (Num m ∷ b ∷ vs) = refl
act_of-renamed f h request.PutChar (Null ∷ []) = refl
act_of-renamed f h request.PutChar (Null ∷ b ∷ vs) = refl
act_of-renamed f h request.PutChar (Ptr name k ∷ []) = refl
act_of-renamed f h request.PutChar (Ptr name k ∷ b ∷ vs) = refl
act_of-renamed f h request.PutChar (Free ∷ []) = refl
act_of-renamed f h request.PutChar (Free ∷ b ∷ vs) = refl
act_of-renamed f h request.PutChar (Held thread ∷ []) = refl
act_of-renamed f h request.PutChar (Held thread ∷ b ∷ vs) = refl
act_of-renamed f h request.PutChar (Undef ∷ []) = refl
act_of-renamed f h request.PutChar (Undef ∷ b ∷ vs) = refl
act_of-renamed f h request.Puts [] = refl
act_of-renamed f h request.Puts (a ∷ []) = refl
act_of-renamed f h request.Puts (a ∷ b ∷ vs) = refl
act_of-renamed f g (request.Print parts) vs = printed-renamed f (pieces parts vs) (pieces parts (rename_values f vs)) (pieces-renamed f parts vs)
act_of-renamed f h (request.Create g) [] = refl
act_of-renamed f h (request.Create g) (a ∷ []) = refl
act_of-renamed f h (request.Create g) (a ∷ b ∷ vs) = refl
act_of-renamed f h request.Join [] = refl
act_of-renamed f h request.Join (Num m ∷ []) = refl
act_of-renamed f h request.Join (Num m ∷ b ∷ vs) = refl
act_of-renamed f h request.Join (Null ∷ []) = refl
act_of-renamed f h request.Join (Null ∷ b ∷ vs) = refl
act_of-renamed f h request.Join (Ptr name k ∷ []) = refl
act_of-renamed f h request.Join (Ptr name k ∷ b ∷ vs) = refl
act_of-renamed f h request.Join (Free ∷ []) = refl
act_of-renamed f h request.Join (Free ∷ b ∷ vs) = refl
act_of-renamed f h request.Join (Held thread ∷ []) = refl
act_of-renamed f h request.Join (Held thread ∷ b ∷ vs) = refl
act_of-renamed f h request.Join (Undef ∷ []) = refl
act_of-renamed f h request.Join (Undef ∷ b ∷ vs) = refl
act_of-renamed f h (request.Point n) [] = refl
act_of-renamed f h (request.Point n) (a ∷ vs) = refl
act_of-renamed f h request.IsUpdating [] = refl
act_of-renamed f h request.IsUpdating (a ∷ vs) = refl
act_of-renamed f h (request.IsUpdatingFrom n) [] = refl
act_of-renamed f h (request.IsUpdatingFrom n) (a ∷ vs) = refl
act_of-renamed f h request.Automigrate [] = refl
act_of-renamed f h request.Automigrate (a ∷ vs) = refl
act_of-renamed f h (request.MigrateLocal n) [] = refl
act_of-renamed f h (request.MigrateLocal n) (a ∷ vs) = refl

-- ---- what an update left

abbrev pub rename_restart : (ℕ → ℕ) → Restart → Restart
rename_restart f r = record { mode = r.mode; kept = rename_kept f r.kept }

abbrev rename_told : (ℕ → ℕ) → Option Value → Option Value
rename_told f None = None
rename_told f (Some v) = Some (rename_value f v)

choice-told : (f : ℕ → ℕ) (b : Bool) (v : Value) (o p : Option Value) → p ≡ rename_told f o →
    (if b then Some (rename_value f v) else p) ≡ rename_told f (if b then Some v else o)
choice-told f true v o p e = refl
choice-told f false v o p e = e

value_for-renamed : (f : ℕ → ℕ) (g n : ℕ) (ks : List KeptLocal) → value_for g n (rename_kept f ks) ≡ rename_told f (value_for g n ks)
value_for-renamed f g n [] = refl
value_for-renamed f g n (k ∷ ks) =
    choice-told f ((k.function == g) && (k.local == n)) k.value (value_for g n ks) (value_for g n (rename_kept f ks)) (value_for-renamed f g n ks)

choice-none : (f : ℕ → ℕ) (b : Bool) (o p : Option Value) → p ≡ rename_told f o → (if b then p else None) ≡ rename_told f (if b then o else None)
choice-none f true o p e = e
choice-none f false o p e = refl

kept_value-renamed : (f : ℕ → ℕ) (r : Restart) (g n : ℕ) → kept_value (rename_restart f r) g n ≡ rename_told f (kept_value r g n)
kept_value-renamed f r g n = choice-none f (is_updating r.mode) (value_for g n r.kept) (value_for g n (rename_kept f r.kept)) (value_for-renamed f g n r.kept)

is_some-renamed : (f : ℕ → ℕ) (o : Option Value) → is_some (rename_told f o) ≡ is_some o
is_some-renamed f None = refl
is_some-renamed f (Some v) = refl

set_if_some-renamed : (f : ℕ → ℕ) (o : Option Value) (n : ℕ) (vs : List Value) →
    set_if_some (rename_told f o) n (rename_values f vs) ≡ rename_values f (set_if_some o n vs)
set_if_some-renamed f None n vs = refl
set_if_some-renamed f (Some v) n vs = sym (map-set (rename_value f) vs n v)

migrated-renamed : (f : ℕ → ℕ) (r : Restart) (g n : ℕ) (vs : List Value) →
    set_if_some (kept_value (rename_restart f r) g n) n (rename_values f vs) ≡ rename_values f (set_if_some (kept_value r g n) n vs)
migrated-renamed f r g n vs =
    ap (λ o. set_if_some o n (rename_values f vs)) (kept_value-renamed f r g n) ∙ set_if_some-renamed f (kept_value r g n) n vs

choice-restart : (f : ℕ → ℕ) (b : Bool) (r : Restart) →
    (if b then record { mode = Normal; kept = [] } else rename_restart f r) ≡ rename_restart f (if b then record { mode = Normal; kept = [] } else r)
choice-restart f true r = refl
choice-restart f false r = refl

-- ---- what acts change

abbrev pub rename_here : (ℕ → ℕ) → Here → Here
rename_here f x = record {
  version = x.version;
  function = x.function;
  at = x.at;
  locals = rename_values f x.locals;
  below = rename_frames f x.below;
  restart = rename_restart f x.restart;
}

pub changed_by-renamed : (f : ℕ → ℕ) (a : Act) (x : Here) → changed_by (rename_act f a) (rename_here f x) ≡ rename_here f (changed_by a x)
changed_by-renamed f act.Tick x = refl
changed_by-renamed f (act.Load p t) x = refl
changed_by-renamed f (act.Store p t v) x = refl
changed_by-renamed f (act.Allocate e n zeros) x = refl
changed_by-renamed f (act.Release p) x = refl
changed_by-renamed f (act.Lock p) x = refl
changed_by-renamed f (act.Unlock p) x = refl
changed_by-renamed f (act.InitMutex p) x = refl
changed_by-renamed f act.GetChar x = refl
changed_by-renamed f (act.Wait p) x = refl
changed_by-renamed f (act.Signal p all) x = refl
changed_by-renamed f (act.Print ps) x = refl
changed_by-renamed f (act.Create g v) x = refl
changed_by-renamed f (act.Join n) x = refl
changed_by-renamed f act.Automigrate x = refl
changed_by-renamed f (act.UpdatingTest n) x = refl
changed_by-renamed f act.ThreadEnd x = refl
changed_by-renamed f (act.MainReturn n) x = refl
changed_by-renamed f (act.Point n) x =
    ap (λ r. record (rename_here f x) { restart = r }) (choice-restart f (is_updating_from n x.restart.mode) x.restart)
changed_by-renamed f (act.MigrateLocal g n) x =
    ap (λ vs. record (rename_here f x) { locals = vs }) (migrated-renamed f x.restart g n x.locals)

-- ---- what requests give

pub told-renamed : (f : ℕ → ℕ) (r : Reply) → told (rename_reply f r) ≡ rename_value f (told r)
told-renamed f Done = refl
told-renamed f (Got v) = refl
told-renamed f (Trapped t) = refl

stored-renamed : (f : ℕ → ℕ) (vs : List Value) → stored_value (rename_values f vs) ≡ rename_value f (stored_value vs)
stored-renamed f [] = refl
stored-renamed f (a ∷ []) = refl
stored-renamed f (a ∷ b ∷ []) = refl
stored-renamed f (a ∷ b ∷ c ∷ vs) = refl

byte-renamed : (f : ℕ → ℕ) (vs : List Value) → byte_value (rename_values f vs) ≡ rename_value f (byte_value vs)
byte-renamed f [] = refl
byte-renamed f (Num m ∷ []) = refl
byte-renamed f (Num m ∷ b ∷ vs) = refl
byte-renamed f (Null ∷ []) = refl
byte-renamed f (Null ∷ b ∷ vs) = refl
byte-renamed f (Ptr name k ∷ []) = refl
byte-renamed f (Ptr name k ∷ b ∷ vs) = refl
byte-renamed f (Free ∷ []) = refl
byte-renamed f (Free ∷ b ∷ vs) = refl
byte-renamed f (Held thread ∷ []) = refl
byte-renamed f (Held thread ∷ b ∷ vs) = refl
byte-renamed f (Undef ∷ []) = refl
byte-renamed f (Undef ∷ b ∷ vs) = refl

pub request_value-renamed : (f : ℕ → ℕ) (g : ℕ) (r : Restart) (q : Request) (vs : List Value) (v : Value) →
    request_value g (rename_restart f r) q (rename_values f vs) (rename_value f v) ≡ rename_value f (request_value g r q vs v)
request_value-renamed f h r request.Load vs v = refl
request_value-renamed f h r request.Store vs v = stored-renamed f vs
request_value-renamed f h r (request.Allocate e zeros) vs v = refl
request_value-renamed f h r request.Release vs v = refl
request_value-renamed f h r request.Lock vs v = refl
request_value-renamed f h r request.Unlock vs v = refl
request_value-renamed f h r request.InitMutex vs v = refl
request_value-renamed f h r request.GetChar vs v = refl
request_value-renamed f h r request.PutChar vs v = byte-renamed f vs
request_value-renamed f h r request.Puts vs v = refl
request_value-renamed f h r (request.Print parts) vs v = refl
request_value-renamed f h r (request.Create g) vs v = refl
request_value-renamed f h r request.Join vs v = refl
request_value-renamed f h r (request.Point n) vs v = refl
request_value-renamed f h r request.IsUpdating vs v = refl
request_value-renamed f h r (request.IsUpdatingFrom n) vs v = refl
request_value-renamed f h r request.Automigrate vs v = refl
request_value-renamed f h r (request.MigrateLocal n) vs v = ap truth (ap is_some (kept_value-renamed f r h n) ∙ is_some-renamed f (kept_value r h n))
