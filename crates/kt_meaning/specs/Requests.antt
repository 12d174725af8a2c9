-- Requests: the act that each one is, which replies are of an act's kind, and the value that it gives, for the tree and
-- for code alike.
use Rattle.std.specs.Prelude.{◌≡◌, ◌⊎◌, ℕ, ℤ, pos, negsuc, ◌-◌, ◌%◌, Bool, true, false, IsTrue, List, [], ◌∷◌, slice_get, Option, None, Some, Result, Ok, Err}
use Rattle.std.specs.List.{list_any}
use Rattle.std.specs.Option.{is_some}
use Rattle.kt_types.specs.declared.kinds.Ty.{Ty}
use Rattle.kt_types.specs.declared.kinds.Ty.TheVariants as ty
use Rattle.kt_types.specs.Table.{Table}
use Rattle.kt_mem.specs.declared.memory.Value.{Value}
use Rattle.kt_mem.specs.declared.memory.Value.TheVariants.{Num, Undef}
use Rattle.kt_mem.specs.declared.steps.Act.{Act}
use Rattle.kt_mem.specs.declared.steps.Act.TheVariants as act
use Rattle.kt_mem.specs.declared.steps.Piece.{Piece}
use Rattle.kt_mem.specs.declared.steps.Piece.TheVariants as piece
use Rattle.kt_mem.specs.declared.steps.Reply.{Reply}
use Rattle.kt_mem.specs.declared.steps.Reply.TheVariants.{Done, Got, Trapped}
use Rattle.kt_mem.specs.declared.steps.Trap.{Trap}
use Rattle.kt_mem.specs.declared.steps.Trap.TheVariants as trap
use Rattle.kt_mem.specs.Values.{truth}
use Rattle.kt_tree.specs.declared.expr.Part.{Part as Format}
use Rattle.kt_tree.specs.declared.expr.Part.TheVariants as format
use Rattle.kt_tree.specs.declared.expr.Request.{Request}
use Rattle.kt_tree.specs.declared.expr.Request.TheVariants as request
use Rattle.kt_meaning.specs.Values.{is_of}
use Rattle.kt_meaning.specs.Thread.{Restart, is_updating, is_updating_from, kept_value}

-- ---- output

-- the byte that `putchar` and `%c` write: the number modulo 256 (ISO/IEC 9899:2011, 7.21.6.1, 7.21.7.3)
abbrev pub byte_of : ℤ → ℕ
byte_of (pos n) = n % 256
byte_of (negsuc n) = 255 - n % 256

abbrev pub before : Piece → Result (List Piece) Trap → Result (List Piece) Trap
before p (Ok ps) = Ok (p ∷ ps)
before p (Err t) = Err t

-- what `printf` writes: the parts of the format, with an operand for each but bytes
abbrev pub pieces : List Format → List Value → Result (List Piece) Trap
pieces [] [] = Ok []
pieces [] (v ∷ vs) = Err trap.Uninit
pieces (format.Bytes bytes ∷ parts) vs = before (piece.Bytes bytes) (pieces parts vs)
pieces (format.Number ∷ parts) (Num n ∷ vs) = before (piece.Number n) (pieces parts vs)
pieces (format.Byte ∷ parts) (Num n ∷ vs) = before (piece.Byte (byte_of n)) (pieces parts vs)
pieces (format.Text ∷ parts) (v ∷ vs) = before (piece.TextAt v) (pieces parts vs)
pieces _ _ = Err trap.Uninit

abbrev pub printed : Result (List Piece) Trap → Result Act Trap
printed (Ok ps) = Ok (act.Print ps)
printed (Err t) = Err t

-- ---- acts

-- a load and a store at a type that the table has
abbrev pub load_act : Option Ty → Value → Result Act Trap
load_act None p = Err trap.Uninit
load_act (Some u) p = Ok (act.Load p u)

abbrev pub store_act : Option Ty → Value → Value → Result Act Trap
store_act None p v = Err trap.Uninit
store_act (Some u) p v = Ok (act.Store p u v)

-- the type of a cell, where it is told
abbrev pub cell_type : Table → Option ℕ → Option Ty
cell_type types None = None
cell_type types (Some t) = slice_get types.types t

-- the act that a request of a function is, with the values of its operands; `uninit` where it doesn't take them
abbrev pub act_of : Table → ℕ → Request → Option ℕ → List Value → Result Act Trap
act_of types f request.Load t (p ∷ []) = load_act (cell_type types t) p
act_of types f request.Store t (p ∷ v ∷ []) = store_act (cell_type types t) p v
act_of types f (request.Allocate e zeros) t (Num n ∷ []) = Ok (act.Allocate e n zeros)
act_of types f request.Release t (p ∷ []) = Ok (act.Release p)
act_of types f request.Lock t (p ∷ []) = Ok (act.Lock p)
act_of types f request.Unlock t (p ∷ []) = Ok (act.Unlock p)
act_of types f request.InitMutex t (p ∷ []) = Ok (act.InitMutex p)
act_of types f request.GetChar t [] = Ok act.GetChar
act_of types f request.PutChar t (Num n ∷ []) = Ok (act.Print (piece.Byte (byte_of n) ∷ []))
act_of types f request.Puts t (p ∷ []) = Ok (act.Print (piece.TextAt p ∷ piece.Bytes (10 ∷ []) ∷ []))
act_of types f (request.Print parts) t vs = printed (pieces parts vs)
act_of types f (request.Create g) t (v ∷ []) = Ok (act.Create g v)
act_of types f request.Join t (Num n ∷ []) = Ok (act.Join n)
act_of types f (request.Point n) t [] = Ok (act.Point n)
act_of types f request.IsUpdating t [] = Ok (act.UpdatingTest None)
act_of types f (request.IsUpdatingFrom n) t [] = Ok (act.UpdatingTest (Some n))
act_of types f request.Automigrate t [] = Ok act.Automigrate
act_of types f (request.MigrateLocal n) t [] = Ok (act.MigrateLocal f n)
act_of types f _ t vs = Err trap.Uninit

-- ---- replies

-- the type of the value that an act gives, where it gives one: what is loaded, the pointer to a new object, the byte that
-- was read or -1, how many bytes were written, the number of a new thread
abbrev pub given_type : Act → Option Ty
given_type (act.Load p t) = Some t
given_type (act.Allocate e n zeros) = Some (ty.Ptr e)
given_type act.GetChar = Some ty.Int
given_type (act.Print ps) = Some ty.Int
given_type (act.Create f v) = Some ty.Int
given_type _ = None

-- the traps of reading a text and of writing it, by the pieces
abbrev pub is_text : Piece → Bool
is_text (piece.TextAt p) = true
is_text _ = false

abbrev pub print_traps : Bool → List Trap
print_traps true = trap.Null ∷ trap.Dead ∷ trap.Bounds ∷ trap.Uninit ∷ trap.Output ∷ []
print_traps false = trap.Output ∷ []

-- the traps of an act
abbrev pub traps_of : Act → List Trap
traps_of (act.Load p t) = trap.Null ∷ trap.Dead ∷ trap.Bounds ∷ trap.Uninit ∷ []
traps_of (act.Store p t v) = trap.Null ∷ trap.Dead ∷ trap.Bounds ∷ trap.Literal ∷ []
traps_of (act.Allocate e n zeros) = trap.Size ∷ trap.Heap ∷ []
traps_of (act.Release p) = trap.Dead ∷ trap.Free ∷ []
traps_of (act.Lock p) = trap.Null ∷ trap.Dead ∷ trap.Bounds ∷ trap.Uninit ∷ trap.Mutex ∷ []
traps_of (act.Unlock p) = trap.Null ∷ trap.Dead ∷ trap.Bounds ∷ trap.Uninit ∷ trap.Mutex ∷ []
traps_of (act.InitMutex p) = trap.Null ∷ trap.Dead ∷ trap.Bounds ∷ trap.Mutex ∷ []
traps_of (act.Wait p) = trap.Null ∷ trap.Dead ∷ trap.Bounds ∷ trap.Uninit ∷ trap.Mutex ∷ []
traps_of (act.Signal p all) = trap.Null ∷ trap.Dead ∷ trap.Bounds ∷ trap.Uninit ∷ []
traps_of (act.Print ps) = print_traps (list_any is_text ps)
traps_of (act.Create f v) = trap.Threads ∷ []
traps_of (act.Join n) = trap.Thread ∷ []
traps_of _ = []

-- the trap is among these
abbrev pub Among : Trap → List Trap → Type 0
Among t [] = ⊥
Among t (u ∷ us) = (t ≡ u) ⊎ Among t us

-- the reply tells a value of this type, where one is given
abbrev pub Tells : Option Ty → Reply → Type 0
Tells None Done = Unit {0}
Tells (Some t) (Got v) = IsTrue (is_of t v)
Tells _ _ = ⊥

-- a reply where a value of this type is given, or none, and these traps may come
abbrev pub Fits : Option Ty → List Trap → Reply → Type 0
Fits given traps Done = Tells given Done
Fits given traps (Got v) = Tells given (Got v)
Fits given traps (Trapped t) = Among t traps

-- the end of a thread and main's return take no reply
abbrev pub takes_reply : Act → Bool
takes_reply act.ThreadEnd = false
takes_reply (act.MainReturn n) = false
takes_reply _ = true

-- the reply is of the kind of the act
abbrev pub IsReplyOf : Act → Reply → Type 0
IsReplyOf a r = IsTrue (takes_reply a) × Fits (given_type a) (traps_of a) r

-- ---- values

-- the value that a reply tells, where it tells one
abbrev pub told : Reply → Value
told Done = Undef
told (Got v) = v
told (Trapped t) = Undef

-- what `x = e` gives: what was stored (6.5.16)
abbrev pub stored_value : List Value → Value
stored_value (p ∷ v ∷ []) = v
stored_value _ = Undef

-- what `putchar` gives: the byte (7.21.7.8)
abbrev pub byte_value : List Value → Value
byte_value (Num n ∷ []) = Num (pos (byte_of n))
byte_value _ = Undef

abbrev pub no_error : Value
no_error = Num (pos 0)

-- the value of a request of a function in a thread, with its operands and the value that the reply told; the undefined
-- one where the request gives none
abbrev pub request_value : ℕ → Restart → Request → List Value → Value → Value
request_value f r request.Load vs v = v
request_value f r request.Store vs v = stored_value vs
request_value f r (request.Allocate e zeros) vs v = v
request_value f r request.Release vs v = Undef
request_value f r request.Lock vs v = no_error
request_value f r request.Unlock vs v = no_error
request_value f r request.InitMutex vs v = no_error
request_value f r request.GetChar vs v = v
request_value f r request.PutChar vs v = byte_value vs
request_value f r request.Puts vs v = no_error
request_value f r (request.Print parts) vs v = v
request_value f r (request.Create g) vs v = v
request_value f r request.Join vs v = no_error
request_value f r (request.Point n) vs v = Undef
request_value f r request.IsUpdating vs v = truth (is_updating r.mode)
request_value f r (request.IsUpdatingFrom n) vs v = truth (is_updating_from n r.mode)
request_value f r request.Automigrate vs v = Undef
request_value f r (request.MigrateLocal n) vs v = truth (is_some (kept_value r f n))
