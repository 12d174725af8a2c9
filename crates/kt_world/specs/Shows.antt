-- When a world shows the same as another one, whose heap objects have other names. A machine's memory and threads hold addresses, each
-- of which was paired with the heap number of its object as it was given out, and stays so when the object is dead. By heap number
-- both worlds are the same; version, phase, requests, counts, input, output, marks and end are the same as they stand
-- (ISO/IEC 9899:2011, 6.2.4).
use Rattle.std.specs.Prelude.{◌≡◌, ℕ, true, List, [], ◌∷◌, map, Option, None, Some}
use Rattle.std.specs.List.{AllByRecursion}
use Rattle.std.specs.Option.{option_map}
use Rattle.kt_mem.specs.declared.memory.Value.{Value}
use Rattle.kt_mem.specs.declared.memory.Value.TheVariants.{Ptr}
use Rattle.kt_mem.specs.declared.steps.Act.{Act}
use Rattle.kt_mem.specs.declared.steps.Act.TheVariants as act
use Rattle.kt_mem.specs.declared.steps.Piece.{Piece}
use Rattle.kt_mem.specs.declared.steps.Piece.TheVariants as piece
use Rattle.kt_mem.specs.declared.steps.Reply.{Reply}
use Rattle.kt_mem.specs.declared.steps.Reply.TheVariants.{Done, Got, Trapped}
use Rattle.kt_mem.specs.declared.thread.KeptLocal.{KeptLocal}
use Rattle.kt_mem.specs.Renaming.{Pairs, rename_name, rename_value, rename_values, renamed}
use Rattle.kt_heap.specs.ByNumber.{HoldsGiven, WasGiven, by_number}
use Rattle.kt_heap.specs.Heap.{AreOneToOne, IsPairing}
use Rattle.kt_meaning.specs.Requests.{IsReplyOf}
use Rattle.kt_meaning.specs.Steps.{Step, Acts, Traps, Ends, after_reply}
use Rattle.kt_meaning.specs.Thread.{Restart}
use Rattle.kt_world.specs.Waiting.{any_enabled, is_enabled}
use Rattle.kt_world.specs.World.{Call, Engine, Shared, Standing, Live, Waiter, Parked, Ended, Thread, World, lives}

-- ---- by heap number

abbrev pub values_by : Pairs → List Value → List Value
values_by pairs values = rename_values (renamed pairs) values

abbrev pub call_by : Pairs → Call → Call
call_by pairs c = record c { locals = values_by pairs c.locals }

abbrev pub kept_local_by : Pairs → KeptLocal → KeptLocal
kept_local_by pairs k = record k { value = rename_value (renamed pairs) k.value }

abbrev pub restart_by : Pairs → Restart → Restart
restart_by pairs r = record r { kept = map (kept_local_by pairs) r.kept }

abbrev pub piece_by : Pairs → Piece → Piece
piece_by pairs (piece.TextAt p) = piece.TextAt (rename_value (renamed pairs) p)
piece_by pairs (piece.Bytes bytes) = piece.Bytes bytes
piece_by pairs (piece.Number n) = piece.Number n
piece_by pairs (piece.Byte b) = piece.Byte b

abbrev pub act_by : Pairs → Act → Act
act_by pairs act.Tick = act.Tick
act_by pairs (act.Load p t) = act.Load (rename_value (renamed pairs) p) t
act_by pairs (act.Store p t v) = act.Store (rename_value (renamed pairs) p) t (rename_value (renamed pairs) v)
act_by pairs (act.Allocate e n zeros) = act.Allocate e n zeros
act_by pairs (act.Release p) = act.Release (rename_value (renamed pairs) p)
act_by pairs (act.Lock p) = act.Lock (rename_value (renamed pairs) p)
act_by pairs (act.Unlock p) = act.Unlock (rename_value (renamed pairs) p)
act_by pairs (act.InitMutex p) = act.InitMutex (rename_value (renamed pairs) p)
act_by pairs act.GetChar = act.GetChar
act_by pairs (act.Wait p) = act.Wait (rename_value (renamed pairs) p)
act_by pairs (act.Signal p all) = act.Signal (rename_value (renamed pairs) p) all
act_by pairs (act.Print pieces) = act.Print (map (piece_by pairs) pieces)
act_by pairs (act.Create f a) = act.Create f (rename_value (renamed pairs) a)
act_by pairs (act.Join n) = act.Join n
act_by pairs (act.Point n) = act.Point n
act_by pairs (act.MigrateLocal f n) = act.MigrateLocal f n
act_by pairs act.Automigrate = act.Automigrate
act_by pairs (act.UpdatingTest n) = act.UpdatingTest n
act_by pairs act.ThreadEnd = act.ThreadEnd
act_by pairs (act.MainReturn n) = act.MainReturn n

abbrev pub reply_by : Pairs → Reply → Reply
reply_by pairs Done = Done
reply_by pairs (Got v) = Got (rename_value (renamed pairs) v)
reply_by pairs (Trapped t) = Trapped t

abbrev pub standing_by : Pairs → Standing → Standing
standing_by pairs Live = Live
standing_by pairs (Waiter n k) = Waiter (rename_name (renamed pairs) n) k
standing_by pairs Parked = Parked
standing_by pairs Ended = Ended

abbrev pub kept_by : Pairs → List (Option (List Value)) → List (Option (List Value))
kept_by pairs kept = map (option_map (values_by pairs)) kept

-- memory and kept values alone hold heap names
abbrev pub shared_by : Pairs → Shared → Shared
shared_by pairs s = record s { memory = by_number pairs s.memory; kept = kept_by pairs s.kept }

-- ---- what was given out

abbrev pub AreGiven : Pairs → List Value → Type 0
AreGiven pairs values = AllByRecursion (WasGiven pairs) values

abbrev pub AreGivenIfKept : Pairs → Option (List Value) → Type 0
AreGivenIfKept pairs None = Unit {0}
AreGivenIfKept pairs (Some values) = AreGiven pairs values

abbrev pub text_of : Piece → List Value
text_of (piece.TextAt p) = p ∷ []
text_of _ = []

-- the values that an act names
abbrev pub IsGivenAct : Pairs → Act → Type 0
IsGivenAct pairs (act.Load p t) = WasGiven pairs p
IsGivenAct pairs (act.Store p t v) = WasGiven pairs p × WasGiven pairs v
IsGivenAct pairs (act.Release p) = WasGiven pairs p
IsGivenAct pairs (act.Lock p) = WasGiven pairs p
IsGivenAct pairs (act.Unlock p) = WasGiven pairs p
IsGivenAct pairs (act.InitMutex p) = WasGiven pairs p
IsGivenAct pairs (act.Wait p) = WasGiven pairs p
IsGivenAct pairs (act.Signal p all) = WasGiven pairs p
IsGivenAct pairs (act.Print pieces) = AllByRecursion (λ x. AreGiven pairs (text_of x)) pieces
IsGivenAct pairs (act.Create f a) = WasGiven pairs a
IsGivenAct pairs _ = Unit {0}

abbrev pub IsGivenReply : Pairs → Reply → Type 0
IsGivenReply pairs (Got v) = WasGiven pairs v
IsGivenReply pairs _ = Unit {0}

-- the cell for whose condition a thread waits
abbrev pub IsGivenStanding : Pairs → Standing → Type 0
IsGivenStanding pairs (Waiter n k) = WasGiven pairs (Ptr n k)
IsGivenStanding pairs _ = Unit {0}

-- ---- engines

-- the same act by heap number, the same trap, or the same end
abbrev pub IsSameStep : {X Y : Type 0} → Pairs → Step X → Step Y → Type 0
IsSameStep pairs (Acts a f) (Acts b g) = IsGivenAct pairs a × (act_by pairs a ≡ b)
IsSameStep pairs (Traps t) (Traps u) = t ≡ u
IsSameStep pairs (Ends a) (Ends b) = a ≡ b
IsSameStep pairs _ _ = ⊥

-- the reply is of the kind of the step's act
abbrev pub IsReplyTo : {X : Type 0} → Step X → Reply → Type 0
IsReplyTo (Acts a go) r = IsReplyOf a r
IsReplyTo _ r = ⊥

-- what a state tells of its thread, by heap number: the mode, and the open calls, whose values were given out
pub record LooksSame {X Y : Type 0} (e : Engine X) (f : Engine Y) (pairs : Pairs) (x : X) (y : Y) : Type 0 where
  pub mode : e.mode x ≡ f.mode y
  pub given : AllByRecursion (λ (c : Call). AreGiven pairs c.locals) (e.calls x)
  pub calls : map (call_by pairs) (e.calls x) ≡ f.calls y

-- two settled states look the same and stand at the same act
pub record StandsSame {X Y : Type 0} (e : Engine X) (f : Engine Y) (version : ℕ) (pairs : Pairs) (x : X) (y : Y) : Type 0 where
  pub looks : LooksSame e f pairs x y
  pub step : IsSameStep pairs (e.step version x) (f.step version y)

-- what was given out before has its number where more was given out, and nothing was given out twice
pub record Grows (old new : Pairs) : Type 0 where
  pub one_to_one : AreOneToOne new
  pub values : (v : Value) → WasGiven old v → rename_value (renamed new) v ≡ rename_value (renamed old) v
  pub given : (v : Value) → WasGiven old v → WasGiven new v

-- the settled state after a reply
abbrev pub next_state : {X : Type 0} → Engine X → ℕ → X → Reply → X
next_state e version x r = e.settle version (after_reply x (e.step version x) r)

-- Two settled states do the same by heap number on a list of replies, each of the kind of the act that it answers, with the pairs that
-- were given out by then: before each reply and after the last one they stand the same.
abbrev pub DoSameOn : {X Y : Type 0} → Engine X → Engine Y → ℕ → List (Pairs × Reply) → Pairs → X → Y → Type 0
DoSameOn e f version [] pairs x y = StandsSame e f version pairs x y
DoSameOn e f version (p ∷ more) pairs x y =
    StandsSame e f version pairs x y ×
    (Grows pairs p.0 → IsReplyTo (e.step version x) p.1 → IsGivenReply p.0 p.1 →
    DoSameOn e f version more p.0 (next_state e version x p.1) (next_state f version y (reply_by p.0 p.1)))

-- on every such list
abbrev pub DoSame : {X Y : Type 0} → Engine X → Engine Y → ℕ → Pairs → X → Y → Type 0
DoSame e f version pairs x y = (replies : List (Pairs × Reply)) → DoSameOn e f version replies pairs x y

-- What two engines owe, so that worlds of the one show worlds of the other: threads that begin in a version with the same function,
-- arguments and kept locals do the same there, and threads that have ended look the same.
pub record BeginSame {X Y : Type 0} (e : Engine X) (f : Engine Y) : Type 0 where
  pub entries : (version g : ℕ) (pairs : Pairs) (arguments : List Value) (r : Restart) →
      AreOneToOne pairs → AreGiven pairs arguments → AreGiven pairs (map (λ k. k.value) r.kept) →
      DoSame e f version pairs (e.settle version (e.entry version g arguments r)) (f.settle version (f.entry version g (values_by pairs arguments) (restart_by pairs r)))
  pub ends : (pairs : Pairs) (x : X) (y : Y) → LooksSame e f pairs x y → LooksSame e f pairs (e.ended x) (f.ended y)

-- ---- threads

-- unless it has ended, a thread has the same arguments and does the same
pub record IsShownThread {X Y : Type 0} (e : Engine X) (f : Engine Y) (version : ℕ) (pairs : Pairs) (a : Thread X) (b : Thread Y) : Type 0 where
  pub entry : a.entry ≡ b.entry
  pub standing : standing_by pairs a.standing ≡ b.standing
  pub waits : IsGivenStanding pairs a.standing
  pub looks : LooksSame e f pairs a.state b.state
  pub arguments : lives a.standing ≡ true → values_by pairs a.arguments ≡ b.arguments
  pub given : lives a.standing ≡ true → AreGiven pairs a.arguments
  pub does : lives a.standing ≡ true → DoSame e f version pairs a.state b.state

-- one by one
abbrev pub AreAll : {A B : Type 0} → (A → B → Type 0) → List A → List B → Type 0
AreAll P [] [] = Unit {0}
AreAll P (a ∷ l) (b ∷ m) = P a b × AreAll P l m
AreAll P _ _ = ⊥

-- ---- worlds

-- each heap name of the world w was given out for one heap number, and by heap number w is the world v
pub record Shows {X Y : Type 0} (e : Engine X) (f : Engine Y) (pairs : Pairs) (w : World X) (v : World Y) : Type 0 where
  pub one_to_one : AreOneToOne pairs
  pub pairing : IsPairing pairs w.shared.memory
  pub holds : HoldsGiven pairs w.shared.memory
  pub kept : AllByRecursion (AreGivenIfKept pairs) w.shared.kept
  pub shared : shared_by pairs w.shared ≡ v.shared
  pub threads : AreAll (IsShownThread e f w.shared.version pairs) w.threads v.threads

-- ---- laws

-- the same is told of both worlds, and the same threads may take a turn
pub record TellsSame {X Y : Type 0} (e : Engine X) (f : Engine Y) (w : World X) (v : World Y) : Type 0 where
  pub version : w.shared.version ≡ v.shared.version
  pub phase : w.shared.phase ≡ v.shared.phase
  pub output : w.shared.output ≡ v.shared.output
  pub turns : w.shared.turns ≡ v.shared.turns
  pub marks : w.shared.marks ≡ v.shared.marks
  pub ended : w.shared.ended ≡ v.shared.ended
  pub enabled : (t : ℕ) → is_enabled e w t ≡ is_enabled f v t
  pub any : any_enabled e w 0 w.threads ≡ any_enabled f v 0 v.threads

-- A world that shows another one tells the same.
abbrev pub WhatIsShownIsTold : {X Y : Type 0} → Engine X → Engine Y → Type 0
WhatIsShownIsTold {X} {Y} e f = (pairs : Pairs) (w : World X) (v : World Y) → Shows e f pairs w v → TellsSame e f w v

-- Two states that do the same do so after a reply of the act's kind, and where more was given out.
abbrev pub SameGoesOn : {X Y : Type 0} → Engine X → Engine Y → Type 0
SameGoesOn {X} {Y} e f =
    (version : ℕ) (old new : Pairs) (x : X) (y : Y) (r : Reply) →
    DoSame e f version old x y → Grows old new → IsReplyTo (e.step version x) r → IsGivenReply new r →
    DoSame e f version new (next_state e version x r) (next_state f version y (reply_by new r))
