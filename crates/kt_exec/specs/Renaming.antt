-- Renaming: heap objects under other names.
use Rattle.std.specs.Prelude.{◌≡◌, ◌⊎◌, ℕ, ◌==◌, List, [], ◌∷◌, map, Option, None, Some, if◌then◌else◌}
use Rattle.kt_mem.specs.declared.memory.Name.{Name}
use Rattle.kt_mem.specs.declared.memory.Name.TheVariants.{Glob, Lit, Heap}
use Rattle.kt_mem.specs.declared.memory.Value.{Value}
use Rattle.kt_mem.specs.declared.memory.Value.TheVariants.{Num, Null, Ptr, Free, Held, Undef}
use Rattle.kt_mem.specs.declared.steps.Act.{Act}
use Rattle.kt_mem.specs.declared.steps.Act.TheVariants as act
use Rattle.kt_mem.specs.declared.steps.Piece.{Piece}
use Rattle.kt_mem.specs.declared.steps.Piece.TheVariants as piece
use Rattle.kt_mem.specs.declared.steps.Reply.{Reply}
use Rattle.kt_mem.specs.declared.steps.Reply.TheVariants.{Done, Got, Trapped}
use Rattle.kt_mem.specs.declared.thread.KeptLocal.{KeptLocal}
use Rattle.kt_mem.specs.Renaming.{Pairs, rename_value, rename_values, renamed}
use Rattle.kt_meaning.specs.Steps.{after_reply}
use Rattle.kt_code.specs.Code.{Code}
use Rattle.kt_code.specs.Machine.{step}
use Rattle.kt_code.specs.Settling.{head_of, settle}
use Rattle.kt_code.specs.declared.frame.Frame.{Frame}
use Rattle.kt_code.specs.declared.private.Private.{Private}
use Rattle.kt_code.specs.declared.private.Head.{Head}
use Rattle.kt_code.specs.declared.private.Head.TheVariants as head

-- ---- everything with its heap names renamed by a function

abbrev pub rename_frame : (ℕ → ℕ) → Frame → Frame
rename_frame f x = record x { locals = rename_values f x.locals }

abbrev pub rename_frames : (ℕ → ℕ) → List Frame → List Frame
rename_frames f xs = map (rename_frame f) xs

abbrev pub rename_kept_local : (ℕ → ℕ) → KeptLocal → KeptLocal
rename_kept_local f k = record k { value = rename_value f k.value }

abbrev pub rename_kept : (ℕ → ℕ) → List KeptLocal → List KeptLocal
rename_kept f ks = map (rename_kept_local f) ks

abbrev pub rename_private : (ℕ → ℕ) → Private → Private
rename_private f p = record {
  version = p.version;
  frames = rename_frames f p.frames;
  operands = rename_values f p.operands;
  mode = p.mode;
  locals = rename_kept f p.locals;
}

abbrev pub rename_piece : (ℕ → ℕ) → Piece → Piece
rename_piece f (piece.Bytes bytes) = piece.Bytes bytes
rename_piece f (piece.Number n) = piece.Number n
rename_piece f (piece.Byte b) = piece.Byte b
rename_piece f (piece.TextAt v) = piece.TextAt (rename_value f v)

abbrev pub rename_pieces : (ℕ → ℕ) → List Piece → List Piece
rename_pieces f xs = map (rename_piece f) xs

abbrev pub rename_act : (ℕ → ℕ) → Act → Act
rename_act f act.Tick = act.Tick
rename_act f (act.Load p t) = act.Load (rename_value f p) t
rename_act f (act.Store p t v) = act.Store (rename_value f p) t (rename_value f v)
rename_act f (act.Allocate e n zeros) = act.Allocate e n zeros
rename_act f (act.Release p) = act.Release (rename_value f p)
rename_act f (act.Lock p) = act.Lock (rename_value f p)
rename_act f (act.Unlock p) = act.Unlock (rename_value f p)
rename_act f (act.InitMutex p) = act.InitMutex (rename_value f p)
rename_act f act.GetChar = act.GetChar
rename_act f (act.Wait p) = act.Wait (rename_value f p)
rename_act f (act.Signal p all) = act.Signal (rename_value f p) all
rename_act f (act.Print ps) = act.Print (rename_pieces f ps)
rename_act f (act.Create g v) = act.Create g (rename_value f v)
rename_act f (act.Join n) = act.Join n
rename_act f (act.Point n) = act.Point n
rename_act f (act.MigrateLocal g n) = act.MigrateLocal g n
rename_act f act.Automigrate = act.Automigrate
rename_act f (act.UpdatingTest n) = act.UpdatingTest n
rename_act f act.ThreadEnd = act.ThreadEnd
rename_act f (act.MainReturn n) = act.MainReturn n

abbrev pub rename_reply : (ℕ → ℕ) → Reply → Reply
rename_reply f Done = Done
rename_reply f (Got v) = Got (rename_value f v)
rename_reply f (Trapped t) = Trapped t

-- an act is renamed, a trap stays the same
abbrev pub rename_head : (ℕ → ℕ) → Option Head → Option Head
rename_head f None = None
rename_head f (Some (head.Act a)) = Some (head.Act (rename_act f a))
rename_head f (Some (head.Trap t)) = Some (head.Trap t)

-- ---- renaming by pairs

-- a name is an old one, or a new one
abbrev pub IsOld : Pairs → ℕ → Type 0
IsOld [] a = ⊥
IsOld (p ∷ ps) a = (p.0 ≡ a) ⊎ IsOld ps a

abbrev pub IsNew : Pairs → ℕ → Type 0
IsNew [] a = ⊥
IsNew (p ∷ ps) a = (p.1 ≡ a) ⊎ IsNew ps a

-- no old name and no new one stands twice
abbrev pub AreOneToOne : Pairs → Type 0
AreOneToOne [] = Unit {0}
AreOneToOne (p ∷ ps) = (IsOld ps (p.0) → ⊥) × (IsNew ps (p.1) → ⊥) × AreOneToOne ps

-- ---- heap names among those of which P holds

abbrev pub NameIn : (ℕ → Type 0) → Name → Type 0
NameIn P (Glob i) = Unit {0}
NameIn P (Lit v i) = Unit {0}
NameIn P (Heap a) = P a

abbrev pub ValueIn : (ℕ → Type 0) → Value → Type 0
ValueIn P (Ptr n k) = NameIn P n
ValueIn P _ = Unit {0}

abbrev pub ValuesIn : (ℕ → Type 0) → List Value → Type 0
ValuesIn P [] = Unit {0}
ValuesIn P (v ∷ vs) = ValueIn P v × ValuesIn P vs

abbrev pub FramesIn : (ℕ → Type 0) → List Frame → Type 0
FramesIn P [] = Unit {0}
FramesIn P (x ∷ xs) = ValuesIn P x.locals × FramesIn P xs

abbrev pub KeptIn : (ℕ → Type 0) → List KeptLocal → Type 0
KeptIn P [] = Unit {0}
KeptIn P (k ∷ ks) = ValueIn P k.value × KeptIn P ks

abbrev pub PrivateIn : (ℕ → Type 0) → Private → Type 0
PrivateIn P p = FramesIn P p.frames × ValuesIn P p.operands × KeptIn P p.locals

abbrev pub ReplyIn : (ℕ → Type 0) → Reply → Type 0
ReplyIn P Done = Unit {0}
ReplyIn P (Got v) = ValueIn P v
ReplyIn P (Trapped t) = Unit {0}

abbrev pub PieceIn : (ℕ → Type 0) → Piece → Type 0
PieceIn P (piece.TextAt v) = ValueIn P v
PieceIn P _ = Unit {0}

abbrev pub PiecesIn : (ℕ → Type 0) → List Piece → Type 0
PiecesIn P [] = Unit {0}
PiecesIn P (x ∷ xs) = PieceIn P x × PiecesIn P xs

abbrev pub ActIn : (ℕ → Type 0) → Act → Type 0
ActIn P (act.Load p t) = ValueIn P p
ActIn P (act.Store p t v) = ValueIn P p × ValueIn P v
ActIn P (act.Release p) = ValueIn P p
ActIn P (act.Lock p) = ValueIn P p
ActIn P (act.Unlock p) = ValueIn P p
ActIn P (act.InitMutex p) = ValueIn P p
ActIn P (act.Wait p) = ValueIn P p
ActIn P (act.Signal p all) = ValueIn P p
ActIn P (act.Print ps) = PiecesIn P ps
ActIn P (act.Create g v) = ValueIn P v
ActIn P _ = Unit {0}

abbrev pub HeadIn : (ℕ → Type 0) → Option Head → Type 0
HeadIn P (Some (head.Act a)) = ActIn P a
HeadIn P _ = Unit {0}

-- ---- what a renamed thread does

-- a renamed thread settles to the renamed settled thread
abbrev pub SettlesRenamed : Code → Type 0
SettlesRenamed c =
    (ps : Pairs) (p : Private) → AreOneToOne ps → PrivateIn (IsOld ps) p
    → settle c (rename_private (renamed ps) p) ≡ rename_private (renamed ps) (settle c p)

-- with the renamed act, or the same trap
abbrev pub StandsRenamed : Code → Type 0
StandsRenamed c =
    (ps : Pairs) (p : Private) → AreOneToOne ps → PrivateIn (IsOld ps) p
    → head_of (step c (rename_private (renamed ps) (settle c p))) ≡ rename_head (renamed ps) (head_of (step c (settle c p)))

-- and after the renamed reply it is the renamed thread that had the reply
abbrev pub RepliesRenamed : Code → Type 0
RepliesRenamed c =
    (ps : Pairs) (p : Private) (r : Reply) → AreOneToOne ps → PrivateIn (IsOld ps) p → ReplyIn (IsOld ps) r
    → after_reply (rename_private (renamed ps) (settle c p)) (step c (rename_private (renamed ps) (settle c p))) (rename_reply (renamed ps) r)
    ≡ rename_private (renamed ps) (after_reply (settle c p) (step c (settle c p)) r)

-- ---- a thread names what it was given

-- a thread whose heap names are old ones settles to such a thread
abbrev pub SettlesAmong : Code → Type 0
SettlesAmong c = (ps : Pairs) (p : Private) → AreOneToOne ps → PrivateIn (IsOld ps) p → PrivateIn (IsOld ps) (settle c p)

-- its act names old ones
abbrev pub StandsAmong : Code → Type 0
StandsAmong c =
    (ps : Pairs) (p : Private) → AreOneToOne ps → PrivateIn (IsOld ps) p → HeadIn (IsOld ps) (head_of (step c (settle c p)))

-- and so it is after a reply that names an old one
abbrev pub RepliesAmong : Code → Type 0
RepliesAmong c =
    (ps : Pairs) (p : Private) (r : Reply) → AreOneToOne ps → PrivateIn (IsOld ps) p → ReplyIn (IsOld ps) r
    → PrivateIn (IsOld ps) (after_reply (settle c p) (step c (settle c p)) r)
