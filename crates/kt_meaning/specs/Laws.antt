-- What the laws of threads, and of acts on memory, input and output, speak of.
use Rattle.std.specs.Prelude.{◌≡◌, ◌⊎◌, ℕ, ◌<◌, ◌≤◌, IsTrue, length, slice_get, Some, List, suc, Result, Ok, Err}
use Rattle.std.specs.List.{AllByRecursion}
use Rattle.kt_types.specs.declared.kinds.Ty.TheVariants as ty
use Rattle.kt_types.specs.Table.{Table}
use Rattle.kt_mem.specs.Memory.{Cell}
use Rattle.kt_mem.specs.declared.memory.Name.{Name}
use Rattle.kt_mem.specs.declared.memory.Value.{Value}
use Rattle.kt_mem.specs.declared.memory.Value.TheVariants.{Ptr, Undef}
use Rattle.kt_mem.specs.declared.steps.Act.{Act}
use Rattle.kt_mem.specs.declared.steps.Reply.{Reply}
use Rattle.kt_mem.specs.declared.steps.Trap.{Trap}
use Rattle.kt_mem.specs.Memory.{Memory, Object, load}
use Rattle.kt_tree.specs.Tree.{Function}
use Rattle.kt_tree.specs.Version.{Program, head_of}
use Rattle.kt_meaning.specs.Steps.{Step, Quiet, Acts, Traps, Ends, after_reply as after_reply_to}
use Rattle.kt_meaning.specs.Values.{is_of, AreAt}
use Rattle.kt_meaning.specs.Requests.{IsReplyOf}
use Rattle.kt_meaning.specs.Effects.{Shared, Outcome, Replies, Waits, Elsewhere, effect, text_with, text_at}
use Rattle.kt_meaning.specs.Thread.{Restart, Thread, entry}
use Rattle.kt_meaning.specs.ThreadTypes.{IsRestart, IsThread, IsTypedAct}
use Rattle.kt_meaning.specs.TreeSteps.{Version, step}

-- ---- threads

-- a program as the version of this number
abbrev pub numbered : Program → ℕ → Version
numbered p n = record { program = p; number = n }

-- what the step stores or hands to a new thread is of its type
abbrev pub IsTypedStep : Program → Step Thread → Type 0
IsTypedStep p (Quiet t) = Unit {0}
IsTypedStep p (Acts a go) = IsTypedAct p a
IsTypedStep p (Traps t) = Unit {0}
IsTypedStep p (Ends a) = Unit {0}

-- the step is an act, and the reply is of its kind
abbrev pub IsReplyTo : Step Thread → Reply → Type 0
IsReplyTo (Quiet t) r = ⊥
IsReplyTo (Acts a go) r = IsReplyOf a r
IsReplyTo (Traps t) r = ⊥
IsReplyTo (Ends a) r = ⊥

-- a settled thread after a reply
abbrev pub after_reply : Version → Thread → Reply → Thread
after_reply s t r = after_reply_to t (step s t) r

-- a thread at the entry of a function, with arguments of its parameters' types, is one of the version
abbrev pub EntriesAreThreads : Program → Type 0
EntriesAreThreads p =
    (g : ℕ) (f : Function) (arguments : List Value) (r : Restart) → slice_get p.functions g ≡ Some f → AreAt p.types (head_of f).parameters arguments
    → IsRestart p r → IsThread p (entry g f arguments r)

-- ---- memory, input and output

-- each cell holds a value of its type, or the undefined one
abbrev pub IsTyped : Memory → Type 0
IsTyped m = (n : Name) (o : Object) (k : ℕ) (c : Cell) → m.at n ≡ Some o → slice_get o.cells k ≡ Some c → (c.value ≡ Undef) ⊎ IsTrue (is_of c.ty c.value)

-- and each byte of the input is one, and not too much was written
pub record IsShared (s : Shared) : Type 0 where
  pub memory : IsTyped s.memory
  pub input : AllByRecursion (λ b. b < 256) s.input
  pub output : length s.output ≤ 16777216

-- the outcome's reply is of the act's kind
abbrev pub IsOutcomeOf : Act → Outcome → Type 0
IsOutcomeOf a (Replies r s) = IsReplyOf a r
IsOutcomeOf a Waits = Unit {0}
IsOutcomeOf a Elsewhere = Unit {0}

-- what an outcome leaves is typed again
abbrev pub LeavesShared : Outcome → Type 0
LeavesShared (Replies r s) = IsShared s
LeavesShared Waits = Unit {0}
LeavesShared Elsewhere = Unit {0}

-- what an act does gives a reply of the act's kind, or the thread waits, or the act is one on threads or updates
abbrev pub EffectsReply : Type 0
EffectsReply = (types : Table) (thread : ℕ) (a : Act) (s : Shared) → IsShared s → IsOutcomeOf a (effect types thread a s)

-- and leaves what is typed, where the act of a thread of a version is
abbrev pub EffectsStayTyped : Type 0
EffectsStayTyped = (p : Program) (types : Table) (thread : ℕ) (a : Act) (s : Shared) → IsTypedAct p a → IsShared s → LeavesShared (effect types thread a s)

-- the text at a pointer is that of a load of its cell and of the text behind it: the traps are those of loads
abbrev pub loaded_text : Result Value Trap → Result (List ℕ) Trap → Result (List ℕ) Trap
loaded_text (Ok v) rest = text_with v rest
loaded_text (Err e) rest = Err e

abbrev pub TextsAreLoads : Type 0
TextsAreLoads = (m : Memory) (n : Name) (k : ℕ) → text_at m (Ptr n k) ≡ loaded_text (load m (Ptr n k) ty.Char) (text_at m (Ptr n (suc k)))
