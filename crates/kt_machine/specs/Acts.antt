-- What a machine does at its act, and what stays of it.
use Rattle.std.specs.Prelude.{◌≡◌, List, Bool, false, slice_get}
use Rattle.kt_types.specs.Table.{Table}
use Rattle.kt_mem.specs.declared.steps.Act.{Act}
use Rattle.kt_mem.specs.declared.steps.Act.TheVariants as act
use Rattle.kt_mem.specs.declared.steps.Reply.{Reply}
use Rattle.kt_mem.specs.declared.steps.Reply.TheVariants.{Done, Got, Trapped}
use Rattle.kt_mem.specs.Memory.{Memory, waits}
use Rattle.kt_meaning.specs.Effects as plain
use Rattle.kt_meaning.specs.Steps.{Step}
use Rattle.kt_code.specs.Agreement.{IsReplyTo}
use Rattle.kt_code.specs.declared.private.Head.{Head}
use Rattle.kt_code.specs.declared.private.Head.TheVariants as head
use Rattle.kt_code.specs.declared.private.Private.{Private}
use Rattle.kt_pair.specs.Pair.{Pair}
use Rattle.kt_lone.specs.Job.{Job}
use Rattle.kt_lone.specs.Turn.{acted, after_act, counted, elsewhere, ends}
use Rattle.kt_lone.specs.World.{Engine, Thread, World}
use Rattle.kt_machine.specs.declared.machine.Machine.{Machine}
use Rattle.kt_machine.specs.ByNumber.{private_by}
use Rattle.kt_machine.specs.Engine.{code_step, pairs_of, without_ended}

-- what a machine's thread does next, by address and by heap number
abbrev pub own_step : List Pair → Machine → Step Private
own_step codes m = code_step (slice_get codes m.shared.version) m.private

abbrev pub step_of : List Pair → Machine → Step Private
step_of codes m = code_step (slice_get codes m.shared.version) (private_by (pairs_of m) m.private)

-- the thread, the version in force, memory, input and output stay
pub record KeepsThread (m n : Machine) : Type 0 where
  pub private : n.private ≡ m.private
  pub head : n.head ≡ m.head
  pub standing : n.standing ≡ m.standing
  pub version : n.shared.version ≡ m.shared.version
  pub outside : n.shared.outside ≡ m.shared.outside

-- the version in force and the turns so far stay
pub record KeepsPlace (m n : Machine) : Type 0 where
  pub version : n.shared.version ≡ m.shared.version
  pub turns : n.shared.turns ≡ m.shared.turns

-- a trap may come; any other reply is of the kind of the step's act
abbrev pub MayReply : Step Private → Reply → Type 0
MayReply s Done = IsReplyTo s Done
MayReply s (Got v) = IsReplyTo s (Got v)
MayReply s (Trapped t) = Unit {0}

-- what becomes of what thread 0 stands at: of a trap, the reply that tells of it
abbrev pub outcome_at : Table → Head → plain.Shared → plain.Outcome
outcome_at types (head.Act a) s = plain.effect types 0 a s
outcome_at types (head.Trap t) s = plain.Replies (Trapped t) s

-- a turn of thread 0, where nothing is kept of a thread that has ended
abbrev pub turned : Engine Private → Job → World Private → World Private
turned e job w = after_act e job (counted (without_ended (acted e job w 0)))

-- what it does elsewhere than in memory, input and output
abbrev pub elsewhere_at : Engine Private → World Private → Thread Private → Head → World Private
elsewhere_at e w th (head.Act act.ThreadEnd) = ends w 0 th act.ThreadEnd
elsewhere_at e w th (head.Act (act.MainReturn n)) = ends w 0 th (act.MainReturn n)
elsewhere_at e w th (head.Act a) = elsewhere e w 0 th a
elsewhere_at e w th (head.Trap t) = w

-- at its end nothing is kept of the thread
abbrev pub left_at : Head → World Private → World Private
left_at (head.Act act.ThreadEnd) w = without_ended w
left_at h w = w

-- the act is a lock of a mutex that another thread than thread 0 holds
abbrev pub waits_at : Memory → Act → Bool
waits_at m (act.Lock p) = waits m 0 p
waits_at m a = false
