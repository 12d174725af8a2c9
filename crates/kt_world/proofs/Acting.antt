-- An act changes neither how many turns were made, nor the marks, the phase, or how many requests were made.
use Rattle.std.specs.Prelude.{◌≡◌, ℕ, pos, Bool, true, false, List, length, Option, None, Some, Result, Ok, Err, refl, nat_le, if◌then◌else◌}
use Rattle.std.proofs.Common.{◌∙◌}
use Rattle.kt_types.specs.Table.{Table}
use Rattle.kt_mem.specs.declared.memory.Value.{Value}
use Rattle.kt_mem.specs.declared.memory.Value.TheVariants.{Num}
use Rattle.kt_mem.specs.declared.steps.Act.{Act}
use Rattle.kt_mem.specs.declared.steps.Act.TheVariants as act
use Rattle.kt_mem.specs.declared.steps.Reply.{Reply}
use Rattle.kt_mem.specs.declared.steps.Reply.TheVariants.{Done, Got, Trapped}
use Rattle.kt_mem.specs.declared.steps.Trap.{Trap}
use Rattle.kt_mem.specs.declared.steps.Trap.TheVariants as trap
use Rattle.kt_mem.specs.declared.thread.Mode.{Mode}
use Rattle.kt_mem.specs.declared.thread.Mode.TheVariants.{Normal, Updating}
use Rattle.kt_mem.specs.Memory.{Memory, unlock, signal}
use Rattle.kt_meaning.specs.Effects as outside
use Rattle.kt_meaning.specs.Effects.{Outcome, Replies, Waits, Elsewhere}
use Rattle.kt_meaning.specs.Steps.{Step, Quiet, Acts, Traps, Ends}
use Rattle.kt_phase.specs.declared.counters.Phase.{Phase}
use Rattle.kt_phase.specs.declared.counters.Phase.TheVariants.{Run, Asked, Main, Others}
use Rattle.kt_world.specs.declared.mark.Mark.{Mark}
use Rattle.kt_world.specs.Acts.{answered, created, new_thread, with_new, joins, waited, signalled, at_point, migrated, elsewhere, on_outcome, ends, effect, act_of, with_shared}
use Rattle.kt_world.specs.Waiting.{joined}
use Rattle.kt_world.specs.World.{Engine, Shared, Thread, World, with_outside, outside_of}

-- what acts leave as it is
abbrev pub history : Shared → (ℕ × ℕ) × (Phase × List Mark)
history s = ((s.turns, s.requests), (s.phase, s.marks))

abbrev pub IsSame : {X : Type 0} → World X → World X → Type 0
IsSame w u = history u.shared ≡ history w.shared

module _ {X : Type 0} (e : Engine X) where
  abbrev Same : World X → World X → Type 0
  Same w u = IsSame w u

  same : (w : World X) → Same w w
  same w = refl

  by-choice : (b : Bool) (w u v : World X) → Same w u → Same w v → Same w (if b then u else v)
  by-choice true w u v h k = h
  by-choice false w u v h k = k

  -- ---- acts

  answered-same : (w : World X) (t : ℕ) (th : Thread X) (r : Reply) → Same w (answered e w t th r)
  answered-same w t th Done = refl
  answered-same w t th (Got v) = refl
  answered-same w t th (Trapped cause) = refl

  created-same : (w : World X) (t : ℕ) (th : Thread X) (f : ℕ) (a : Value) → Same w (created e w t th f a)
  created-same w t th f a =
      by-choice (nat_le 65 (length w.threads)) w _ _ (answered-same w t th (Trapped trap.Threads))
      (answered-same (with_new w (new_thread e w.shared.version f a)) t th (Got (Num (pos (length w.threads)))))

  joins-same : (w : World X) (t : ℕ) (th : Thread X) (o : Option (Thread X)) → Same w (joins e w t th o)
  joins-same w t th None = refl
  joins-same w t th (Some other) = refl

  waited-same : (w : World X) (t : ℕ) (th : Thread X) (p : Value) (r : Result Memory Trap) → Same w (waited e w t th p r)
  waited-same w t th p (Err cause) = refl
  waited-same w t th p (Ok m) = refl

  signalled-same : (w : World X) (t : ℕ) (th : Thread X) (p : Value) (all : Bool) (r : Result Memory Trap) → Same w (signalled e w t th p all r)
  signalled-same w t th p all (Err cause) = refl
  signalled-same w t th p all (Ok m) = refl

  at_point-same : (w : World X) (t : ℕ) (th : Thread X) (mode : Mode) (phase : Phase) → Same w (at_point e w t th mode phase)
  at_point-same w t th Normal Run = refl
  at_point-same w t th Normal Asked = refl
  at_point-same w t th Normal Main = refl
  at_point-same w t th Normal Others = refl
  at_point-same w t th (Updating p) phase = refl

  migrated-same : (mode : Mode) (w : World X) → Same w (with_shared w (migrated mode w.shared))
  migrated-same Normal w = refl
  migrated-same (Updating p) w = refl

  chain : (w u v : World X) → Same w u → Same u v → Same w v
  chain w u v h k = k ∙ h

  elsewhere-same : (w : World X) (t : ℕ) (th : Thread X) (a : Act) → Same w (elsewhere e w t th a)
  elsewhere-same w t th (act.Create f a) = created-same w t th f a
  elsewhere-same w t th (act.Join n) = joins-same w t th (joined w.threads t n)
  elsewhere-same w t th (act.Wait p) = waited-same w t th p (unlock w.shared.memory t p)
  elsewhere-same w t th (act.Signal p all) = signalled-same w t th p all (signal w.shared.memory p)
  elsewhere-same w t th (act.Point p) = at_point-same w t th (e.mode th.state) w.shared.phase
  elsewhere-same w t th act.Automigrate =
      let u = with_shared w (migrated (e.mode th.state) w.shared) in
      chain w u (answered e u t th Done) (migrated-same (e.mode th.state) w) (answered-same u t th Done)
  elsewhere-same w t th _ = refl

  outcome-same : (w : World X) (t : ℕ) (th : Thread X) (a : Act) (o : Outcome) → Same w (on_outcome e w t th a o)
  outcome-same w t th a (Replies r o) = answered-same (with_shared w (with_outside w.shared o)) t th r
  outcome-same w t th a Waits = refl
  outcome-same w t th a Elsewhere = elsewhere-same w t th a

  ends-same : (w : World X) (t : ℕ) (th : Thread X) (a : Act) → Same w (ends e w t th a)
  ends-same w t th act.ThreadEnd = refl
  ends-same w t th (act.MainReturn n) = refl
  ends-same w t th _ = refl

  effect-same : (types : Table) (w : World X) (t : ℕ) (th : Thread X) (s : Step X) → Same w (effect e types w t th s)
  effect-same types w t th (Quiet x) = refl
  effect-same types w t th (Acts a go) = outcome-same w t th a (outside.effect types t a (outside_of w.shared))
  effect-same types w t th (Traps cause) = refl
  effect-same types w t th (Ends a) = ends-same w t th a

  pub act-same : (types : Table) (w : World X) (t : ℕ) (o : Option (Thread X)) → Same w (act_of e types w t o)
  act-same types w t None = refl
  act-same types w t (Some th) = effect-same types w t th (e.step w.shared.version th.state)
