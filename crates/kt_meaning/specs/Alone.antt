-- A thread that runs alone, where no update is asked for: its acts in order, what it writes, and how it ends.
use Rattle.std.specs.Prelude.{ℕ, zero, suc, List, [], ◌∷◌}
use Rattle.kt_types.specs.Table.{Table}
use Rattle.kt_mem.specs.declared.steps.Act.{Act}
use Rattle.kt_mem.specs.declared.steps.Reply.{Reply}
use Rattle.kt_mem.specs.declared.steps.Reply.TheVariants.{Done, Got, Trapped}
use Rattle.kt_mem.specs.declared.steps.Trap.{Trap}
use Rattle.kt_meaning.specs.Steps.{Step, Quiet, Acts, Traps, Ends}
use Rattle.kt_meaning.specs.Thread.{Thread}
use Rattle.kt_meaning.specs.TreeSteps.{Version, step}
use Rattle.kt_meaning.specs.Weights.{settle}
use Rattle.kt_meaning.specs.Effects.{Shared, Outcome, Replies, Waits, Elsewhere, effect}

-- how a run stands: the acts that were allowed are done, it waits, it trapped, or it ended with this act
pub data End : Type 0 where
  Stopped : End
  Stuck : End
  Trap' : Trap → End
  Ended : Act → End

pub record Run : Type 0 where
  pub acts : List Act
  pub output : List ℕ
  pub end : End

abbrev pub stops : Shared → End → Run
stops s e = record { acts = []; output = s.output; end = e }

abbrev pub after_act : Act → Run → Run
after_act a r = record r { acts = a ∷ r.acts }

-- the run goes on with the reply; no update is asked for, and no other thread is there
abbrev pub on_outcome : (Thread → Shared → Run) → Thread → (Reply → Thread) → Shared → Outcome → Run
on_outcome later t go s (Replies Done after) = later (go Done) after
on_outcome later t go s (Replies (Got v) after) = later (go (Got v)) after
on_outcome later t go s (Replies (Trapped e) after) = stops after (Trap' e)
on_outcome later t go s Waits = stops s Stuck
on_outcome later t go s Elsewhere = later (go Done) s

abbrev pub on_step : (Thread → Shared → Run) → Table → Thread → Shared → Step Thread → Run
on_step later types t s (Quiet u) = stops s Stopped
on_step later types t s (Acts a go) = after_act a (on_outcome later t go s (effect types 0 a s))
on_step later types t s (Traps e) = stops s (Trap' e)
on_step later types t s (Ends a) = stops s (Ended a)

-- the run of a thread, for at most so many acts
abbrev pub alone : Version → ℕ → Thread → Shared → Run
alone v zero t s = stops s Stopped
alone v (suc n) t s = on_step (alone v n) v.program.types (settle v t) s (step v (settle v t))
