-- Stretches: ticks of one thread, one after another.
use Rattle.std.specs.Prelude.{◌≡◌, ◌⊎◌, ℕ, zero, suc, ◌<◌, ◌≤◌, Bool, true, false, Option, Some}
use Rattle.kt_mem.specs.declared.steps.Act.TheVariants as act
use Rattle.kt_mem.specs.declared.steps.Reply.TheVariants.{Done}
use Rattle.kt_meaning.specs.Steps.{after_reply}
use Rattle.kt_code.specs.Code.{Code}
use Rattle.kt_code.specs.Machine.{step}
use Rattle.kt_code.specs.Settling.{Fits, head_of, settle}
use Rattle.kt_code.specs.declared.private.Head.{Head}
use Rattle.kt_code.specs.declared.private.Head.TheVariants as head
use Rattle.kt_code.specs.declared.private.Private.{Private}
use Rattle.kt_exec.specs.declared.ticks.Loan.{Loan}

abbrev pub is_tick : Option Head → Bool
is_tick (Some (head.Act act.Tick)) = true
is_tick _ = false

-- the thread stands at a tick
abbrev pub at_tick : Code → Private → Bool
at_tick c p = is_tick (head_of (step c p))

-- a tick is answered, and the quiet steps behind it are taken
abbrev pub after_tick : Code → Private → Private
after_tick c p = settle c (after_reply p (step c p) Done)

abbrev pub after_ticks : Code → ℕ → Private → Private
after_ticks c zero p = p
after_ticks c (suc n) p = after_tick c (after_ticks c n p)

-- the thread stands at a tick n times in a row
abbrev pub TicksFor : Code → ℕ → Private → Type 0
TicksFor c n p = (k : ℕ) → k < n → at_tick c (after_ticks c k p) ≡ true

-- n ticks lead from a state to another one: as many as there are in a row, and at most so many
pub record AreTicks (c : Code) (first : Private) (most n : ℕ) (last : Private) : Type 0 where
  pub leads : last ≡ after_ticks c n first
  pub each : TicksFor c n first
  pub within : n ≤ most
  pub until : (n ≡ most) ⊎ (at_tick c last ≡ false)
  pub fits : Fits c last

-- the loan of a stretch: the thread and the state that were given, and its ticks up to another head or to so many
pub record IsStretch (c : Code) (start : Private) (of most : ℕ) (loan : Loan) : Type 0 where
  pub thread : loan.thread ≡ of
  pub first : loan.first ≡ start
  pub ticks : AreTicks c start most loan.ticks loan.last
