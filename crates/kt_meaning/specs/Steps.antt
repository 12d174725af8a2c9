-- Steps of a thread, for the tree and for code alike: quiet steps, acts, and settling.
use Rattle.std.specs.Prelude.{◌≡◌, ℕ, zero, suc, ◌<◌}
use Rattle.kt_mem.specs.declared.steps.Act.{Act}
use Rattle.kt_mem.specs.declared.steps.Reply.{Reply}
use Rattle.kt_mem.specs.declared.steps.Reply.TheVariants.{Done, Got, Trapped}
use Rattle.kt_mem.specs.declared.steps.Trap.{Trap}

-- what a thread in state x does next
pub data Step (X : Type 0) : Type 0 where
  -- a step that touches the thread alone
  Quiet : X → Step X
  -- an act, and how the thread goes on with each reply
  Acts : Act → (Reply → X) → Step X
  -- a trap met in quiet steps
  Traps : Trap → Step X
  -- the last act, which takes no reply: the end of a thread, or main's return
  Ends : Act → Step X

-- the step is no quiet one
abbrev pub IsHead : {X : Type 0} → Step X → Type 0
IsHead (Quiet y) = ⊥
IsHead (Acts a go) = Unit {0}
IsHead (Traps t) = Unit {0}
IsHead (Ends a) = Unit {0}

-- y comes after k quiet steps from x
abbrev pub Comes : {X : Type 0} → (X → Step X) → ℕ → X → X → Type 0
Comes step zero x y = x ≡ y
Comes {X = X} step (suc k) x y = (z : X) × (step x ≡ Quiet z) × Comes step k z y

-- what comes after a quiet step, and this state where the step is no quiet one
abbrev pub or_rest : {X : Type 0} → (X → X) → X → Step X → X
or_rest later x (Quiet y) = later y
or_rest later x (Acts a go) = x
or_rest later x (Traps t) = x
or_rest later x (Ends a) = x

-- the state after at most n quiet steps
abbrev pub settle_within : {X : Type 0} → (X → Step X) → ℕ → X → X
settle_within step zero x = x
settle_within step (suc n) x = or_rest (settle_within step n) x (step x)

-- the state after all quiet steps, where a measure bounds their number
abbrev pub settle_by : {X : Type 0} → (X → Step X) → (X → ℕ) → X → X
settle_by step weight x = settle_within step (weight x) x

-- each quiet step lowers the measure
pub record IsLowering {X : Type 0} (step : X → Step X) (weight : X → ℕ) : Type 0 where
  pub lower : (x y : X) → step x ≡ Quiet y → weight y < weight x

-- some number of quiet steps leads from x to y, whose step is an act, a trap or an end; no other state is such a one
pub record Settles {X : Type 0} (step : X → Step X) (x y : X) : Type 0 where
  pub count : ℕ
  pub comes : Comes step count x y
  pub head : IsHead (step y)
  pub only : (k : ℕ) (z : X) → Comes step k x z → IsHead (step z) → z ≡ y

-- the state after a reply to the act; a reply that tells of a trap leaves it as it was
abbrev pub answered : {X : Type 0} → X → (Reply → X) → Reply → X
answered x go Done = go Done
answered x go (Got v) = go (Got v)
answered x go (Trapped t) = x

-- the state after a reply, where the step is an act
abbrev pub after_reply : {X : Type 0} → X → Step X → Reply → X
after_reply x (Quiet y) r = x
after_reply x (Acts a go) r = answered x go r
after_reply x (Traps t) r = x
after_reply x (Ends a) r = x
