-- A world that shows another one tells the same: the same threads may take a turn.
use Rattle.std.specs.Prelude.{◌≡◌, ◌==◌, ◌&&◌, ◌||◌, not, ℕ, ℤ, pos, negsuc, zero, suc, Bool, true, false, List, [], ◌∷◌, Option, None, Some, slice_get, refl}
use Rattle.std.proofs.Common.{ap, sym, subst, ◌∙◌}
use Rattle.kt_mem.specs.declared.steps.Act.{Act}
use Rattle.kt_mem.specs.declared.steps.Act.TheVariants as act
use Rattle.kt_mem.specs.Renaming.{Pairs}
use Rattle.kt_heap.specs.Heap.{IsPairing}
use Rattle.kt_heap.proofs.NumberLaws.{waits_by_number}
use Rattle.kt_meaning.specs.Steps.{Step, Quiet, Acts, Traps, Ends}
use Rattle.kt_world.specs.Shows.{AreAll, IsGivenAct, IsSameStep, IsShownThread, SameGoesOn, TellsSame, WhatIsShownIsTold, act_by, shared_by, standing_by}
use Rattle.kt_world.specs.Waiting.{any_enabled, enabled_as, enabled_if, if_other, is_enabled, is_running, is_turnable, is_waiting, joined, joined_at, waits_at}
use Rattle.kt_world.specs.World.{Engine, Shared, Standing, Live, Waiter, Parked, Ended, Thread, World, lives, takes_turns}

-- ---- standing

lives-by : (pairs : Pairs) (s u : Standing) → standing_by pairs s ≡ u → lives s ≡ lives u
lives-by pairs Live u is = ap lives is
lives-by pairs (Waiter n k) u is = ap lives is
lives-by pairs Parked u is = ap lives is
lives-by pairs Ended u is = ap lives is

module _ {X Y : Type 0} (e : Engine X) (f : Engine Y) (pairs : Pairs) where
  abbrev AreShown : ℕ → List (Thread X) → List (Thread Y) → Type 0
  AreShown version l m = AreAll (IsShownThread e f version pairs) l m

  -- both or neither
  abbrev AreBoth : ℕ → Option (Thread X) → Option (Thread Y) → Type 0
  AreBoth version (Some a) (Some b) = IsShownThread e f version pairs a b
  AreBoth version None None = Unit {0}
  AreBoth version _ _ = ⊥

  at : (version : ℕ) (l : List (Thread X)) (m : List (Thread Y)) (t : ℕ) → AreShown version l m → AreBoth version (slice_get l t) (slice_get m t)
  at version [] [] t all = tt
  at version [] (b ∷ m) t all = absurd all
  at version (a ∷ l) [] t all = absurd all
  at version (a ∷ l) (b ∷ m) zero all = all.0
  at version (a ∷ l) (b ∷ m) (suc t) all = at version l m t all.1

  -- ---- waiting

  running : (version : ℕ) (o : Option (Thread X)) (p : Option (Thread Y)) → AreBoth version o p → is_running o ≡ is_running p
  running version None None both = refl
  running version (Some a) (Some b) both = lives-by pairs a.standing b.standing both.standing
  running version None (Some b) both = absurd both
  running version (Some a) None both = absurd both

  joins-same : (version : ℕ) (l : List (Thread X)) (m : List (Thread Y)) (t : ℕ) (z : ℤ) → AreShown version l m → is_running (joined l t z) ≡ is_running (joined m t z)
  joins-same version l m t (negsuc n) all = refl
  joins-same version l m t (pos zero) all = refl
  joins-same version l m t (pos (suc n)) all = by (suc n == t) refl
    where
      by : (b : Bool) → (suc n == t) ≡ b → is_running (joined_at l t (suc n)) ≡ is_running (joined_at m t (suc n))
      by true is = subst (λ b. is_running (if_other b (slice_get l (suc n))) ≡ is_running (if_other b (slice_get m (suc n)))) (sym is) refl
      by false is = subst (λ b. is_running (if_other b (slice_get l (suc n))) ≡ is_running (if_other b (slice_get m (suc n)))) (sym is) (running version (slice_get l (suc n)) (slice_get m (suc n)) (at version l m (suc n) all))

  module _ (s : Shared) (pairing : IsPairing pairs s.memory) (l : List (Thread X)) (m : List (Thread Y)) (all : AreShown s.version l m) where
    abbrev left : World X
    left = record { shared = s; threads = l }

    abbrev right : World Y
    right = record { shared = shared_by pairs s; threads = m }

    waits-same : (t : ℕ) (a : Act) → IsGivenAct pairs a → waits_at left t a ≡ waits_at right t (act_by pairs a)
    waits-same t (act.Lock p) given = sym (waits_by_number pairs s.memory t p pairing given)
    waits-same t (act.Join n) given = joins-same s.version l m t n all
    waits-same t act.Tick given = refl
    waits-same t (act.Load p u) given = refl
    waits-same t (act.Store p u v) given = refl
    waits-same t (act.Allocate u n zeros) given = refl
    waits-same t (act.Release p) given = refl
    waits-same t (act.Unlock p) given = refl
    waits-same t (act.InitMutex p) given = refl
    waits-same t act.GetChar given = refl
    waits-same t (act.Wait p) given = refl
    waits-same t (act.Signal p every) given = refl
    waits-same t (act.Print pieces) given = refl
    waits-same t (act.Create g v) given = refl
    waits-same t (act.Point n) given = refl
    waits-same t (act.MigrateLocal g n) given = refl
    waits-same t act.Automigrate given = refl
    waits-same t (act.UpdatingTest n) given = refl
    waits-same t act.ThreadEnd given = refl
    waits-same t (act.MainReturn n) given = refl

    waiting-same : (t : ℕ) (x : Step X) (y : Step Y) → IsSameStep pairs x y → is_waiting left t x ≡ is_waiting right t y
    waiting-same t (Acts a go) (Acts b on) same = waits-same t a same.0 ∙ ap (waits_at right t) same.1
    waiting-same t (Traps c) (Traps d) same = refl
    waiting-same t (Ends a) (Ends b) same = refl
    waiting-same t (Quiet x) y same = absurd same
    waiting-same t (Acts a go) (Quiet y) same = absurd same
    waiting-same t (Acts a go) (Traps d) same = absurd same
    waiting-same t (Acts a go) (Ends b) same = absurd same
    waiting-same t (Traps c) (Quiet y) same = absurd same
    waiting-same t (Traps c) (Acts b on) same = absurd same
    waiting-same t (Traps c) (Ends b) same = absurd same
    waiting-same t (Ends a) (Quiet y) same = absurd same
    waiting-same t (Ends a) (Acts b on) same = absurd same
    waiting-same t (Ends a) (Traps d) same = absurd same

    -- ---- enabled

    -- what waits asks only of threads that take turns
    stands-same : (u v : Standing) (turnable x y : Bool) → standing_by pairs u ≡ v → (takes_turns u ≡ true → x ≡ y) →
        (takes_turns u && turnable && not x) ≡ (takes_turns v && turnable && not y)
    stands-same Live v turnable x y is same = subst (λ o. (true && turnable && not x) ≡ (takes_turns o && turnable && not y)) is (ap (λ b. true && turnable && not b) (same refl))
    stands-same (Waiter n k) v turnable x y is same = subst (λ o. false ≡ (takes_turns o && turnable && not y)) is refl
    stands-same Parked v turnable x y is same = subst (λ o. false ≡ (takes_turns o && turnable && not y)) is refl
    stands-same Ended v turnable x y is same = subst (λ o. false ≡ (takes_turns o && turnable && not y)) is refl

    turns-live : (u : Standing) → takes_turns u ≡ true → lives u ≡ true
    turns-live Live h = refl
    turns-live (Waiter n k) h = absurd cc
    turns-live Parked h = absurd cc
    turns-live Ended h = absurd cc

    as-same : (t : ℕ) (a : Thread X) (b : Thread Y) → IsShownThread e f s.version pairs a b → enabled_as e left t a ≡ enabled_as f right t b
    as-same t a b shown =
        stands-same a.standing b.standing (is_turnable s.phase t)
        (is_waiting left t (e.step s.version a.state)) (is_waiting right t (f.step s.version b.state)) shown.standing
        (λ h. waiting-same t (e.step s.version a.state) (f.step s.version b.state)
        (shown.does (turns-live a.standing h) []).step)

    if-same : (t : ℕ) (o : Option (Thread X)) (p : Option (Thread Y)) → AreBoth s.version o p → enabled_if e left t o ≡ enabled_if f right t p
    if-same t None None both = refl
    if-same t (Some a) (Some b) both = as-same t a b both
    if-same t None (Some b) both = absurd both
    if-same t (Some a) None both = absurd both

    enabled-same : (t : ℕ) → is_enabled e left t ≡ is_enabled f right t
    enabled-same t = if-same t (slice_get l t) (slice_get m t) (at s.version l m t all)

    any-same : (t : ℕ) (k : List (Thread X)) (n : List (Thread Y)) → AreShown s.version k n → any_enabled e left t k ≡ any_enabled f right t n
    any-same t [] [] each = refl
    any-same t [] (b ∷ n) each = absurd each
    any-same t (a ∷ k) [] each = absurd each
    any-same t (a ∷ k) (b ∷ n) each =
        ap (λ c. c || any_enabled e left (suc t) k) (as-same t a b each.0) ∙ ap (λ c. enabled_as f right t b || c) (any-same (suc t) k n each.1)

    tells-same : TellsSame e f left right
    tells-same = record {
      version = refl;
      phase = refl;
      output = refl;
      turns = refl;
      marks = refl;
      ended = refl;
      enabled = enabled-same;
      any = any-same 0 l m all;
    }

pub what-is-shown-is-told : {X Y : Type 0} (e : Engine X) (f : Engine Y) → WhatIsShownIsTold e f
what-is-shown-is-told e f pairs w v shows =
    subst (λ s. TellsSame e f w (record { shared = s; threads = v.threads })) shows.shared
    (tells-same e f pairs w.shared shows.pairing w.threads v.threads shows.threads)

pub same-goes-on : {X Y : Type 0} (e : Engine X) (f : Engine Y) → SameGoesOn e f
same-goes-on e f version old new x y r same grows kind given = λ replies. (same ((new, r) ∷ replies)).1 grows kind given
